-- The lines of a script: how an order is written, and what each line orders.
use Rattle.std.specs.Prelude.{ℕ, cond, ◌&&◌, List, [], ◌∷◌, ◌++◌, length, Some, None, Ok, Err, codes, decimal, Option, Result, ◌==◌}
use Rattle.std.specs.Str.{bytes_eq}
use Rattle.keys.specs.declared.Tray.{Tray}
use Rattle.keys.specs.declared.AboveLimit.{AboveLimit}
use Rattle.keys.specs.Kinds.{tray_of, refusal_text}
use Rattle.text.specs.Words.{first_word, after_word, numeral}
use Rattle.script.specs.declared.orders.Order.{Order}
use Rattle.script.specs.declared.orders.Order.TheVariants as order
use Rattle.script.specs.declared.orders.Fault.{Fault}
use Rattle.script.specs.declared.orders.Fault.TheVariants.{Malformed, NoTray}

-- an order as it is written
abbrev pub order_text : Order → List ℕ
order_text (order.Begin s k) = codes "begin " ++ (decimal s ++ (codes " " ++ decimal k.number))
order_text (order.Step s) = codes "step " ++ decimal s
order_text (order.Collect s) = codes "collect " ++ decimal s
order_text (order.Withdraw s) = codes "withdraw " ++ decimal s
order_text (order.Enter k) = codes "enter " ++ decimal k.number
order_text order.Show = codes "show"

-- why a line is no order, as it is printed
abbrev pub fault_text : Fault → List ℕ
fault_text Malformed = codes "MALFORMED"
fault_text (NoTray e) = refusal_text e

-- a station's number
abbrev pub station_by : Option ℕ → Result ℕ Fault
station_by None = Err Malformed
station_by (Some n) = Ok n

abbrev pub station_in : List ℕ → Result ℕ Fault
station_in w = station_by (numeral w)

-- a tray, refused above 999
abbrev pub tray_fault : Result Tray AboveLimit → Result Tray Fault
tray_fault (Ok k) = Ok k
tray_fault (Err e) = Err (NoTray e)

abbrev pub tray_by : Option ℕ → Result Tray Fault
tray_by None = Err Malformed
tray_by (Some n) = tray_fault (tray_of n)

abbrev pub tray_in : List ℕ → Result Tray Fault
tray_in w = tray_by (numeral w)

-- an order with what it names
abbrev pub and_then : {A B : Type 0} → Result A Fault → (A → Result B Fault) → Result B Fault
and_then (Err f) go = Err f
and_then (Ok x) go = go x

abbrev pub begin_in : List ℕ → Result Order Fault
begin_in words = and_then (station_in (first_word words)) (λ s. and_then (tray_in (after_word words)) (λ k. Ok (order.Begin s k)))

-- an order, by its first word and what follows it
abbrev pub order_in : List ℕ → List ℕ → Result Order Fault
order_in word rest =
    cond (bytes_eq word (codes "begin")) (begin_in rest)
    (cond (bytes_eq word (codes "step")) (and_then (station_in rest) (λ s. Ok (order.Step s)))
    (cond (bytes_eq word (codes "collect")) (and_then (station_in rest) (λ s. Ok (order.Collect s)))
    (cond (bytes_eq word (codes "withdraw")) (and_then (station_in rest) (λ s. Ok (order.Withdraw s)))
    (cond (bytes_eq word (codes "enter")) (and_then (tray_in rest) (λ k. Ok (order.Enter k)))
    (cond (bytes_eq word (codes "show") && length rest == 0) (Ok order.Show) (Err Malformed))))))

-- an empty line, or one that begins with a number sign, orders nothing
abbrev pub line_in : List ℕ → Result (Option Order) Fault
line_in [] = Ok None
line_in (b ∷ bs) = cond (b == 0x23) (Ok None) (and_then (order_in (first_word (b ∷ bs)) (after_word (b ∷ bs))) (λ o. Ok (Some o)))
