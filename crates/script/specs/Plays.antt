-- What a script comes to, line by line.
use Rattle.std.specs.Prelude.{ℕ, ◌+◌, List, [], ◌∷◌, ◌++◌, replicate, Some, None, Ok, Err, codes, decimal, Option, Result}
use Rattle.keys.specs.declared.Tray.{Tray}
use Rattle.protocol.specs.declared.Cell.{Cell}
use Rattle.protocol.specs.Calls.{World, opening}
use Rattle.register.specs.declared.Slip.{Slip}
use Rattle.text.specs.Lines.{lines_of}
use Rattle.script.specs.declared.orders.Order.{Order}
use Rattle.script.specs.declared.orders.Order.TheVariants as order
use Rattle.script.specs.declared.orders.Fault.{Fault}
use Rattle.script.specs.declared.replies.Reply.{Reply}
use Rattle.script.specs.declared.replies.Reply.TheVariants.{Nothing, Faulty}
use Rattle.script.specs.Orders.{order_text, line_in}
use Rattle.script.specs.Sessions.{at_rest, obeyed}
use Rattle.script.specs.Shown.{row_text, reply_text}

-- the memory and the slips in hand after a line, its reply, and what is printed of it
pub record Outcome : Type 0 where
  pub memory : World Tray
  pub slips : List (Option Slip)
  pub reply : Reply
  pub text : List ℕ

-- an order is printed with its line's number and its reply; to show prints the cells
abbrev pub order_line : ℕ → Order → Reply → List ℕ
order_line n o r = decimal n ++ (codes " " ++ (order_text o ++ (codes ": " ++ (reply_text r ++ 0x0A ∷ []))))

abbrev pub printed : ℕ → Order → Reply → World Tray → List ℕ
printed n (order.Begin s k) r w = order_line n (order.Begin s k) r
printed n (order.Step s) r w = order_line n (order.Step s) r
printed n (order.Collect s) r w = order_line n (order.Collect s) r
printed n (order.Withdraw s) r w = order_line n (order.Withdraw s) r
printed n (order.Enter k) r w = order_line n (order.Enter k) r
printed n order.Show r w = row_text w.cells ++ 0x0A ∷ []

module _ (w : World Tray) (slips : List (Option Slip)) (n : ℕ) where
  -- a line that is no order is named by its number and passed over
  abbrev pub outcome_by : Result (Option Order) Fault → Outcome
  outcome_by (Ok None) = record { memory = w; slips = slips; reply = Nothing; text = [] }
  outcome_by (Ok (Some o)) =
      let a = obeyed w slips o in record { memory = a.0; slips = a.1; reply = a.2; text = printed n o a.2 a.0 }
  outcome_by (Err f) =
      record { memory = w; slips = slips; reply = Faulty f; text = codes "line " ++ (decimal n ++ (codes ": " ++ (reply_text (Faulty f) ++ 0x0A ∷ []))) }

  -- the n-th line
  abbrev pub outcome : List ℕ → Outcome
  outcome line = outcome_by (line_in line)

-- the memory and the slips in hand after some lines, their replies, and what is printed of them
pub record Played : Type 0 where
  pub memory : World Tray
  pub slips : List (Option Slip)
  pub replies : List Reply
  pub text : List ℕ

-- the lines from the n-th on
unfoldable pub played : World Tray → List (Option Slip) → ℕ → List (List ℕ) → Played
played w slips n [] = record { memory = w; slips = slips; replies = []; text = [] }
played w slips n (l ∷ ls) =
    let o = outcome w slips n l in
    let p = played o.memory o.slips (n + 1) ls in
    record { memory = p.memory; slips = p.slips; replies = o.reply ∷ p.replies; text = o.text ++ p.text }

-- a whole script, over a register of these cells with four stations
abbrev pub from_opening : ℕ → List (Cell Tray) → Tray → List ℕ → Played
from_opening number cells filler script = played (opening number cells (replicate 4 (at_rest filler)) filler) (replicate 4 None) 1 (lines_of script)
