-- What an order does to the memory and the slips in hand, and what it is answered.
use Rattle.std.specs.Prelude.{ℕ, false, List, Some, None, Ok, Err, Option, Result, slice_index_or, slice_set}
use Rattle.keys.specs.declared.Tray.{Tray}
use Rattle.keys.specs.Kinds.{tray_order, tray_home}
use Rattle.protocol.specs.declared.Station.{Station}
use Rattle.protocol.specs.declared.Stage.TheVariants.{Idle}
use Rattle.protocol.specs.declared.Refusal.{Refusal}
use Rattle.protocol.specs.Calls.{World, SlipNumbers}
use Rattle.protocol.specs.Turns.{begin, step, collect, withdraw, enter, turned}
use Rattle.register.specs.declared.Slip.{Slip}
use Rattle.script.specs.declared.orders.Order.{Order}
use Rattle.script.specs.declared.orders.Order.TheVariants as order
use Rattle.script.specs.declared.replies.Reply.{Reply}
use Rattle.script.specs.declared.replies.Reply.TheVariants.{Begun, Stepped, Told, Withdrawn, Refused, NoSlip, Shown}

-- a station's record before the opening
abbrev pub at_rest : Tray → Station Tray
at_rest filler = record { key = filler; stage = Idle; withdrawn = false }

-- the memory, the slips in hand, and the reply
abbrev pub After : Type 0
After = World Tray × List (Option Slip) × Reply

-- what is said where the register does not refuse
abbrev pub reply : {A : Type 0} → (A → Reply) → Result A Refusal → Reply
reply says (Ok a) = says a
reply says (Err e) = Refused e

-- a slip comes into hand with the beginning, and goes with the collection or the withdrawal, unless these are refused
abbrev pub with_slip : List (Option Slip) → ℕ → Result SlipNumbers Refusal → List (Option Slip)
with_slip slips s (Ok n) = slice_set slips s (Some record { register = n.0; station = n.1 })
with_slip slips s (Err e) = slips

abbrev pub without_slip : {A : Type 0} → List (Option Slip) → ℕ → Result A Refusal → List (Option Slip)
without_slip slips s (Ok a) = slice_set slips s None
without_slip slips s (Err e) = slips

-- Each order is the turn of the register by that name.
module _ (w : World Tray) (slips : List (Option Slip)) where
  abbrev pub begun : ℕ → Tray → After
  begun s k = let o = turned tray_order tray_home w (begin s k) in (o.0, with_slip slips s o.1, reply (λ n. Begun) o.1)

  abbrev pub stepped : ℕ → After
  stepped s = let o = turned tray_order tray_home w (step s) in (o.0, slips, reply Stepped o.1)

  abbrev pub entered : Tray → After
  entered k = let o = turned tray_order tray_home w (enter k) in (o.0, slips, reply Told o.1)

  -- with the slip of that station, if there is one in hand
  abbrev pub collected_by : ℕ → Option Slip → After
  collected_by s None = (w, slips, NoSlip)
  collected_by s (Some x) = let o = turned tray_order tray_home w (collect x.register x.station) in (o.0, without_slip slips s o.1, reply Told o.1)

  abbrev pub collected : ℕ → After
  collected s = collected_by s (slice_index_or slips s None)

  abbrev pub withdrawn_by : ℕ → Option Slip → After
  withdrawn_by s None = (w, slips, NoSlip)
  withdrawn_by s (Some x) = let o = turned tray_order tray_home w (withdraw x.register x.station) in (o.0, without_slip slips s o.1, reply Withdrawn o.1)

  abbrev pub withdrawn : ℕ → After
  withdrawn s = withdrawn_by s (slice_index_or slips s None)

-- what an order does; to show the cells changes nothing
abbrev pub obeyed : World Tray → List (Option Slip) → Order → After
obeyed w slips (order.Begin s k) = begun w slips s k
obeyed w slips (order.Step s) = stepped w slips s
obeyed w slips (order.Collect s) = collected w slips s
obeyed w slips (order.Withdraw s) = withdrawn w slips s
obeyed w slips (order.Enter k) = entered w slips k
obeyed w slips order.Show = (w, slips, Shown)
