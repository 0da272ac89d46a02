-- The memory behind a register and its station records, and the slips that calls hand out and hand back.
use Rattle.std.specs.Prelude.{ℕ, List}
use Rattle.protocol.specs.declared.Cell.{Cell}
use Rattle.protocol.specs.declared.Station.{Station}
use Rattle.protocol.specs.declared.Refusal.{Refusal}
use Rattle.protocol.specs.Calls.{World, Out, Result, Ok, Err, SlipNumbers}
use Rattle.register.specs.declared.Register.{Register}
use Rattle.register.specs.declared.slips.Slip.{Slip}
use Rattle.register.specs.declared.slips.Refused.{Refused}

module _ {K : Type 0} where
  abbrev pub world : ℕ → List (Cell K) → List (Station K) → World K
  world number cells stations = record { number = number; cells = cells; stations = stations }

  -- behind a register and these station records
  abbrev pub behind : Register K → List (Station K) → World K
  behind r stations = world r.number r.cells.now stations

-- a slip has the two numbers that a beginning gives
abbrev pub slip_of : Result SlipNumbers Refusal → Result Slip Refusal
slip_of (Ok n) = Ok record { register = n.0; station = n.1 }
slip_of (Err e) = Err e

-- a refused slip is handed back
abbrev pub back : {A : Type 0} → Slip → Result A Refusal → Result A Refused
back slip (Ok a) = Ok a
back slip (Err e) = Err record { slip = slip; refusal = e }

module _ {K : Type 0} where
  abbrev pub hands_out : Out K SlipNumbers → World K × Result Slip Refusal
  hands_out o = (o.0, slip_of o.1)

  abbrev pub hands_back : {A : Type 0} → Slip → Out K A → World K × Result A Refused
  hands_back slip o = (o.0, back slip o.1)
