-- The checks of the calls: the refusal, or what the call goes on with.
use Rattle.std.specs.Prelude.{ℕ, Bool, cond, List, length}
use Rattle.protocol.specs.declared.Station.{Station}
use Rattle.protocol.specs.declared.Answer.{Answer}
use Rattle.protocol.specs.declared.Refusal.{Refusal}
use Rattle.protocol.specs.declared.Refusal.TheVariants.{NoStation, NoEntry, NotAnswered}
use Rattle.protocol.specs.Cells.{Content, empty, holds, nth}
use Rattle.protocol.specs.Stages.{Standing, resting, homing, under_way, done}
use Rattle.protocol.specs.Calls.{Result, Ok, Err, bad_count}

-- refused with e where b holds
abbrev pub refused_when : Bool → Refusal → Result (Unit {0}) Refusal
refused_when b e = cond b (Err e) (Ok tt)

module _ {K : Type 0} where
  abbrev pub seated : Content (Station K) → Result (Station K) Refusal
  seated empty = Err NoStation
  seated (holds t) = Ok t

  -- the record of station s
  abbrev pub seat : List (Station K) → ℕ → Result (Station K) Refusal
  seat ts s = cond (bad_count (length ts)) (Err NoStation) (seated (nth ts s))

-- the answer of an entry that has one
abbrev pub answer_by : Standing → Result Answer Refusal
answer_by resting = Err NoEntry
answer_by homing = Err NotAnswered
answer_by under_way = Err NotAnswered
answer_by (done a) = Ok a
