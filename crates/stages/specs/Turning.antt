-- The turn of an entry over N cells: what it leaves of the cells and of the entry, and whether it was made.
use Rattle.std.specs.Prelude.{ℕ, cond, List}
use Rattle.protocol.specs.declared.Cell.{Cell}
use Rattle.protocol.specs.declared.Refusal.{Refusal}
use Rattle.protocol.specs.declared.Refusal.TheVariants.{WrongSize, NoCell}
use Rattle.protocol.specs.Cells.{cells_after}
use Rattle.protocol.specs.Stages.{names_cells}
use Rattle.protocol.specs.Step.{Kind, Decision}
use Rattle.protocol.specs.Calls.{Result, Ok, Err, bad_size, decision}
use Rattle.stages.specs.declared.Entry.{Entry}

abbrev pub Turned : Type 0 → Type 0
Turned K = List (Cell K) × Entry K × Result (Unit {0}) Refusal

module _ {K : Type 0} (cs : List (Cell K)) (e : Entry K) where
  -- a refusal changes nothing
  abbrev pub turned_down : Refusal → Turned K
  turned_down r = (cs, e, Err r)

  -- the one act on the cells, and the next stage
  abbrev pub step_made : Decision K → Turned K
  step_made m = (cells_after m.act cs, record { key = e.key; stage = m.next }, Ok tt)

-- two checks, and then the step that the protocol says
abbrev pub turning : {K : Type 0} {N : ℕ} → Kind K N → List (Cell K) → Entry K → Turned K
turning {K} {N} κ cs e =
    cond (bad_size N) (turned_down cs e WrongSize)
    (cond (names_cells N e.stage) (step_made cs e (decision κ cs e.key e.stage)) (turned_down cs e NoCell))
