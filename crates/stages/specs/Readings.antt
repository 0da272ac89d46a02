-- What a step reads of the cells, and what a rule says without its effect.
use Rattle.std.specs.Prelude.{ℕ, zero, suc, true, cond, List}
use Rattle.std.specs.declared.cmp.Ordering.{Ordering}
use Rattle.protocol.specs.declared.Cell.{Cell}
use Rattle.protocol.specs.declared.Direction.{Direction}
use Rattle.protocol.specs.Cells.{Content, empty, holds, nth}
use Rattle.protocol.specs.Step.{Decision, Versus, none, is, copy_due, written, copied}
use Rattle.stages.specs.declared.rules.Move.{Move}

-- how the key that was read stands to the one being entered, if one was read
abbrev pub versus_of : Content Ordering → Versus
versus_of empty = none
versus_of (holds o) = is o

module _ {K : Type 0} where
  -- the cell at a place; an edge is none
  abbrev pub cell_at : List (Cell K) → ℕ → Content (Cell K)
  cell_at cs zero = empty
  cell_at cs (suc i) = nth cs i

  -- the key beside the gap, if it is to be copied
  abbrev pub due_of : (K → K → Ordering) → K → Direction → Content K → Content K
  due_of order k d empty = empty
  due_of order k d (holds x) = cond (copy_due d (order x k)) (holds x) empty

  -- the next stage and the act, without the effect
  abbrev pub move_of : Decision K → Move K
  move_of m = record { next = m.next; act = m.act }

  -- the shift: the key that is to be copied, if there is one
  abbrev pub at_gap : K → Direction → ℕ → ℕ → ℕ → Content K → Decision K
  at_gap k d l r g empty = written k l r g
  at_gap k d l r g (holds x) = copied k d l r g x true
