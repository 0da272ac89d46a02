-- What the shift makes of the key that it is to copy is the step that the protocol says.
use Rattle.std.proofs.Common.{◌≡◌, ℕ, Bool, true, false, cond, refl}
use Rattle.protocol.specs.declared.Direction.{Direction}
use Rattle.protocol.specs.Cells.{Content, empty, holds}
use Rattle.protocol.specs.Step.{Kind, copy_due, copied, at_shift}
use Rattle.stages.specs.Readings.{due_of, at_gap}

module _ {K : Type 0} {N : ℕ} (κ : Kind K N) (k : K) (d : Direction) (l r g : ℕ) where
  copied_read : (x : K) (b : Bool) → at_gap k d l r g (cond b (holds x) empty) ≡ copied k d l r g x b
  copied_read x true = refl
  copied_read x false = refl

  pub shift_read : (c : Content K) → at_gap k d l r g (due_of κ.order k d c) ≡ at_shift κ k d l r g c
  shift_read empty = refl
  shift_read (holds x) = copied_read x (copy_due d (κ.order x k))
