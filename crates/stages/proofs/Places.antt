-- The code reads and writes cell p - 1 where the rules speak of place p.
use Rattle.std.proofs.Common.{◌≡◌, ℕ, zero, suc, ◌-◌, ◌<◌, ◌≤◌, true, false, List, [], ◌∷◌, length, get_or, set, sym, refl, ap, ◌∙◌, le_of_suc-le-suc, not-suc-le-zero, arith}
use Rattle.std.proofs.lemmas.Bool.Decides.{nat_tests}
use Rattle.protocol.specs.declared.Cell.{Cell}
use Rattle.protocol.specs.Cells.{empty, holds, cell, content, content_at, marked_at, contents, marks, nth, alter, alter_place}
use Rattle.protocol.proofs.Places.{alter_past}
use Rattle.stages.specs.Readings.{cell_at}

module _ {K : Type 0} where
  content_nth : (cs : List (Cell K)) (i : ℕ) (c : Cell K) → nth cs i ≡ holds c → (content_at cs i ≡ content c) × (marked_at cs i ≡ c.marked) × (i < length cs)
  content_nth [] i c e = grind arith
  content_nth (x ∷ cs) zero c e = grind arith
  content_nth (x ∷ cs) (suc i) c e = grind (arith, content_nth cs i c e)

  content_none : (cs : List (Cell K)) (i : ℕ) → nth cs i ≡ empty → (content_at cs i ≡ empty) × (marked_at cs i ≡ false)
  content_none [] i e = (refl, refl)
  content_none (x ∷ cs) zero e = grind arith
  content_none (x ∷ cs) (suc i) e = content_none cs i e

  -- what is read of a cell
  pub read_cell : (cs : List (Cell K)) (p : ℕ) (c : Cell K) → cell_at cs p ≡ holds c → (contents cs p ≡ content c) × (marks cs p ≡ c.marked) × (p ≤ length cs)
  read_cell cs zero c e = grind arith
  read_cell cs (suc i) c e = content_nth cs i c e

  -- and of an edge
  pub read_edge : (cs : List (Cell K)) (p : ℕ) → cell_at cs p ≡ empty → (contents cs p ≡ empty) × (marks cs p ≡ false)
  read_edge cs zero e = (refl, refl)
  read_edge cs (suc i) e = content_none cs i e

  alter_set : (f : Cell K → Cell K) (cs : List (Cell K)) (i : ℕ) (d : Cell K) → i < length cs → alter f i cs ≡ set cs i (f (get_or cs i d))
  alter_set f [] i d h = absurd (not-suc-le-zero h)
  alter_set f (c ∷ cs) zero d h = refl
  alter_set f (c ∷ cs) (suc i) d h = ap (λ x. c ∷ x) (alter_set f cs i d (le_of_suc-le-suc h))

  pub write_cell : (f : Cell K → Cell K) (cs : List (Cell K)) (p : ℕ) (d : Cell K) → true ≡ cell (length cs) p
      → set cs (p - 1) (f (get_or cs (p - 1) d)) ≡ alter_place f p cs
  write_cell f cs zero d e = let h : 0 < 0 = grind (arith, nat_tests) in absurd (not-suc-le-zero h)
  write_cell f cs (suc i) d e =
      let z : suc i - 1 ≡ i = omega arith in
      let h : i < length cs = grind (arith, nat_tests) in
      ap (λ j. set cs j (f (get_or cs j d))) z ∙ sym (alter_set f cs i d h)

  pub write_edge : (f : Cell K → Cell K) (cs : List (Cell K)) (p : ℕ) → false ≡ cell (length cs) p → cs ≡ alter_place f p cs
  write_edge f cs zero e = refl
  write_edge f cs (suc i) e = let h : length cs ≤ i = grind (arith, nat_tests) in sym (alter_past f i cs h)
