use Rattle.std.proofs.Common.{◌≡◌, ℕ, suc, ◌≤◌, Bool, true, false, cond, List, length, sym, refl, suc-le-suc}
use Rattle.protocol.specs.declared.Cell.{Cell}
use Rattle.protocol.specs.Cells.{empty, content_at}
use Rattle.protocol.proofs.Places.{contents_past}

-- from the number of cells on there is no key
pub none_past : {K : Type 0} (cs : List (Cell K)) (i : ℕ) (b : Bool) → length cs ≤ i → empty ≡ cond b empty (content_at cs i)
none_past cs i true h = refl
none_past cs i false h = sym (contents_past cs (suc i) (suc-le-suc h))
