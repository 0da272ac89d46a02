-- The cells as they are printed, one after the other.
use Rattle.std.proofs.Common.{◌≡◌, ℕ, ◌+◌, ◌<◌, List, [], ◌∷◌, ◌++◌, length, get_or, take, codes, sym, ap, ◌∙◌, append_assoc, append-nil}
use Rattle.std.proofs.lemmas.List.{take_more}
use Rattle.keys.specs.declared.Tray.{Tray}
use Rattle.protocol.specs.declared.Cell.{Cell}
use Rattle.script.specs.Shown.{cell_text, spaced}

spaced_push : (cs : List (Cell Tray)) (c : Cell Tray) → spaced (cs ++ c ∷ []) ≡ spaced cs ++ (codes " " ++ cell_text c)
spaced_push [] c = ap (λ (x : List ℕ). codes " " ++ x) (append-nil (cell_text c))
spaced_push (d ∷ cs) c =
    ap (λ (x : List ℕ). codes " " ++ (cell_text d ++ x)) (spaced_push cs c)
    ∙ ap (λ (x : List ℕ). codes " " ++ x) (sym (append_assoc (cell_text d) (spaced cs) (codes " " ++ cell_text c)))

-- one more cell
pub row_more : (cs : List (Cell Tray)) (i : ℕ) (text text' : List ℕ) (c : Cell Tray) → i < length cs → text ≡ codes "cells:" ++ spaced (take i cs)
    → text' ≡ text ++ (codes " " ++ cell_text (get_or cs i c)) → text' ≡ codes "cells:" ++ spaced (take (i + 1) cs)
row_more cs i text text' c h t q =
    q ∙ ap (λ (x : List ℕ). x ++ (codes " " ++ cell_text (get_or cs i c))) t
    ∙ append_assoc (codes "cells:") (spaced (take i cs)) (codes " " ++ cell_text (get_or cs i c))
    ∙ ap (λ (x : List ℕ). codes "cells:" ++ x) (sym (spaced_push (take i cs) (get_or cs i c)))
    ∙ ap (λ (x : List (Cell Tray)). codes "cells:" ++ spaced x) (sym (take_more cs i c h))
