-- One line taken from those that are left.
use Rattle.std.proofs.Common.{◌≡◌, ℕ, zero, suc, ◌<◌, ◌≤◌, List, [], ◌∷◌, length, refl, ap, arith, length-drop}
use Rattle.text.specs.Lines.{first_line, after_line, lines, lines_of}

pub shorter : (b : ℕ) (bs : List ℕ) → length (after_line (b ∷ bs)) ≤ length bs
shorter b bs = simp length-drop (omega arith)

-- as many lines as there are bytes are all the lines
enough : (n m : ℕ) (bs : List ℕ) → length bs ≤ n → length bs ≤ m → lines n bs ≡ lines m bs
unfolding lines
enough zero zero bs h k = refl
enough zero (suc m) [] h k = refl
enough zero (suc m) (b ∷ bs) h k = absurd (omega arith)
enough (suc n) zero [] h k = refl
enough (suc n) zero (b ∷ bs) h k = absurd (omega arith)
enough (suc n) (suc m) [] h k = refl
enough (suc n) (suc m) (b ∷ bs) h k =
    let s = shorter b bs in
    ap (λ (ls : List (List ℕ)). first_line (b ∷ bs) ∷ ls) (enough n m (after_line (b ∷ bs)) (omega arith) (omega arith))

pub none_left : (bs : List ℕ) → length bs ≡ 0 → ((lines_of bs ≡ []) × (lines_of bs ≡ [])) × (bs ≡ after_line bs)
unfolding lines
none_left [] h = ((refl, refl), refl)
none_left (b ∷ bs) h = absurd (omega arith)

pub taken : (bs line rest : List ℕ) → 0 < length bs → line ≡ first_line bs → rest ≡ after_line bs → (lines_of bs ≡ line ∷ lines_of rest) × (rest ≡ after_line bs)
unfolding lines
taken [] line rest h e f = absurd (omega arith)
taken (b ∷ bs) line rest h e f =
    let s = shorter b bs in
    rw (e, f) (ap (λ (ls : List (List ℕ)). first_line (b ∷ bs) ∷ ls) (enough (length bs) (length (after_line (b ∷ bs))) (after_line (b ∷ bs)) (omega arith) (omega arith)), refl)

-- what a line that is taken says of the bytes before it, and what no line says
pub line_taken : (bs line : List ℕ) (ls : List (List ℕ)) → lines_of bs ≡ line ∷ ls → (0 < length bs) × (line ≡ first_line bs)
unfolding lines
line_taken [] line ls e = cc
line_taken (b ∷ bs) line ls e = (omega arith, cc)

pub no_line : (bs : List ℕ) → lines_of bs ≡ [] → (length bs ≤ 0) × (after_line bs ≡ bs)
unfolding lines
no_line [] e = (omega arith, refl)
no_line (b ∷ bs) e = cc
