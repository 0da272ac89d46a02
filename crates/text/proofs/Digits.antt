-- A number read digit by digit.
use Rattle.std.proofs.Common.{◌≡◌, ℕ, ◌+◌, ◌-◌, ◌*◌, ◌^◌, ◌<◌, ◌≤◌, true, ◌&&◌, leb, List, ◌∷◌, length, get_or, drop, Some, refl, sym, ap, ◌∙◌, pow-suc, add-one, arith, lit≤}
use native.Mathlib.Nat.{pow-le-pow_right}
use Rattle.std.proofs.lemmas.List.{at_drop_more, drop_all}
use Rattle.std.proofs.lemmas.Bool.Decides.{nat_tests}
use Rattle.text.specs.Words.{digits_after, numeral}

-- after i digits of the word, n is what they write
pub record Reading (bs : List ℕ) (i n : ℕ) : Type 0 where
  pub goes : numeral bs ≡ digits_after n (drop i bs)
  pub small : n < 10 ^ i

pub goes_on : (bs : List ℕ) (i n d : ℕ) → Reading bs i n → i < length bs → (leb 48 (get_or bs i 0) && leb (get_or bs i 0) 57) ≡ true → d ≡ get_or bs i 0 - 48 → Reading bs (i + 1) (n * 10 + d)
goes_on bs i n d r h t q =
    let b = get_or bs i 0 in
    let e : digits_after n (drop i bs) ≡ digits_after n (b ∷ drop (i + 1) bs) = at_drop_more (digits_after n) bs i 0 h in
    let m : digits_after n (b ∷ drop (i + 1) bs) ≡ digits_after (n * 10 + (b - 48)) (drop (i + 1) bs) = rw t refl in
    let p : 10 ^ (i + 1) ≡ 10 ^ i * 10 = ap (λ k. 10 ^ k) (add-one i) ∙ pow-suc 10 i in
    let u : b ≤ 57 = grind (arith, nat_tests) in
    record { goes = r.goes ∙ e ∙ m ∙ ap (λ k. digits_after (n * 10 + k) (drop (i + 1) bs)) (sym q); small = omega (arith, p, u, q, r.small) }

pub ends : (bs : List ℕ) (i n : ℕ) → Reading bs i n → length bs ≤ i → numeral bs ≡ Some n
ends bs i n r h = r.goes ∙ ap (digits_after n) (drop_all i bs h)

pub below : (bs : List ℕ) (i n k : ℕ) → Reading bs i n → i ≤ k → n < 10 ^ k
below bs i n k r h = let p : 10 ^ i ≤ 10 ^ k = pow-le-pow_right (lit≤ tt) h in omega (arith, p, r.small)
