-- UTF-8 there and back: the bytes of a code point begin with it, and bytes that begin with a code point begin with its bytes.
use Rattle.std.proofs.Common.{◌≡◌, ℕ, ◌+◌, ◌-◌, ◌*◌, ◌≤◌, Bool, true, false, cond, ◌&&◌, leb, List, [], ◌∷◌, length, Some, None, Option, sym, refl, ap, subst, arith}
use Rattle.std.proofs.lemmas.Bool.{and_parts}
use Rattle.std.proofs.lemmas.Bool.Decides.{nat_tests}
use Rattle.std.proofs.lemmas.Option.{cond_some}
use Rattle.names.specs.Utf8.{inside, Scalar, encoded, continues, fits3, fits4, two, three, four, first}

pub there : (c : ℕ) (rest : List ℕ) → Scalar c → first (encoded c rest) ≡ Some (c, rest)
there c rest k = grind (arith, nat_tests)

-- and back
pub record Back (c : ℕ) (bs rest : List ℕ) : Type 0 where
  pub scalar : Scalar c
  pub bytes : bs ≡ encoded c rest

two_back : (b c : ℕ) (bs rest : List ℕ) → 194 ≤ b → b ≤ 223 → two b bs ≡ Some (c, rest) → Back c (b ∷ bs) rest
two_back b c [] rest h k e = cc
two_back b c (d ∷ bs) rest h k e = record { scalar = grind (arith, nat_tests); bytes = grind (arith, nat_tests) }

back_three : (b d g c : ℕ) (rest : List ℕ) → 224 ≤ b → b ≤ 239 → (fits3 b d && continues g) ≡ true → c ≡ (b - 224) * 4096 + (d - 128) * 64 + (g - 128) → Back c (b ∷ d ∷ g ∷ rest) rest
back_three b d g c rest h k t e = record { scalar = grind (arith, nat_tests); bytes = grind (arith, nat_tests) }

three_back : (b c : ℕ) (bs rest : List ℕ) → 224 ≤ b → b ≤ 239 → three b bs ≡ Some (c, rest) → Back c (b ∷ bs) rest
three_back b c [] rest h k e = cc
three_back b c (d ∷ []) rest h k e = cc
three_back b c (d ∷ g ∷ bs) rest h k e =
    let o = cond_some _ _ _ e in
    let t = (and_parts (leb 2 (length (d ∷ g ∷ bs))) (fits3 b d && continues g) o.0).1 in
    subst (Back c (b ∷ d ∷ g ∷ bs)) (ap (λ p. p.1) o.1) (back_three b d g c bs h k t (sym (ap (λ p. p.0) o.1)))

back_four : (b d g i c : ℕ) (rest : List ℕ) → (fits4 b d && (continues g && continues i)) ≡ true → c ≡ (b - 240) * 262144 + (d - 128) * 4096 + (g - 128) * 64 + (i - 128) → Back c (b ∷ d ∷ g ∷ i ∷ rest) rest
back_four b d g i c rest t e = record { scalar = grind (arith, nat_tests); bytes = grind (arith, nat_tests) }

four_back : (b c : ℕ) (bs rest : List ℕ) → four b bs ≡ Some (c, rest) → Back c (b ∷ bs) rest
four_back b c [] rest e = cc
four_back b c (d ∷ []) rest e = cc
four_back b c (d ∷ g ∷ []) rest e = cc
four_back b c (d ∷ g ∷ i ∷ bs) rest e =
    let o = cond_some _ _ _ e in
    let t = (and_parts (leb 3 (length (d ∷ g ∷ i ∷ bs))) (fits4 b d && (continues g && continues i)) o.0).1 in
    subst (Back c (b ∷ d ∷ g ∷ i ∷ bs)) (ap (λ p. p.1) o.1) (back_four b d g i c bs t (sym (ap (λ p. p.0) o.1)))

one_back : (b c : ℕ) (bs rest : List ℕ) → b ≤ 127 → ◌≡◌ {A = Option (ℕ × List ℕ)} (Some (b, bs)) (Some (c, rest)) → Back c (b ∷ bs) rest
one_back b c bs rest h e = record { scalar = grind (arith, nat_tests); bytes = grind (arith, nat_tests) }

back_by : (b c : ℕ) (bs rest : List ℕ) (p q r s : Bool) → p ≡ leb b 127 → q ≡ inside 194 223 b → r ≡ inside 224 239 b → cond {A = Option (ℕ × List ℕ)} p (Some (b, bs)) (cond q (two b bs) (cond r (three b bs) (cond s (four b bs) None))) ≡ Some (c, rest) → Back c (b ∷ bs) rest
back_by b c bs rest true q r s x y z e = one_back b c bs rest (grind (arith, nat_tests)) e
back_by b c bs rest false true r s x y z e = two_back b c bs rest (grind (arith, nat_tests)) (grind (arith, nat_tests)) e
back_by b c bs rest false false true s x y z e = three_back b c bs rest (grind (arith, nat_tests)) (grind (arith, nat_tests)) e
back_by b c bs rest false false false true x y z e = four_back b c bs rest e
back_by b c bs rest false false false false x y z e = cc

pub back : (bs rest : List ℕ) (c : ℕ) → first bs ≡ Some (c, rest) → Back c bs rest
back [] rest c e = cc
back (b ∷ bs) rest c e = back_by b c bs rest (leb b 127) (inside 194 223 b) (inside 224 239 b) (inside 240 244 b) refl refl refl (grind (arith, nat_tests))
