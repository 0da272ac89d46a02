-- The rule of the table of digits, by computed tests of the whole table, and what the canonical mappings keep to.
use Rattle.std.proofs.Common.{◌≡◌, ℕ, zero, suc, ◌+◌, ◌-◌, ◌<◌, ◌≤◌, Bool, true, false, not, ◌&&◌, ◌||◌, eqb, ltb, List, [], ◌∷◌, length, get_or, Some, None, Option, refl, arith}
use Rattle.std.proofs.lemmas.Bool.Decides.{nat_tests}
use Rattle.std.proofs.lemmas.Bool.{and_parts}
use Rattle.names.specs.Utf8.{inside}
use Rattle.names.specs.Decomposition.{mappings, lookup, canonical}
use Rattle.names.specs.Letters.{place_in, marks, mark_number, plain_number, letter_number, letter_of, digit_by, TableRule}

-- x stands nowhere in the list
abbrev pub absent : ℕ → List ℕ → Bool
absent x [] = true
absent x (y ∷ ys) = not (eqb x y) && absent x ys

-- each entry is 0 or stands nowhere later
abbrev pub distinct : List ℕ → Bool
distinct [] = true
distinct (x ∷ xs) = (eqb x 0 || absent x xs) && distinct xs

absent_at : (x : ℕ) (ys : List ℕ) → absent x ys ≡ true → (j : ℕ) → j < length ys → x ≡ get_or ys j 0 → ⊥
absent_at x [] t j h e = absurd (omega arith)
absent_at x (y ∷ ys) t zero h e = grind (arith, nat_tests)
absent_at x (y ∷ ys) t (suc j) h e = grind (arith, nat_tests, absent_at x ys)

apart_from_test : (t : List ℕ) → distinct t ≡ true → (i j : ℕ) → i < j → j < length t → 0 < get_or t i 0 → get_or t i 0 ≡ get_or t j 0 → ⊥
apart_from_test [] q i j l h p e = absurd (omega arith)
apart_from_test (x ∷ xs) q i zero l h p e = absurd (omega arith)
apart_from_test (x ∷ xs) q zero (suc j) l h p e = grind (arith, nat_tests, absent_at x xs)
apart_from_test (x ∷ xs) q (suc i) (suc j) l h p e = grind (arith, nat_tests, apart_from_test xs)

-- the entries are the digits of the code points from n on
unfoldable pub right : ℕ → List ℕ → Bool
right n [] = true
right n (x ∷ xs) = eqb x (digit_by (letter_of n)) && right (suc n) xs

each_from_test : (n : ℕ) (t : List ℕ) → right n t ≡ true → (i : ℕ) → i < length t → get_or t i 0 ≡ digit_by (letter_of (n + i))
unfolding right
each_from_test n [] q i h = absurd (omega arith)
each_from_test n (x ∷ xs) q zero h = grind (arith, nat_tests)
each_from_test n (x ∷ xs) q (suc i) h = let z : n + suc i ≡ suc n + i = omega arith in rw z (grind (arith, nat_tests, each_from_test (suc n) xs))

-- the tests compute
pub table_rule : (t : List ℕ) → length t ≡ 192 → right 192 t ≡ true → distinct t ≡ true → TableRule t
table_rule t n e d = record { all = n; each = each_from_test 192 t e; apart = apart_from_test t d }

-- What the canonical mappings keep to: they map from 00C0 to 017F, to a plain letter and one of the marks.
abbrev pub sound : ℕ → ℕ → ℕ → Bool
sound c b m = inside 192 383 c && (ltb b 128 && (inside 5 56 (letter_number b) && (eqb (letter_number b) (plain_number b) && ltb 0 (place_in 1 marks m))))

-- a test of every entry
abbrev each : (ℕ → ℕ → ℕ → Bool) → List (ℕ × ℕ × ℕ) → Bool
each P [] = true
each P (e ∷ es) = P e.0 e.1 e.2 && each P es

lookup_each : (P : ℕ → ℕ → ℕ → Bool) (es : List (ℕ × ℕ × ℕ)) → each P es ≡ true → (c b m : ℕ) → lookup es c ≡ Some (b, m) → P c b m ≡ true
lookup_each P [] t c b m e = cc
lookup_each P (x ∷ es) t c b m e =
    let s = and_parts (P x.0 x.1 x.2) (each P es) t in
    let more : lookup es c ≡ Some (b, m) → P c b m ≡ true = lookup_each P es s.1 c b m in
    let here : P x.0 x.1 x.2 ≡ true = s.0 in
    grind (arith, nat_tests)

pub table_sound : (c b m : ℕ) → canonical c ≡ Some (b, m) → sound c b m ≡ true
unfolding canonical
table_sound c b m e = lookup_each sound mappings refl c b m e

none_by : (c : ℕ) → inside 192 383 c ≡ false → (o : Option (ℕ × ℕ)) → canonical c ≡ o → o ≡ None
none_by c out None e = refl
none_by c out (Some p) e = grind (arith, nat_tests, table_sound c p.0 p.1 e)

pub canonical_outside : (c : ℕ) → inside 192 383 c ≡ false → canonical c ≡ None
canonical_outside c o = none_by c o (canonical c) refl

pub table_gives : (t : List ℕ) (c : ℕ) → TableRule t → 192 ≤ c → c ≤ 383 → get_or t (c - 192) 0 ≡ digit_by (letter_of c)
table_gives t c r h k = let e : 192 + (c - 192) ≡ c = omega arith in rw e at (r.each (c - 192) (omega (arith, r.all)))

pub number_outside : (c : ℕ) → 128 ≤ c → inside 192 383 c ≡ false → letter_number c ≡ 0
number_outside c h o = grind (arith, nat_tests)

pub mark_most : (c : ℕ) → mark_number c ≤ 13
unfolding mark_number
mark_most c = grind (arith, nat_tests)

-- the same in facts
pub record Sound (c b m : ℕ) : Type 0 where
  pub low : 192 ≤ c
  pub high : c ≤ 383
  pub base : b < 128
  pub least : 5 ≤ letter_number b
  pub most : letter_number b ≤ 56
  pub plain : letter_number b ≡ plain_number b
  pub mark : 0 < mark_number m

abbrev Facts : ℕ → ℕ → ℕ → ℕ → ℕ → Type 0
Facts c b n q k = (192 ≤ c) × (c ≤ 383) × (b < 128) × (5 ≤ n) × (n ≤ 56) × (n ≡ q) × (0 < k)

facts_by : (c b n q k : ℕ) → (inside 192 383 c && (ltb b 128 && (inside 5 56 n && (eqb n q && ltb 0 k)))) ≡ true → Facts c b n q k
facts_by c b n q k e = (grind (arith, nat_tests), grind (arith, nat_tests), grind (arith, nat_tests), grind (arith, nat_tests), grind (arith, nat_tests), grind (arith, nat_tests), grind (arith, nat_tests))

pub table_facts : (c b m : ℕ) → canonical c ≡ Some (b, m) → Sound c b m
unfolding mark_number
table_facts c b m e =
    let f : Facts c b (letter_number b) (plain_number b) (place_in 1 marks m) = facts_by c b (letter_number b) (plain_number b) (place_in 1 marks m) (table_sound c b m e) in
    record { low = f.0; high = f.1; base = f.2; least = f.3; most = f.4; plain = f.5; mark = f.6 }

pub mark_least : (c : ℕ) → 0 < mark_number c → 768 ≤ c
unfolding mark_number
mark_least c h = grind (arith, nat_tests)

pub number_most : (c : ℕ) → letter_number c ≤ 72
number_most c = grind (arith, nat_tests)
