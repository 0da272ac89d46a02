-- One more code point: what the reader's row then holds.
use Rattle.std.proofs.Common.{◌≡◌, ℕ, ◌+◌, ◌-◌, ◌<◌, ◌≤◌, true, false, List, [], ◌∷◌, ◌++◌, length, slice_index, get_or, set, take, Some, None, Ok, Err, Option, sym, refl, ap, ◌∙◌, subst, arith, length-take-le}
use Rattle.std.proofs.lemmas.Bool.Decides.{nat_tests}
use Rattle.std.proofs.lemmas.Grind.{common_steps}
use Rattle.std.specs.Option.{option_map}
use Rattle.std.proofs.lemmas.List.{take_more, take_more_set}
use Rattle.names.specs.declared.Reason.TheVariants.{LooseMark, Length}
use Rattle.names.specs.Decomposition.{canonical}
use Rattle.names.specs.Utf8.{inside}
use Rattle.names.specs.Letters.{Letter, mark_number, letter_number, plain_number, letter_by, letter_of, digit, bare, digit_by, TableRule}
use Rattle.names.specs.Reading.{fault, marked, lettered, stepped}
use Rattle.names.specs.Progress.{unless_zero, bare_digit, letter_at, letters_in}
use Rattle.names.proofs.Tables.{table_facts, mark_most, number_most, table_gives, canonical_outside, number_outside}

-- a listed letter has a number and at most the mark 13
pub record Good (x : Letter) : Type 0 where
  pub number : 1 ≤ x.number
  pub most : x.number ≤ 72
  pub mark : x.mark ≤ 13

good_alone : (n : ℕ) (x : Letter) → n ≤ 72 → letter_by None n ≡ Some x → Good x
good_alone n x m e = record { number = grind (arith, nat_tests); most = grind (arith, nat_tests); mark = grind (arith, nat_tests) }

good_by : (c : ℕ) (o : Option (ℕ × ℕ)) (x : Letter) → canonical c ≡ o → letter_by o (letter_number c) ≡ Some x → Good x
good_by c None x q e = good_alone (letter_number c) x (number_most c) e
good_by c (Some p) x q e =
    let f = table_facts c p.0 p.1 q in
    let l : x ≡ record { number = plain_number p.0; mark = mark_number p.1 } = cc in
    subst Good (sym l) record { number = omega (arith, f.plain, f.least); most = omega (arith, f.plain, f.most); mark = mark_most p.1 }

pub letter_good : (c : ℕ) (x : Letter) → letter_of c ≡ Some x → Good x
unfolding letter_of
letter_good c x e = good_by c (canonical c) x refl e

-- a letter's digit, as it is written in the table and as it is computed
digit_some : (o : Option Letter) → ((x : Letter) → o ≡ Some x → Good x) → unless_zero (digit_by o) ≡ option_map digit o
digit_some None g = refl
digit_some (Some x) g = grind (arith, nat_tests, (g x refl).number)

pub digit_in_table : (t : List ℕ) (c : ℕ) → TableRule t → 192 ≤ c → c ≤ 383 → unless_zero (slice_index t (c - 192)) ≡ option_map digit (letter_of c)
digit_in_table t c r h k = ap unless_zero (table_gives t c r h k) ∙ digit_some (letter_of c) (letter_good c)

pub digit_outside : (c : ℕ) → inside 192 383 c ≡ false → option_map digit (letter_of c) ≡ option_map digit (letter_by None (letter_number c))
unfolding letter_of
digit_outside c o = rw (canonical_outside c o) refl

pub digit_none : (c : ℕ) → 128 ≤ c → inside 192 383 c ≡ false → None ≡ option_map digit (letter_of c)
digit_none c h o = sym (digit_outside c o ∙ ap (λ n. option_map digit (letter_by None n)) (number_outside c h o))

-- the two ways of a step
pub by_mark : (xs : List Letter) (c p : ℕ) → 0 < mark_number c → stepped xs c p ≡ marked xs (mark_number c) p
by_mark xs c p h = grind (arith, nat_tests)

pub by_letter : (xs : List Letter) (c p : ℕ) → mark_number c ≡ 0 → stepped xs c p ≡ lettered xs (letter_of c) p
by_letter xs c p h = grind (arith, nat_tests)

-- a digit and its letter
letter_digit : (x : Letter) → Good x → letter_at (digit x) ≡ x
letter_digit x g = grind (arith, g.mark)

bare_digit_lem : (x : Letter) → x.mark ≤ 13 → bare_digit (digit x) ≡ bare x
bare_digit_lem x h = grind (arith, nat_tests)

bare_at : (d : ℕ) → bare (letter_at d) ≡ bare_digit d
bare_at d = let e : digit (letter_at d) ≡ d = omega arith in sym (bare_digit_lem (letter_at d) (omega arith)) ∙ ap bare_digit e

letters_more : (ds : List ℕ) (d : ℕ) → letters_in (ds ++ d ∷ []) ≡ letter_at d ∷ letters_in ds
unfolding letters_in
letters_more ds d = grind (arith, common_steps)

letters_length : (ds : List ℕ) → length (letters_in ds) ≡ length ds
unfolding letters_in
letters_length ds = grind (arith, common_steps)

-- a mark on the last letter
mark_last : (ds : List ℕ) (d m place : ℕ) → m ≤ 13 → bare_digit d ≡ true → marked (letters_in (ds ++ d ∷ [])) m place ≡ Ok (letters_in (ds ++ (d + m) ∷ []))
mark_last ds d m place h t = rw (letters_more ds d, letters_more ds (d + m), bare_at d, t) (grind (arith, nat_tests))

mark_loose : (ds : List ℕ) (d m place : ℕ) → bare_digit d ≡ false → marked (letters_in (ds ++ d ∷ [])) m place ≡ Err (fault LooseMark place)
mark_loose ds d m place t = rw (letters_more ds d, bare_at d, t) refl

-- the same of a row, whose n-th digit is its last one
pub last_marked : (xs : List ℕ) (k n m place : ℕ) → k ≡ n + 1 → n < length xs → m ≤ 13 → bare_digit (get_or xs n 0) ≡ true
    → marked (letters_in (take k xs)) m place ≡ Ok (letters_in (take k (set xs n (get_or xs n 0 + m))))
last_marked xs k n m place e h l t =
    rw (e, take_more xs n 0 h, take_more_set xs n (get_or xs n 0 + m) h) (mark_last (take n xs) (get_or xs n 0) m place l t)

pub last_loose : (xs : List ℕ) (k n m place : ℕ) → k ≡ n + 1 → n < length xs → bare_digit (get_or xs n 0) ≡ false → marked (letters_in (take k xs)) m place ≡ Err (fault LooseMark place)
last_loose xs k n m place e h t = rw (e, take_more xs n 0 h) (mark_loose (take n xs) (get_or xs n 0) m place t)

pub mark_first : (ds : List ℕ) (m place : ℕ) → length ds ≤ 0 → marked (letters_in ds) m place ≡ Err (fault LooseMark place)
unfolding letters_in
mark_first [] m place h = refl
mark_first (d ∷ ds) m place h = absurd (omega arith)

pub letter_full : (ds : List ℕ) (d place : ℕ) → length ds ≡ 24 → lettered (letters_in ds) (Some (letter_at d)) place ≡ Err (fault Length place)
letter_full ds d place h = grind (arith, nat_tests, letters_length ds)

pub letter_fits : (xs : List ℕ) (n d place : ℕ) → n < length xs → n < 24 → lettered (letters_in (take n xs)) (Some (letter_at d)) place ≡ Ok (letters_in (take (n + 1) (set xs n d)))
letter_fits xs n d place h l =
    let e : length (letters_in (take n xs)) ≡ n = letters_length (take n xs) ∙ length-take-le n xs (omega arith) in
    rw (take_more_set xs n d h, letters_more (take n xs) d) (grind (arith, nat_tests))

-- what the two answers about a code point tell
pub mark_is : (c m : ℕ) → unless_zero (mark_number c) ≡ Some m → (0 < m) × (m ≡ mark_number c)
mark_is c m e = (grind (arith, nat_tests), grind (arith, nat_tests))

pub by_none : (c : ℕ) → unless_zero (mark_number c) ≡ None → mark_number c ≡ 0
by_none c e = grind (arith, nat_tests)

letter_of_digit : (o : Option Letter) (d : ℕ) → ((x : Letter) → o ≡ Some x → Good x) → option_map digit o ≡ Some d → o ≡ Some (letter_at d)
letter_of_digit None d g e = cc
letter_of_digit (Some x) d g e = let y : digit x ≡ d = cc in ap Some (sym (letter_digit x (g x refl)) ∙ ap letter_at y)

pub lettered_by : (xs : List Letter) (c d place : ℕ) → option_map digit (letter_of c) ≡ Some d → lettered xs (letter_of c) place ≡ lettered xs (Some (letter_at d)) place
lettered_by xs c d place e = ap (λ (o : Option Letter). lettered xs o place) (letter_of_digit (letter_of c) d (letter_good c) e)
