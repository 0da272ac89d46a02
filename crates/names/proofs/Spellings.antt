-- The letters of a text that is read spell its canonical decomposition, and the decomposition is read as the text is.
use Rattle.std.proofs.Common.{◌≡◌, ℕ, zero, suc, ◌+◌, ◌-◌, ◌<◌, ◌≤◌, Bool, true, false, cond, ◌&&◌, ◌||◌, eqb, leb, ◌⊎◌, List, [], ◌∷◌, reverse, length, get_or, Some, None, Ok, Err, Option, Result, sym, refl, ap, ◌∙◌, subst, inl, inr, arith}
use mathlib.Core.List.{reverse_aux}
use lib.ListN.{length-reverse}
use Rattle.std.proofs.lemmas.Bool.Decides.{nat_tests, eqb_tells, Decides-below_and}
use Rattle.std.specs.Bool.{Decides}
use Rattle.names.specs.declared.Fault.{Fault}
use Rattle.names.specs.Utf8.{inside}
use Rattle.names.specs.Decomposition.{canonical, decomposed_to, decomposition}
use Rattle.names.specs.Letters.{Letter, marks, mark_number, singles, plain_number, letter_number, letter_by, letter_of, bare}
use Rattle.names.specs.Reading.{Text, Done, Broken, Point, marked, lettered, stepped, and_then, letters}
use Rattle.names.specs.Law.{points_of}
use Rattle.names.proofs.Tables.{table_facts, mark_most, mark_least, canonical_outside}
use Rattle.names.proofs.Rows.{Good, letter_good, by_mark, by_letter}

-- a run of letters that ends well goes well at its first code point
pub record Went (xs : List Letter) (c p : ℕ) (t : Text) (ls : List Letter) : Type 0 where
  pub ys : List Letter
  pub is : stepped xs c p ≡ Ok ys
  pub more : letters ys t ≡ Ok ls

went_by : (o : Result (List Letter) Fault) (t : Text) (ls : List Letter) → and_then (λ ys. letters ys t) o ≡ Ok ls → (ys : List Letter) × (o ≡ Ok ys) × (letters ys t ≡ Ok ls)
went_by (Ok ys) t ls e = (ys, refl, e)
went_by (Err f) t ls e = cc

pub went : (xs : List Letter) (c p : ℕ) (t : Text) (ls : List Letter) → letters xs (Point c p t) ≡ Ok ls → Went xs c p t ls
unfolding letters
went xs c p t ls e = let w = went_by (stepped xs c p) t ls e in record { ys = w.0; is = w.1; more = w.2 }

-- code points with no places
abbrev pub unplaced : List ℕ → Text
unplaced [] = Done
unplaced (c ∷ cs) = Point c 0 (unplaced cs)

-- a step that goes well does so at any place
step_free : (xs ys : List Letter) (c p q : ℕ) → stepped xs c p ≡ Ok ys → stepped xs c q ≡ Ok ys
step_free [] ys c p q e = grind (arith, nat_tests)
step_free (x ∷ xs) ys c p q e = grind (arith, nat_tests)

-- the canonical decomposition of a text that is read is read as the text is
record Composed (xs ys : List Letter) (b m : ℕ) : Type 0 where
  room : length xs < 24
  is : ys ≡ record { number = plain_number b; mark = mark_number m } ∷ xs

abbrev pub list_in : List Letter → Result (List Letter) Fault → List Letter
list_in d (Ok xs) = xs
list_in d (Err f) = d

letter_step : (xs : List Letter) (b : ℕ) (x : Letter) → length xs < 24 → mark_number b ≡ 0 → letter_of b ≡ Some x → stepped xs b 0 ≡ Ok (x ∷ xs)
letter_step xs b x k z e = grind (arith, nat_tests)

pub no_run : (xs ls : List Letter) (p : ℕ) → letters xs (Broken p) ≡ Ok ls → ⊥
unfolding letters
no_run xs ls p e = cc

mark_none : (c : ℕ) → c ≤ 767 → mark_number c ≡ 0
mark_none c h = grind (arith, mark_least c)

composed_step : (xs ys : List Letter) (c p b m : ℕ) → canonical c ≡ Some (b, m) → stepped xs c p ≡ Ok ys → Composed xs ys b m
unfolding letter_of
composed_step xs ys c p b m e s =
    let f = table_facts c b m e in
    let z : mark_number c ≡ 0 = mark_none c (omega (arith, f.high)) in
    let l : letter_of c ≡ Some record { number = plain_number b; mark = mark_number m } = ap (λ (o : Option (ℕ × ℕ)). letter_by o (letter_number c)) e in
    let w : lettered xs (Some record { number = plain_number b; mark = mark_number m }) p ≡ Ok ys = sym (ap (λ (o : Option Letter). lettered xs o p) l) ∙ sym (by_letter xs c p z) ∙ s in
    record { room = grind (arith, nat_tests, w); is = grind (arith, nat_tests, w) }

base_letter : (c b m : ℕ) → canonical c ≡ Some (b, m) → letter_of b ≡ Some record { number = plain_number b; mark = 0 }
unfolding letter_of
base_letter c b m e =
    let f = table_facts c b m e in
    let o : inside 192 383 b ≡ false = grind (arith, nat_tests, f.base) in
    grind (arith, nat_tests, canonical_outside b o, f.plain, f.least)

read_two : (xs ys ls : List Letter) (c b m p : ℕ) (t : Text) → canonical c ≡ Some (b, m) → stepped xs c p ≡ Ok ys → letters ys t ≡ Ok ls → letters xs (Point b 0 (Point m 0 t)) ≡ Ok ls
unfolding letters
read_two xs ys ls c b m p t e s h =
    let f = table_facts c b m e in
    let k = composed_step xs ys c p b m e s in
    let base : Letter = record { number = plain_number b; mark = 0 } in
    let one : stepped xs b 0 ≡ Ok (base ∷ xs) = letter_step xs b base k.room (mark_none b (omega (arith, f.base))) (base_letter c b m e) in
    let plain : bare base ≡ true = grind (arith, nat_tests, f.plain, f.least, f.most) in
    let two : stepped (base ∷ xs) m 0 ≡ Ok ys = by_mark (base ∷ xs) m 0 f.mark ∙ rw plain refl ∙ ap Ok (sym k.is) in
    ap (and_then (λ zs. letters zs (Point m 0 t))) one ∙ ap (and_then (λ zs. letters zs t)) two ∙ h

read_by : (o : Option (ℕ × ℕ)) (xs ys ls : List Letter) (c p : ℕ) (ds : List ℕ) → canonical c ≡ o → stepped xs c p ≡ Ok ys → letters ys (unplaced ds) ≡ Ok ls → letters xs (unplaced (decomposed_to o c ds)) ≡ Ok ls
unfolding letters
read_by None xs ys ls c p ds e s h = ap (and_then (λ zs. letters zs (unplaced ds))) (step_free xs ys c p 0 s) ∙ h
read_by (Some v) xs ys ls c p ds e s h = read_two xs ys ls c v.0 v.1 p (unplaced ds) e s h

pub read_decomposed : (t : Text) (xs ls : List Letter) → letters xs t ≡ Ok ls → letters xs (unplaced (decomposition (points_of t))) ≡ Ok ls
read_decomposed Done xs ls e = e
read_decomposed (Broken p) xs ls e = absurd (no_run xs ls p e)
read_decomposed (Point c p t) xs ls e =
    let w = went xs c p t ls e in
    read_by (canonical c) xs w.ys ls c p (decomposition (points_of t)) refl w.is (read_decomposed t w.ys ls w.more)

-- letters spelled out again
abbrev pub letter_code : ℕ → ℕ
letter_code n = cond (eqb n 1) 32 (cond (eqb n 2) 39 (cond (eqb n 3) 45 (cond (eqb n 4) 46 (cond (leb n 30) (n + 60) (cond (leb n 56) (n + 66) (get_or singles (n - 57) 0))))))

unfoldable pub spell : Letter → List ℕ → List ℕ
spell x ds = letter_code x.number ∷ cond (eqb x.mark 0) ds (get_or marks (x.mark - 1) 0 ∷ ds)

abbrev pub spelled : List Letter → List ℕ
spelled [] = []
spelled (x ∷ xs) = spell x (spelled xs)

-- the last letter first, and then some more
abbrev pub spelled_back : List Letter → List ℕ → List ℕ
spelled_back [] ds = ds
spelled_back (x ∷ xs) ds = spelled_back xs (spell x ds)

spelled_reverse : (xs r : List Letter) → spelled (reverse_aux xs r) ≡ spelled_back xs (spelled r)
spelled_reverse [] r = refl
spelled_reverse (x ∷ xs) r = spelled_reverse xs (x ∷ r)

mark_code : (c : ℕ) → 0 < mark_number c → get_or marks (mark_number c - 1) 0 ≡ c
unfolding mark_number
mark_code c h = grind (arith, nat_tests)

-- a letter's code point is found again, by one computed test
abbrev below : (ℕ → Bool) → ℕ → Bool
below f zero = true
below f (suc n) = f n && below f n

abbrev coded : ℕ → Bool
coded c = eqb (letter_number c) 0 || eqb (letter_code (letter_number c)) c

below_each : Decides (below coded 384) ((c : ℕ) → c < 384 → coded c ≡ true)
below_each = Decides-below_and coded (λ c. coded c ≡ true) (below coded) (λ c. (λ t. t, λ t. t)) refl (λ n. refl) 384

letter_code_lem : (c : ℕ) → 0 < letter_number c → letter_code (letter_number c) ≡ c
letter_code_lem c h = let k : c ≤ 383 = grind (arith, nat_tests) in grind (arith, nat_tests, below_each.0 refl c (omega arith))

-- each step spells out what the decomposition has
alone : (n : ℕ) (x : Letter) → letter_by None n ≡ Some x → (0 < n) × (x ≡ record { number = n; mark = 0 })
alone n x e = (grind (arith, nat_tests), grind (arith, nat_tests))

spell_alone : (c : ℕ) (ds : List ℕ) (x : Letter) → canonical c ≡ None → letter_of c ≡ Some x → spell x ds ≡ c ∷ ds
unfolding spell letter_of
spell_alone c ds x e q =
    let w = alone (letter_number c) x (sym (ap (λ (o : Option (ℕ × ℕ)). letter_by o (letter_number c)) e) ∙ q) in
    ap (λ (v : Letter). spell v ds) w.1 ∙ ap (λ n. n ∷ ds) (letter_code_lem c w.0)

spell_composed : (c b m : ℕ) (ds : List ℕ) → canonical c ≡ Some (b, m) → spell record { number = plain_number b; mark = mark_number m } ds ≡ b ∷ m ∷ ds
unfolding spell
spell_composed c b m ds e =
    let f = table_facts c b m e in
    grind (arith, nat_tests, f.plain, f.mark, f.least, letter_code_lem b (omega (arith, f.least)), mark_code m f.mark)

spell_letter : (o : Option (ℕ × ℕ)) (c : ℕ) (ds : List ℕ) (x : Letter) → canonical c ≡ o → letter_of c ≡ Some x → spell x ds ≡ decomposed_to o c ds
unfolding letter_of
spell_letter None c ds x e q = spell_alone c ds x e q
spell_letter (Some v) c ds x e q =
    let l : x ≡ record { number = plain_number v.0; mark = mark_number v.1 } = cc (sym (ap (λ (o : Option (ℕ × ℕ)). letter_by o (letter_number c)) e) ∙ q) in
    ap (λ (w : Letter). spell w ds) l ∙ spell_composed c v.0 v.1 ds e

spell_mark : (x : Letter) (c : ℕ) (ds : List ℕ) → bare x ≡ true → 0 < mark_number c → spell record { number = x.number; mark = mark_number c } ds ≡ spell x (c ∷ ds)
unfolding spell
spell_mark x c ds b h = grind (arith, nat_tests, mark_code c h)

-- letters with numbers and marks in range
abbrev pub Fine : List Letter → Type 0
Fine [] = Unit {0}
Fine (x ∷ xs) = Good x × Fine xs

fine_reverse : (xs r : List Letter) → Fine xs → Fine r → Fine (reverse_aux xs r)
fine_reverse [] r f g = g
fine_reverse (x ∷ xs) r f g = fine_reverse xs (x ∷ r) f.1 (f.0, g)

-- what one step keeps and adds
record Stepping (xs ys : List Letter) (c : ℕ) : Type 0 where
  fine : Fine xs → Fine ys
  short : length xs ≤ 24 → length ys ≤ 24
  spells : (ds : List ℕ) → spelled_back ys ds ≡ spelled_back xs (decomposed_to (canonical c) c ds)

mark_outside : (c : ℕ) → 0 < mark_number c → canonical c ≡ None
mark_outside c h = canonical_outside c (grind (arith, nat_tests, mark_least c h))

remarked : (x : Letter) (xs : List Letter) (c : ℕ) → bare x ≡ true → 0 < mark_number c → Stepping (x ∷ xs) (record { number = x.number; mark = mark_number c } ∷ xs) c
remarked x xs c b h = record {
  fine = λ f. (record { number = f.0.number; most = f.0.most; mark = mark_most c }, f.1);
  short = λ l. l;
  spells = λ ds. ap (spelled_back xs) (spell_mark x c ds b h ∙ ap (λ (o : Option (ℕ × ℕ)). spell x (decomposed_to o c ds)) (sym (mark_outside c h)));
}

marks_last : (x : Letter) (xs ys : List Letter) (m p : ℕ) → marked (x ∷ xs) m p ≡ Ok ys → (bare x ≡ true) × (record { number = x.number; mark = m } ∷ xs ≡ ys)
marks_last x xs ys m p e = (grind (arith, nat_tests), grind (arith, nat_tests))

step_mark : (xs ys : List Letter) (c p : ℕ) → 0 < mark_number c → marked xs (mark_number c) p ≡ Ok ys → Stepping xs ys c
step_mark [] ys c p h e = cc
step_mark (x ∷ xs) ys c p h e =
    let w = marks_last x xs ys (mark_number c) p e in
    subst (λ (zs : List Letter). Stepping (x ∷ xs) zs c) w.1 (remarked x xs c w.0 h)

room : (xs ys : List Letter) (x : Letter) (p : ℕ) → lettered xs (Some x) p ≡ Ok ys → (length xs < 24) × (ys ≡ x ∷ xs)
room xs ys x p e = (grind (arith, nat_tests), grind (arith, nat_tests))

step_letter : (o : Option Letter) (xs ys : List Letter) (c p : ℕ) → letter_of c ≡ o → lettered xs o p ≡ Ok ys → Stepping xs ys c
step_letter None xs ys c p q e = cc
step_letter (Some x) xs ys c p q e =
    let w = room xs ys x p e in
    let s : Stepping xs (x ∷ xs) c = record {
      fine = λ f. (letter_good c x q, f);
      short = λ l. w.0;
      spells = λ ds. ap (spelled_back xs) (spell_letter (canonical c) c ds x refl q);
    } in
    subst (λ (zs : List Letter). Stepping xs zs c) (sym w.1) s

step_cases : (xs ys : List Letter) (c p : ℕ) → ((eqb (mark_number c) 0 ≡ true) × (mark_number c ≡ 0)) ⊎ ((eqb (mark_number c) 0 ≡ false) × (mark_number c ≡ 0 → ⊥)) → stepped xs c p ≡ Ok ys → Stepping xs ys c
step_cases xs ys c p (inl z) e = step_letter (letter_of c) xs ys c p refl (sym (by_letter xs c p z.1) ∙ e)
step_cases xs ys c p (inr z) e = let h : 0 < mark_number c = omega (arith, z.1) in step_mark xs ys c p h (sym (by_mark xs c p h) ∙ e)

-- and what a run does
pub record Running (xs ls : List Letter) (t : Text) : Type 0 where
  pub fine : Fine xs → Fine ls
  pub short : length xs ≤ 24 → length ls ≤ 24
  pub spells : spelled ls ≡ spelled_back xs (decomposition (points_of t))

pub running : (t : Text) (xs ls : List Letter) → letters xs t ≡ Ok ls → Running xs ls t
unfolding letters
running Done xs ls e =
    let l : reverse xs ≡ ls = ap (list_in []) e in
    subst (λ (zs : List Letter). Running xs zs Done) l record {
      fine = λ f. fine_reverse xs [] f tt;
      short = λ h. simp length-reverse h;
      spells = spelled_reverse xs [];
    }
running (Broken p) xs ls e = cc
running (Point c p t) xs ls e =
    let w = went xs c p t ls e in
    let s = step_cases xs w.ys c p (eqb_tells (mark_number c) 0) w.is in
    let r = running t w.ys ls w.more in
    record {
      fine = λ f. r.fine (s.fine f);
      short = λ h. r.short (s.short h);
      spells = r.spells ∙ s.spells (decomposition (points_of t));
    }
