-- The reader's turns.
use Rattle.std.proofs.Common.{◌≡◌, ℕ, zero, suc, ◌+◌, ◌-◌, ◌<◌, ◌≤◌, List, [], ◌∷◌, map, reverse, length, get_or, Some, None, Ok, Err, sym, refl, ap, ◌∙◌, arith}
use Rattle.std.proofs.lemmas.List.{reverse-reverse}
use Rattle.names.specs.declared.Reason.{Reason}
use Rattle.names.specs.declared.Reason.TheVariants.{IllFormed, Length}
use Rattle.names.specs.Utf8.{first}
use Rattle.names.specs.Letters.{digit}
use Rattle.names.specs.Reading.{fault, Done, Broken, Point, point_then, text_in, text_of, stepped, and_then, letters, packed, named, reading}
use Rattle.names.specs.Progress.{letter_at, letters_in}
use Rattle.names.proofs.Points.{shorter}

-- where the reader is: what it has left to read, and what it holds
pub record Going (bytes rest ds : List ℕ) : Type 0 where
  pub turns : ℕ
  pub within : length rest ≤ turns
  pub short : length rest ≤ length bytes
  pub same : letters [] (text_of bytes) ≡ letters (letters_in ds) (text_in turns (length bytes - length rest) rest)

pub going_starts : (bytes ds : List ℕ) → ds ≡ [] → Going bytes bytes ds
unfolding letters_in
going_starts bytes ds e =
    let z : length bytes - length bytes ≡ 0 = omega arith in
    record { turns = length bytes; within = omega arith; short = omega arith; same = rw (e, z) refl }

pub record Turn (k p c : ℕ) (rest tail : List ℕ) : Type 0 where
  pub left : ℕ
  pub within : length tail ≤ left
  pub is : text_in k p rest ≡ Point c p (text_in left (p + (length rest - length tail)) tail)

turn : (k p c : ℕ) (rest tail : List ℕ) → first rest ≡ Some (c, tail) → length rest ≤ k → Turn k p c rest tail
unfolding text_in
turn k p c [] tail e h = cc
turn zero p c (b ∷ bs) tail e h = absurd (omega arith)
turn (suc k) p c (b ∷ bs) tail e h =
    let s : length tail < length (b ∷ bs) = shorter (b ∷ bs) tail c e in
    record {
      left = k;
      within = omega arith;
      is = ap (point_then p (λ rest. text_in k (p + (length (b ∷ bs) - length rest)) rest)) e;
    }

broken : (k p : ℕ) (rest : List ℕ) → first rest ≡ None → 0 < length rest → length rest ≤ k → text_in k p rest ≡ Broken p
unfolding text_in
broken k p [] e l h = absurd (omega arith)
broken zero p (b ∷ bs) e l h = absurd (omega arith)
broken (suc k) p (b ∷ bs) e l h = ap (point_then p (λ rest. text_in k (p + (length (b ∷ bs) - length rest)) rest)) e

-- what follows a code point
onward : {bytes rest tail ds : List ℕ} {c : ℕ} (g : Going bytes rest ds) (t : Turn g.turns (length bytes - length rest) c rest tail) → letters [] (text_of bytes) ≡ and_then (λ ys. letters ys (text_in t.left ((length bytes - length rest) + (length rest - length tail)) tail)) (stepped (letters_in ds) c (length bytes - length rest))
unfolding letters
onward {ds = ds} g t = g.same ∙ ap (letters (letters_in ds)) t.is

pub going_on : (bytes rest tail ds es : List ℕ) (c : ℕ) (g : Going bytes rest ds) → first rest ≡ Some (c, tail) → ((place : ℕ) → stepped (letters_in ds) c place ≡ Ok (letters_in es)) → Going bytes tail es
going_on bytes rest tail ds es c g e f =
    let t : Turn g.turns (length bytes - length rest) c rest tail = turn g.turns (length bytes - length rest) c rest tail e g.within in
    let l : length tail < length rest = shorter rest tail c e in
    let z : (length bytes - length rest) + (length rest - length tail) ≡ length bytes - length tail = omega (arith, g.short) in
    record {
      turns = t.left;
      within = t.within;
      short = omega (arith, g.short);
      same =
          onward g t ∙ ap (and_then (λ ys. letters ys (text_in t.left ((length bytes - length rest) + (length rest - length tail)) tail))) (f (length bytes - length rest))
          ∙ ap (λ n. letters (letters_in es) (text_in t.left n tail)) z;
    }

pub faulty : (bytes rest tail ds : List ℕ) (c : ℕ) (r : Reason) (g : Going bytes rest ds) → first rest ≡ Some (c, tail) → ((place : ℕ) → stepped (letters_in ds) c place ≡ Err (fault r place)) → Err (fault r (length bytes - length rest)) ≡ reading bytes
unfolding reading
faulty bytes rest tail ds c r g e h =
    let t : Turn g.turns (length bytes - length rest) c rest tail = turn g.turns (length bytes - length rest) c rest tail e g.within in
    sym (ap named (onward g t ∙ ap (and_then (λ ys. letters ys (text_in t.left ((length bytes - length rest) + (length rest - length tail)) tail))) (h (length bytes - length rest))))

pub ill_formed : (bytes rest ds : List ℕ) (g : Going bytes rest ds) → first rest ≡ None → 0 < length rest → Err (fault IllFormed (length bytes - length rest)) ≡ reading bytes
unfolding reading letters
ill_formed bytes rest ds g e l = sym (ap named (g.same ∙ ap (letters (letters_in ds)) (broken g.turns (length bytes - length rest) rest e l g.within)))

-- the end
ended : (k p : ℕ) (rest : List ℕ) → length rest ≤ 0 → text_in k p rest ≡ Done
unfolding text_in
ended zero p rest h = refl
ended (suc k) p [] h = refl
ended (suc k) p (b ∷ bs) h = absurd (omega arith)

-- the letters in their order, the digits of which are those that were read
in_order : (ds : List ℕ) → reverse (letters_in ds) ≡ map letter_at ds
unfolding letters_in
in_order ds = reverse-reverse (map letter_at ds)

at_end : {bytes rest ds : List ℕ} (g : Going bytes rest ds) → length rest ≤ 0 → letters [] (text_of bytes) ≡ Ok (map letter_at ds)
unfolding letters
at_end {ds = ds} g h = g.same ∙ ap (letters (letters_in ds)) (ended g.turns _ _ h) ∙ ap Ok (in_order ds)

pub empty : (bytes rest ds : List ℕ) (g : Going bytes rest ds) → length rest ≤ 0 → length ds ≡ 0 → Err (fault Length 0) ≡ reading bytes
unfolding reading
empty bytes rest [] g h z = sym (ap named (at_end g h))
empty bytes rest (d ∷ ds) g h z = absurd (omega arith)

digits_again : (ds : List ℕ) → map digit (map letter_at ds) ≡ ds
digits_again [] = refl
digits_again (d ∷ ds) = grind (arith, digits_again ds)

pub whole : (bytes rest ds : List ℕ) (g : Going bytes rest ds) → length rest ≤ 0 → (length ds ≡ 0 → ⊥) → Ok (packed (λ k. get_or ds k 0)) ≡ reading bytes
unfolding reading
whole bytes rest [] g h z = absurd (z refl)
whole bytes rest (d ∷ ds) g h z = ap (λ (v : List ℕ). Ok (packed (λ k. get_or v k 0))) (sym (digits_again (d ∷ ds))) ∙ sym (ap named (at_end g h))
