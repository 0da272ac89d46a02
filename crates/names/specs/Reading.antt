-- What a text is read as: a name's key, or the refusal of its first faulty code point.
use Rattle.std.specs.Prelude.{ℕ, zero, suc, ◌+◌, ◌-◌, ◌*◌, cond, List, [], ◌∷◌, ◌++◌, codes, decimal, map, reverse, length, Some, None, Ok, Err, Option, Result, nat_lt, slice_index}
use Rattle.names.specs.declared.Reason.{Reason}
use Rattle.names.specs.declared.Reason.TheVariants.{IllFormed, NotListed, LooseMark, Length}
use Rattle.names.specs.declared.Fault.{Fault}
use Rattle.names.specs.declared.Name.{Name}
use Rattle.names.specs.Utf8.{first}
use Rattle.names.specs.Letters.{Letter, letter_of, mark_number, digit, bare}

-- the number of each refusal
abbrev pub refusal_number : Reason → ℕ
refusal_number IllFormed = 9
refusal_number NotListed = 10
refusal_number LooseMark = 11
refusal_number Length = 12

-- how a refusal is printed: its number and its place
abbrev pub fault_text : Fault → List ℕ
fault_text e = codes "REFUSED " ++ (decimal (refusal_number e.reason) ++ (codes " " ++ decimal e.place))

-- a refusal carries its place: the number, from 0, of the first byte of the faulty code point
abbrev pub fault : Reason → ℕ → Fault
fault r p = record { reason = r; place = p }

-- A text as its code points, each with the number of its first byte, up to the end or to an ill-formed sequence.
pub data Text : Type 0 where
  Done : Text
  Broken : ℕ → Text
  Point : ℕ → ℕ → Text → Text

abbrev pub point_then : ℕ → (List ℕ → Text) → Option (ℕ × List ℕ) → Text
point_then p go None = Broken p
point_then p go (Some t) = Point t.0 p (go t.1)

-- a code point takes a byte or more, so as many turns as there are bytes suffice
unfoldable pub text_in : ℕ → ℕ → List ℕ → Text
text_in zero p bs = Done
text_in (suc k) p [] = Done
text_in (suc k) p (b ∷ bs) = point_then p (λ rest. text_in k (p + (length (b ∷ bs) - length rest)) rest) (first (b ∷ bs))

abbrev pub text_of : List ℕ → Text
text_of bs = text_in (length bs) 0 bs

-- The letters so far have the last one first; a code point adds a letter, or a mark to the last letter.
abbrev pub marked : List Letter → ℕ → ℕ → Result (List Letter) Fault
marked [] m p = Err (fault LooseMark p)
marked (x ∷ xs) m p = cond (bare x) (Ok (record { number = x.number; mark = m } ∷ xs)) (Err (fault LooseMark p))

abbrev pub lettered : List Letter → Option Letter → ℕ → Result (List Letter) Fault
lettered xs None p = Err (fault NotListed p)
lettered xs (Some x) p = cond (nat_lt (length xs) 24) (Ok (x ∷ xs)) (Err (fault Length p))

abbrev pub stepped : List Letter → ℕ → ℕ → Result (List Letter) Fault
stepped xs c p = cond (nat_lt 0 (mark_number c)) (marked xs (mark_number c) p) (lettered xs (letter_of c) p)

abbrev pub and_then : {A B E : Type 0} → (A → Result B E) → Result A E → Result B E
and_then go (Err f) = Err f
and_then go (Ok x) = go x

-- the letters of a text, in their order
unfoldable pub letters : List Letter → Text → Result (List Letter) Fault
letters xs Done = Ok (reverse xs)
letters xs (Broken p) = Err (fault IllFormed p)
letters xs (Point c p t) = and_then (λ ys. letters ys t) (stepped xs c p)

-- The key: 24 digits in base 1,024, eight to a word, the first one highest; unused ones are last and 0.
abbrev pub word_at : (ℕ → ℕ) → ℕ → ℕ
word_at d i =
    ((((((d i * 1024 + d (i + 1)) * 1024 + d (i + 2)) * 1024 + d (i + 3)) * 1024 + d (i + 4)) * 1024 + d (i + 5)) * 1024 + d (i + 6)) * 1024
    + d (i + 7)

abbrev pub packed : (ℕ → ℕ) → Name
packed d = record { high = word_at d 0; middle = word_at d 8; low = word_at d 16 }

abbrev pub key_of : List Letter → Name
key_of xs = packed (λ i. slice_index (map digit xs) i)

-- a name has a letter at least
abbrev pub named : Result (List Letter) Fault → Result Name Fault
named (Err f) = Err f
named (Ok []) = Err (fault Length 0)
named (Ok (x ∷ xs)) = Ok (key_of (x ∷ xs))

unfoldable pub reading : List ℕ → Result Name Fault
reading bs = named (letters [] (text_of bs))
