-- The letters of mint names: their numbers, their marks, their digits.
use Rattle.std.specs.Prelude.{◌≡◌, ℕ, ◌+◌, ◌-◌, ◌*◌, ◌<◌, Bool, cond, ◌&&◌, List, [], ◌∷◌, length, Some, None, Option, ◌==◌, ◌≢◌, nat_lt, slice_index}
use Rattle.names.specs.Utf8.{inside}
use Rattle.names.specs.Decomposition.{canonical}

-- a letter with its mark, 0 for none
pub record Letter : Type 0 where
  pub number : ℕ
  pub mark : ℕ

-- the place of c in the list, counted from n; 0 where it is absent
abbrev pub place_in : ℕ → List ℕ → ℕ → ℕ
place_in n [] c = 0
place_in n (x ∷ xs) c = cond (c == x) n (place_in (n + 1) xs c)

-- the combining marks, 1 to 13
abbrev pub marks : List ℕ
marks = 0x300 ∷ 0x301 ∷ 0x302 ∷ 0x303 ∷ 0x304 ∷ 0x306 ∷ 0x307 ∷ 0x308 ∷ 0x30A ∷ 0x30B ∷ 0x30C ∷ 0x327 ∷ 0x328 ∷ []

-- 0 for a code point that is none of them
unfoldable pub mark_number : ℕ → ℕ
mark_number c = place_in 1 marks c

-- A to Z are 5 to 30, a to z 31 to 56
abbrev pub plain_number : ℕ → ℕ
plain_number c = cond (inside 0x41 0x5A c) (c - 0x41 + 5) (cond (inside 0x61 0x7A c) (c - 0x61 + 31) 0)

-- the letters 57 to 72, which carry no mark
abbrev pub singles : List ℕ
singles = 0xC6 ∷ 0xD0 ∷ 0xD8 ∷ 0xDE ∷ 0xDF ∷ 0xE6 ∷ 0xF0 ∷ 0xF8 ∷ 0xFE ∷ 0x110 ∷ 0x111 ∷ 0x131 ∷ 0x141 ∷ 0x142 ∷ 0x152 ∷ 0x153 ∷ []

-- the number of a letter that is one code point and has no mark: space, apostrophe, hyphen, full stop, a plain letter, a single one; 0 for any other
abbrev pub letter_number : ℕ → ℕ
letter_number c =
    cond (c == 0x20) 1
    (cond (c == 0x27) 2 (cond (c == 0x2D) 3 (cond (c == 0x2E) 4 (cond (nat_lt c 0x80) (plain_number c) (place_in 57 singles c)))))

-- a composed letter is its plain letter with its mark
abbrev pub letter_by : Option (ℕ × ℕ) → ℕ → Option Letter
letter_by None n = cond (n == 0) None (Some record { number = n; mark = 0 })
letter_by (Some p) n = Some record { number = plain_number p.0; mark = mark_number p.1 }

-- the letter that a code point is by itself; none for a code point that is not listed
unfoldable pub letter_of : ℕ → Option Letter
letter_of c = letter_by (canonical c) (letter_number c)

-- a plain letter without a mark, which may take one
abbrev pub bare : Letter → Bool
bare x = inside 5 56 x.number && x.mark == 0

abbrev pub digit : Letter → ℕ
digit x = x.number * 14 + x.mark

-- 0 where there is no letter
abbrev pub digit_by : Option Letter → ℕ
digit_by None = 0
digit_by (Some x) = digit x

-- The rule of a table of digits for the code points from 00C0 on: it has all 192, each the digit of its letter, 0 if it is not listed, and no
-- two listed ones share a digit.
pub record TableRule (t : List ℕ) : Type 0 where
  pub all : length t ≡ 192
  pub each : (i : ℕ) → i < length t → slice_index t i ≡ digit_by (letter_of (0xC0 + i))
  pub apart : (i j : ℕ) → i < j → j < length t → 0 < slice_index t i → slice_index t i ≢ slice_index t j
