-- UTF-8, as the Unicode Standard defines it: the bytes of a code point, and the code point that some bytes begin with.
use Rattle.std.specs.Prelude.{ℕ, ◌+◌, ◌-◌, ◌*◌, ◌/◌, ◌%◌, ◌<◌, ◌≤◌, Bool, cond, ◌&&◌, ◌||◌, ◌⊎◌, List, ◌∷◌, length, drop, Some, None, Option, ◌==◌, nat_le, slice_index}

-- from low to high, both included
abbrev pub inside : ℕ → ℕ → ℕ → Bool
inside low high b = nat_le low b && nat_le b high

-- a code point that has bytes: none of the surrogates D800 to DFFF, and none above 10FFFF
abbrev pub Scalar : ℕ → Type 0
Scalar c = (c < 0xD800) ⊎ ((0xE000 ≤ c) × (c ≤ 0x10FFFF))

-- the bytes of a code point, in front of the rest
abbrev pub encoded : ℕ → List ℕ → List ℕ
encoded c rest =
    cond (nat_le c 0x7F) (c ∷ rest)
    (cond (nat_le c 0x7FF) ((0xC0 + c / 64) ∷ (0x80 + c % 64) ∷ rest)
    (cond (nat_le c 0xFFFF) ((0xE0 + c / 4096) ∷ (0x80 + c / 64 % 64) ∷ (0x80 + c % 64) ∷ rest)
    ((0xF0 + c / 262144) ∷ (0x80 + c / 4096 % 64) ∷ (0x80 + c / 64 % 64) ∷ (0x80 + c % 64) ∷ rest)))

-- The other way, by the table of well-formed byte sequences.

-- a byte 10xxxxxx
abbrev pub continues : ℕ → Bool
continues b = inside 0x80 0xBF b

-- the second byte after a first byte of three: no overlong form, no surrogate
abbrev pub fits3 : ℕ → ℕ → Bool
fits3 b0 b1 =
    (inside 0xE1 0xEC b0 || inside 0xEE 0xEF b0) && continues b1
    || (b0 == 0xE0 && inside 0xA0 0xBF b1 || b0 == 0xED && inside 0x80 0x9F b1)

-- the second byte after a first byte of four: no overlong form, none above 10FFFF
abbrev pub fits4 : ℕ → ℕ → Bool
fits4 b0 b1 = inside 0xF1 0xF3 b0 && continues b1 || (b0 == 0xF0 && inside 0x90 0xBF b1 || b0 == 0xF4 && inside 0x80 0x8F b1)

-- the code point of two, three or four bytes, from the first byte and what follows it, with the rest
abbrev pub two : ℕ → List ℕ → Option (ℕ × List ℕ)
two b0 bs =
    cond (nat_le 1 (length bs) && continues (slice_index bs 0))
    (Some ((b0 - 0xC0) * 64 + (slice_index bs 0 - 0x80), drop 1 bs))
    None

abbrev pub three : ℕ → List ℕ → Option (ℕ × List ℕ)
three b0 bs =
    cond (nat_le 2 (length bs) && (fits3 b0 (slice_index bs 0) && continues (slice_index bs 1)))
    (Some ((b0 - 0xE0) * 4096 + (slice_index bs 0 - 0x80) * 64 + (slice_index bs 1 - 0x80), drop 2 bs))
    None

abbrev pub four : ℕ → List ℕ → Option (ℕ × List ℕ)
four b0 bs =
    cond (nat_le 3 (length bs) && (fits4 b0 (slice_index bs 0) && (continues (slice_index bs 1) && continues (slice_index bs 2))))
    (Some ((b0 - 0xF0) * 262144 + (slice_index bs 0 - 0x80) * 4096 + (slice_index bs 1 - 0x80) * 64 + (slice_index bs 2 - 0x80), drop 3 bs))
    None

abbrev pub starting_with : ℕ → List ℕ → Option (ℕ × List ℕ)
starting_with b bs =
    cond (nat_le b 0x7F) (Some (b, bs))
    (cond (inside 0xC2 0xDF b) (two b bs)
    (cond (inside 0xE0 0xEF b) (three b bs)
    (cond (inside 0xF0 0xF4 b) (four b bs) None)))

-- the first code point of some bytes, with the bytes that follow it; none where they are ill-formed at their start, or where there are none
abbrev pub first : List ℕ → Option (ℕ × List ℕ)
first bs = cond (nat_le 1 (length bs)) (starting_with (slice_index bs 0) (drop 1 bs)) None
