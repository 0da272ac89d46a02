-- What the reader holds between two code points, and what one more makes of it: the contracts of its inner functions.
use Rattle.std.specs.Prelude.{ℕ, ◌/◌, ◌%◌, Bool, cond, ◌&&◌, List, map, reverse, Some, None, Ok, Err, Option, Result, ◌==◌}
use Rattle.names.specs.declared.Fault.{Fault}
use Rattle.names.specs.declared.Reason.{Reason}
use Rattle.names.specs.Utf8.{inside}
use Rattle.names.specs.Letters.{Letter}
use Rattle.names.specs.Reading.{fault}

-- a number, none for 0
abbrev pub unless_zero : ℕ → Option ℕ
unless_zero n = cond (n == 0) None (Some n)

-- whether a digit is that of a plain letter without a mark
abbrev pub bare_digit : ℕ → Bool
bare_digit d = d % 14 == 0 && inside 70 784 d

-- the letter of a digit, and the letters of some digits, the last one first
abbrev pub letter_at : ℕ → Letter
letter_at d = record { number = d / 14; mark = d % 14 }

unfoldable pub letters_in : List ℕ → List Letter
letters_in ds = reverse (map letter_at ds)

-- the letters that the digits then are, or the refusal of the code point at this place
abbrev pub went : List ℕ → ℕ → Result (Unit {0}) Reason → Result (List Letter) Fault
went ds place (Ok u) = Ok (letters_in ds)
went ds place (Err reason) = Err (fault reason place)
