-- The words of a line, parted by single spaces, and the numbers that words write.
use Rattle.std.specs.Prelude.{ℕ, ◌+◌, ◌-◌, ◌*◌, cond, ◌&&◌, List, [], ◌∷◌, length, take, drop, Some, None, Option, nat_le}
use Rattle.text.specs.Lines.{end_at}

-- up to the first space, and after it
abbrev pub first_word : List ℕ → List ℕ
first_word bs = take (end_at 0x20 bs) bs

abbrev pub after_word : List ℕ → List ℕ
after_word bs = drop (end_at 0x20 bs + 1) bs

-- the number that digits write after n
abbrev pub digits_after : ℕ → List ℕ → Option ℕ
digits_after n [] = Some n
digits_after n (b ∷ bs) = cond (nat_le 48 b && nat_le b 57) (digits_after (n * 10 + (b - 48)) bs) None

-- one to nine decimal digits
abbrev pub numeral : List ℕ → Option ℕ
numeral bs = cond (nat_le 1 (length bs) && nat_le (length bs) 9) (digits_after 0 bs) None
