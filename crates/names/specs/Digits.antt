-- A name as a key: its 24 digits, its comparison and its home.
use Rattle.std.specs.Prelude.{ℕ, zero, suc, ◌+◌, ◌*◌, ◌/◌, ◌%◌, min, List, [], ◌∷◌, slice_index}
use Rattle.std.specs.declared.cmp.Ordering.TheVariants.{Less, Equal, Greater}
use Rattle.std.specs.declared.cmp.Ordering.{Ordering}
use Rattle.std.specs.Ordering.{ordering_then}
use Rattle.keys.specs.Kinds.{by_size, share}
use Rattle.names.specs.declared.Name.{Name}

-- the last n digits of a word, and before them the number above, in front of more digits
abbrev pub digits_of_word : ℕ → ℕ → List ℕ → List ℕ
digits_of_word zero w ds = w ∷ ds
digits_of_word (suc n) w ds = digits_of_word n (w / 1024) (w % 1024 ∷ ds)

-- eight digits of each word, 24 in all
unfoldable pub digits_of : Name → List ℕ
digits_of x = digits_of_word 7 x.high (digits_of_word 7 x.middle (digits_of_word 7 x.low []))

-- digits are compared from the first
abbrev pub by_digits : List ℕ → List ℕ → Ordering
by_digits [] [] = Equal
by_digits [] (y ∷ ys) = Less
by_digits (x ∷ xs) [] = Greater
by_digits (x ∷ xs) (y ∷ ys) = ordering_then (by_size x y) (by_digits xs ys)

unfoldable pub name_order : Name → Name → Ordering
name_order x y = by_digits (digits_of x) (digits_of y)

-- the home goes by the first two digits, of 1,048,576 possible pairs
unfoldable pub name_home : Name → ℕ → ℕ
name_home x n = share 1048576 (slice_index (digits_of x) 0 * 1024 + slice_index (digits_of x) 1) n

-- The same by the three words, as the code has them.
abbrev pub by_words : Name → Name → Ordering
by_words x y = ordering_then (by_size x.high y.high) (ordering_then (by_size x.middle y.middle) (by_size x.low y.low))

abbrev pub first_two : Name → ℕ
first_two x = min (x.high / 1152921504606846976) 1048575
