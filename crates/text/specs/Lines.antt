-- The lines of a text.
use Rattle.std.specs.Prelude.{◌≡◌, ℕ, zero, suc, ◌+◌, ◌-◌, cond, ◌&&◌, List, [], ◌∷◌, length, take, drop, ◌==◌, nat_lt, slice_index, Option}
use Rattle.std.specs.List.{position_or_len}
use Rattle.std.specs.Iterator.{YieldsFirstRef}
use denote.Ref.{Bor}
use Rattle.text.specs.declared.Lines.{Lines}

-- how many bytes come before the first that is this one
abbrev pub end_at : ℕ → List ℕ → ℕ
end_at stop bs = position_or_len (λ b. b == stop) bs

-- a line ends at 0A, and a 0D directly before it belongs to the line's end
abbrev pub line_length : List ℕ → ℕ
line_length bs =
    let end = end_at 0x0A bs in
    cond (nat_lt end (length bs) && (nat_lt 0 end && slice_index bs (end - 1) == 0x0D)) (end - 1) end

-- the first line without its end, and what follows its end
abbrev pub first_line : List ℕ → List ℕ
first_line bs = take (line_length bs) bs

abbrev pub after_line : List ℕ → List ℕ
after_line bs = drop (end_at 0x0A bs + 1) bs

-- the first n lines, and what follows them; the last line may lack its end, and where no byte is left there is no line
unfoldable pub lines : ℕ → List ℕ → List (List ℕ)
lines zero bs = []
lines (suc n) [] = []
lines (suc n) (b ∷ bs) = first_line (b ∷ bs) ∷ lines n (after_line (b ∷ bs))

unfoldable pub unread : ℕ → List ℕ → List ℕ
unread zero bs = bs
unread (suc n) [] = []
unread (suc n) (b ∷ bs) = unread n (after_line (b ∷ bs))

-- all lines: each takes a byte or more
abbrev pub lines_of : List ℕ → List (List ℕ)
lines_of bs = lines (length bs) bs

-- a line is taken from those that are left, with its end
abbrev pub TakesLine : Lines → Option (Bor (List ℕ)) → Lines → Type 0
TakesLine s line t = YieldsFirstRef (λ (x : Lines). lines_of x.rest.now) s line t × (t.rest.now ≡ after_line s.rest.now)
