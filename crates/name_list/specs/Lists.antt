-- A list of names, one to a line: what each line is answered.
use Rattle.std.specs.Prelude.{ℕ, ◌+◌, Bool, true, false, cond, List, [], ◌∷◌, ◌++◌, length, count_by, Some, None, Ok, Err, codes, decimal, Option, Result}
use Rattle.std.specs.Ordering.{is_eq}
use Rattle.text.specs.Lines.{lines}
use Rattle.names.specs.declared.Fault.{Fault}
use Rattle.names.specs.declared.Name.{Name}
use Rattle.names.specs.Digits.{name_order}
use Rattle.names.specs.Reading.{fault_text, reading}
use Rattle.name_list.specs.declared.Answer.{Answer}
use Rattle.name_list.specs.declared.Answer.TheVariants.{New, Same, Refused}
use Rattle.name_list.specs.declared.Tally.{Tally}

-- the line, counted from n, where this name first came
abbrev pub read_as : Name → Result Name Fault → Bool
read_as x (Ok y) = is_eq (name_order y x)
read_as x (Err f) = false

unfoldable pub line_of : Name → ℕ → List (List ℕ) → Option ℕ
line_of x n [] = None
line_of x n (l ∷ ls) = cond (read_as x (reading l)) (Some n) (line_of x (n + 1) ls)

abbrev pub new_or_same : Option ℕ → Answer
new_or_same None = New
new_or_same (Some n) = Same n

abbrev pub answer_by : (Name → Option ℕ) → Result Name Fault → Answer
answer_by earlier (Ok x) = new_or_same (earlier x)
answer_by earlier (Err f) = Refused f

-- the answer to a line, after those before it
abbrev pub answer_to : List (List ℕ) → List ℕ → Answer
answer_to before l = answer_by (λ x. line_of x 1 before) (reading l)

-- the answers to some lines, after those before them
unfoldable pub answers_after : List (List ℕ) → List (List ℕ) → List Answer
answers_after before [] = []
answers_after before (l ∷ ls) = answer_to before l ∷ answers_after (before ++ l ∷ []) ls

-- the answers to a list of names, of which at most 65,536 lines are read
abbrev pub answers_to : List ℕ → List Answer
answers_to bs = answers_after [] (lines 65536 bs)

-- whether a line was new, and whether it was refused
abbrev pub is_new : Answer → Bool
is_new New = true
is_new (Same n) = false
is_new (Refused f) = false

abbrev pub is_refused : Answer → Bool
is_refused New = false
is_refused (Same n) = false
is_refused (Refused f) = true

-- how many lines there were, how many new, and how many refused
abbrev pub tally_of : List Answer → Tally
tally_of xs = record { lines = length xs; names = count_by is_new xs; refusals = count_by is_refused xs }

-- what is printed of an answer, and of the counts
abbrev pub written : Answer → List ℕ
written New = codes "NEW"
written (Same n) = codes "SAME " ++ decimal n
written (Refused f) = fault_text f

abbrev pub tallied : Tally → List ℕ
tallied t = decimal t.lines ++ (codes " lines, " ++ (decimal t.names ++ (codes " names, " ++ (decimal t.refusals ++ codes " refusals"))))
