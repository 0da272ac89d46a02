-- The map from each name to the line where it first came, as the reader of a list keeps it: the contracts of its inner functions.
use Rattle.std.specs.Prelude.{◌≡◌, ℕ, cond, Some, None, Option, Result}
use Rattle.std.specs.BTreeMap.{IsOrdered, get}
use Rattle.std.specs.Cmp.{IsTotalOrder}
use Rattle.std.specs.BTreeMap.{BTreeMap}
use Rattle.names.specs.KeyLaws.{name_total}
use Rattle.names.specs.declared.Fault.{Fault}
use Rattle.names.specs.declared.Name.{Name}
use Rattle.names.specs.Digits.{name_order}
use Rattle.name_list.specs.declared.Answer.{Answer}
use Rattle.name_list.specs.Lists.{read_as, answer_by}

-- the comparison of names is a total order
abbrev pub names_total : IsTotalOrder name_order
names_total = name_total

-- a map whose keys are in order, and the line that it has for a name
abbrev pub Lawful : BTreeMap Name ℕ → Type 0
Lawful m = IsOrdered name_order m

abbrev pub line_in : BTreeMap Name ℕ → Name → Option ℕ
line_in m x = get name_order m x

-- the first line of a name, after the n-th line was read as r
abbrev pub first_or : Option ℕ → Option ℕ → Option ℕ
first_or None new = new
first_or (Some n) new = Some n

abbrev pub line_if : Option ℕ → ℕ → Result Name Fault → Name → Option ℕ
line_if earlier n r x = first_or earlier (cond (read_as x r) (Some n) None)

-- the answer to the n-th line, which was read as r, and the map after it
pub record Noted (m : BTreeMap Name ℕ) (n : ℕ) (r : Result Name Fault) (a : Answer) (m' : BTreeMap Name ℕ) : Type 0 where
  pub answers : a ≡ answer_by (line_in m) r
  pub lawful : Lawful m'
  pub finds : (x : Name) → line_in m' x ≡ line_if (line_in m x) n r x
