use Rattle.names.specs.Decomposition.{canonical}
use Rattle.names.specs.Letters.{letter_of, mark_number}
use Rattle.std.proofs.Common.{refl}
use Rattle.names.proofs.Tables.{right, table_rule}
use Rattle.names.proofs.letters.table_digit.Goals as goal

pub returns-in-0-clause-rule : goal.returns-in-0-clause-rule
unfolding right letter_of canonical mark_number
returns-in-0-clause-rule c = table_rule _ refl refl refl

pub returns-in_default-clause-rule : goal.returns-in_default-clause-rule
unfolding right letter_of canonical mark_number
returns-in_default-clause-rule c = table_rule _ refl refl refl
