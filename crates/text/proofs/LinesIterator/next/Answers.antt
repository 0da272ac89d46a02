use Rattle.std.proofs.Common.{rules}
use Rattle.text.proofs.Taken.{taken, none_left}
use Rattle.text.proofs.LinesIterator.next.Goals as goal

pub returns-then-is_empty-clause-steps : goal.returns-then-is_empty-clause-steps
returns-then-is_empty-clause-steps c = none_left _ (search rules)

pub returns-clause-steps : goal.returns-clause-steps
returns-clause-steps c = taken _ _ _ (search rules) c.first_line.ensures.line c.first_line.ensures.rest
