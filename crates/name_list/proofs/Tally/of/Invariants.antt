use Rattle.std.proofs.Common.{◌≡◌, take, count_by}
use Rattle.name_list.specs.Lists.{is_new, is_refused}
use Rattle.name_list.proofs.Tally.of.Given as goal

abbrev pub invariant-loop-answer : goal.invariant-loop-answer
invariant-loop-answer l =
    (l.names ≡ count_by is_new (take l.answer-index l.answers)) × (l.refusals ≡ count_by is_refused (take l.answer-index l.answers))
