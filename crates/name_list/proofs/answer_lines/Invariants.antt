use Rattle.std.proofs.Common.{vec_items}
use Rattle.name_list.proofs.Loops.{Going}
use Rattle.name_list.proofs.answer_lines.Given as goal

abbrev pub invariant-loop-n : goal.invariant-loop-n
invariant-loop-n l = Going l.bytes l.lines.rest.now l.n (vec_items l.answers) l.first
