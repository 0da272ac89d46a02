use Rattle.std.proofs.Common.{vec_items, string_bytes}
use Rattle.text.specs.Lines.{lines_of}
use Rattle.register.specs.Memory.{behind}
use Rattle.script.proofs.Runs.{Going}
use Rattle.script.proofs.plays.run.Given as goal

abbrev pub invariant-loop-line : goal.invariant-loop-line
invariant-loop-line l =
    Going (behind l.initial.session.register l.initial.session.stations) l.initial.session.slips l.script
    (behind l.session.register l.session.stations) l.session.slips (lines_of l.line-iterator.rest.now) (string_bytes l.text) (vec_items l.replies)
