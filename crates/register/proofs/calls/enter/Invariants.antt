use Rattle.register.proofs.Going.{Going, steps_left}
use Rattle.register.proofs.calls.enter.Given as goal

abbrev pub invariant-loop-answer : goal.invariant-loop-answer
invariant-loop-answer g l = Going g.K.Key.order g.K.Key.home l.initial.fresh.key l.initial.cells l.cells l.fresh

abbrev pub decreases-loop-answer : goal.decreases-loop-answer
decreases-loop-answer g l = steps_left g.K.Key.order g.K.Key.home l.initial.fresh.key l.initial.cells l.fresh
