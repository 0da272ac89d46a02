use Rattle.script.proofs.Spendable.{Settling}
use Rattle.script.proofs.sessions.Session.settle.Given as goal

abbrev pub invariant-loop-station : goal.invariant-loop-station
invariant-loop-station l = Settling l.initial.self.slips l.self.slips l.station l.left
