use Rattle.script.proofs.Spendable.{held_stepped}
use Rattle.script.proofs.sessions.Session.step.Goals as goal

pub invariant_of-self : goal.invariant_of-self
invariant_of-self c = record {
  four = c.args.self.now.four;
  held = held_stepped _ _ c.args.self.now.slips c.args.self.now.held c.args.station c.step.result c.step.ensures;
}
