use Rattle.script.proofs.Spendable.{held_entered}
use Rattle.script.proofs.sessions.Session.enter.Goals as goal

pub invariant_of-self : goal.invariant_of-self
invariant_of-self c = record {
  four = c.args.self.now.four;
  held = held_entered _ _ c.args.self.now.slips c.args.self.now.held c.args.tray c.enter.result (c.enter.ensures.entered c.args.self.now.stations);
}
