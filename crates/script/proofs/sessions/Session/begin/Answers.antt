use Rattle.std.proofs.Common.{arith}
use Rattle.script.proofs.Spendable.{as_many, begun_within, begun_empty, held_begun, held_not_begun}
use Rattle.script.proofs.sessions.Session.begin.Goals as goal

pub lay-requires : goal.lay-requires
lay-requires c = record {
  within = omega (arith, begun_within _ _ c.args.self.now.slips c.args.self.now.held c.args.station c.args.tray c.in-Ok.slip c.in-Ok.ensures);
  empty = begun_empty _ _ c.args.self.now.slips c.args.self.now.held c.args.station c.args.tray c.in-Ok.slip c.in-Ok.ensures;
}

pub invariant_of-self : goal.invariant_of-self
invariant_of-self c = record {
  four = as_many c.args.self.now.slips c.lay.new.slips c.args.station 4 _ c.lay.ensures c.args.self.now.four;
  held = held_begun _ _ c.args.self.now.slips c.args.self.now.held c.args.station c.args.tray c.in-Ok.slip c.lay.new.slips
      c.in-Ok.ensures c.lay.ensures;
}

pub invariant_of-self-in-Err-1 : goal.invariant_of-self-in-Err-1
invariant_of-self-in-Err-1 c = record {
  four = c.args.self.now.four;
  held = held_not_begun _ _ c.args.self.now.slips c.args.self.now.held c.args.station c.args.tray c.in-Err.refusal c.in-Err.ensures;
}
