use Rattle.script.proofs.Spendable.{as_many, held_collected, held_not_collected}
use Rattle.script.proofs.sessions.Session.collect.Goals as goal

pub invariant_of-self-in-Ok-1 : goal.invariant_of-self-in-Ok-1
invariant_of-self-in-Ok-1 c = record {
  four = as_many c.args.self.now.slips c.pick.new.slips c.args.station 4 _ c.pick.ensures.after c.args.self.now.four;
  held = held_collected _ _ c.args.self.now.slips c.args.self.now.held c.args.station c.in-Some.slip c.in-Some.ensures.value _ c.pick.new.slips
      c.in-Ok.ensures c.pick.ensures.after;
}

pub invariant_of-self-in-Err : goal.invariant_of-self-in-Err
invariant_of-self-in-Err c = record {
  four = as_many c.pick.new.slips c.lay.new.slips c.args.station 4 _ c.lay.ensures
      (as_many c.args.self.now.slips c.pick.new.slips c.args.station 4 _ c.pick.ensures.after c.args.self.now.four);
  held = held_not_collected _ c.args.self.now.slips c.args.station _ c.pick.new.slips c.lay.new.slips c.in-Some.slip c.in-Err.field-0
      c.in-Some.ensures.value c.in-Err.ensures c.pick.ensures.after c.lay.ensures c.args.self.now.held;
}
