use Rattle.script.proofs.Spendable.{as_many, held_withdrawn, never_refused}
use Rattle.script.proofs.sessions.Session.withdraw.Goals as goal

pub invariant_of-self-in-Some : goal.invariant_of-self-in-Some
invariant_of-self-in-Some c = record {
  four = as_many c.args.self.now.slips c.pick.new.slips c.args.station 4 _ c.pick.ensures.after c.args.self.now.four;
  held = held_withdrawn _ _ c.args.self.now.slips c.args.self.now.held c.args.station c.in-Some.slip c.in-Some.ensures.value c.withdraw.result
      c.pick.new.slips c.withdraw.ensures c.pick.ensures.after;
}

pub unreachable-requires : goal.unreachable-requires
unreachable-requires c =
    never_refused _ _ c.args.self.now.slips c.args.self.now.held c.args.station c.in-Some.slip c.in-Some.ensures.value c.in-Err.field-0 c.in-Err.ensures
