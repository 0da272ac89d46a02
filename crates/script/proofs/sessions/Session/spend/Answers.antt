use Rattle.std.proofs.Common.{◌∙◌, arith}
use Rattle.script.proofs.Spendable.{spent_after, spent_count, some_count}
use Rattle.script.proofs.sessions.Session.spend.Goals as goal

pub returns-in_default : goal.returns-in_default
returns-in_default c = record {
  count = some_count c.withdraw.result c.in_default.not-NoSlip ∙ spent_count _ _ c.args.self.now.slips c.withdraw.new.self.slips c.args.station _ c.args.self.now.held c.withdraw.ensures;
  bound = omega arith;
  after = spent_after _ _ c.args.self.now.slips c.withdraw.new.self.slips c.args.station _ c.args.self.now.held c.withdraw.ensures;
}
