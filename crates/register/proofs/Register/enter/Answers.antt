use Rattle.register.proofs.Barred.{barred_same}
use Rattle.register.proofs.Register.enter.Goals as goal

pub returns-clause-refused : goal.returns-clause-refused
returns-clause-refused g c =
    barred_same g.met.K.Key.lawful c.args.self.now.cells.now c.enter.new.cells c.args.key c.enter.result c.enter.ensures
