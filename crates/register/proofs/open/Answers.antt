use Rattle.register.specs.Memory.{world}
use Rattle.register.proofs.Opened.{opened_safe}
use Rattle.register.proofs.open.Goals as goal

pub returns-clause-safe : goal.returns-clause-safe
returns-clause-safe g c =
    opened_safe g.met.K.Key.lawful (world c.args.number c.prepare.new.cells c.prepare.new.stations) c.args.number
    c.args.cells.now c.args.stations.now c.args.filler (c.prepare.ensures c.args.number)
