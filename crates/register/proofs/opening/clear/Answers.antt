use Rattle.protocol.specs.Calls.{blank}
use Rattle.register.proofs.Loops.{map_over_step}
use Rattle.register.proofs.opening.clear.Goals as goal

pub loop-c-preserved : goal.loop-c-preserved
loop-c-preserved g c =
    map_over_step (blank c.args.filler) _ _ _ c.c-item.result c.empty.result c.loop-c-test.true c.loop-c.invariant c.c-item.is
    (c.empty.ensures c.c-item.result)
