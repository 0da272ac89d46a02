use Rattle.std.proofs.Common.{sym, ap, ◌∙◌}
use Rattle.protocol.specs.Calls.{idled}
use Rattle.register.proofs.Loops.{map_over_step}
use Rattle.register.proofs.opening.rest.Goals as goal

pub loop-t-preserved : goal.loop-t-preserved
loop-t-preserved g c =
    map_over_step idled _ _ _ c.t-item.result c.idle.result c.loop-t-test.true c.loop-t.invariant c.t-item.is
    (c.idle.ensures ∙ ap (λ t. idled t) (sym c.t-item.is))
