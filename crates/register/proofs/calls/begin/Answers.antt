use Rattle.std.proofs.Common.{not, set, ap, ◌∙◌}
use Rattle.protocol.specs.declared.Stage.TheVariants.{Home}
use Rattle.protocol.specs.Calls.{Ok, beginning}
use Rattle.register.specs.Memory.{world, hands_out}
use Rattle.register.proofs.Checked.{handed_on, stopped, passed, refused, goes_on, no_station, with_record}
use Rattle.register.proofs.calls.begin.Goals as goal

pub returns-in_err-check_size : goal.returns-in_err-check_size
unfolding beginning
returns-in_err-check_size g c = λ cs.
    let w = world c.args.number cs c.args.stations.now in
    handed_on w c.from_residual.result c.in_err-check_size.field-0.0 c.from_residual.ensures.1
    ∙ ap hands_out (stopped w _ _ _ _ c.in_err-check_size.ensures)

pub returns-in_err-t : goal.returns-in_err-t
unfolding beginning
returns-in_err-t g c = λ cs.
    let w = world c.args.number cs c.args.stations.now in
    handed_on w c.from_residual-in_err-t.result c.in_err-t.field-0.0 c.from_residual-in_err-t.ensures.1
    ∙ ap hands_out (no_station w _ _ _ c.in_err-t.ensures.value ∙ passed w _ _ _ c.in_ok-check_size.ensures)

pub returns-then-not-is_idle : goal.returns-then-not-is_idle
unfolding beginning
returns-then-not-is_idle g c = λ cs.
    let w = world c.args.number cs c.args.stations.now in
    ap hands_out
    (refused w _ _ _ (ap not c.if-not-is_idle.ensures) ∙ with_record w _ _ _ c.in_ok-t.ensures.value ∙ passed w _ _ _ c.in_ok-check_size.ensures)

pub returns : goal.returns
unfolding beginning
returns g c = λ cs.
    let w = world c.args.number cs c.args.stations.now in
    ap
    (λ t. (world c.args.number cs (set c.args.stations.now c.args.s (record { key = t.key; stage = Home; withdrawn = t.withdrawn })), Ok record { register = c.args.number; station = c.args.s }))
    c.idle.ensures
    ∙ ap hands_out
    (goes_on w _ _ _ (ap not c.if-not-is_idle.ensures) ∙ with_record w _ _ _ c.in_ok-t.ensures.value ∙ passed w _ _ _ c.in_ok-check_size.ensures)
