use Rattle.std.proofs.Common.{not, length, ap, ◌∙◌}
use Rattle.protocol.specs.Step.{kind_over}
use Rattle.protocol.specs.Calls.{Err, stepping}
use Rattle.register.specs.Memory.{world}
use Rattle.register.proofs.Checked.{handed_on, not_so, stopped, passed, refused, goes_on, no_station, with_record, turned_to, stepped}
use Rattle.register.proofs.calls.step.Goals as goal

pub returns-in_err-check_size : goal.returns-in_err-check_size
unfolding stepping
returns-in_err-check_size g c = λ number.
    let w = world number c.args.cells.now c.args.stations.now in
    handed_on w c.from_residual.result c.in_err-check_size.field-0.0 c.from_residual.ensures.1 ∙ stopped w _ _ _ _ c.in_err-check_size.ensures

pub returns-in_err-key : goal.returns-in_err-key
unfolding stepping
returns-in_err-key g c = λ number.
    let w = world number c.args.cells.now c.args.stations.now in
    handed_on w c.from_residual-in_err-key.result c.in_err-key.field-0.0 c.from_residual-in_err-key.ensures.1
    ∙ no_station w _ _ _ c.in_err-key.ensures.value ∙ passed w _ _ _ c.in_ok-check_size.ensures

pub returns-then-not-is_busy : goal.returns-then-not-is_busy
unfolding stepping
returns-then-not-is_busy g c = λ number.
    let w = world number c.args.cells.now c.args.stations.now in
    refused w _ _ _ (ap not c.if-not-is_busy.ensures) ∙ with_record w _ _ _ c.in_ok-key.ensures.value ∙ passed w _ _ _ c.in_ok-check_size.ensures

pub returns-in_err-turn : goal.returns-in_err-turn
unfolding stepping
returns-in_err-turn g c = λ number.
    let κ = kind_over g.K.Key.order g.K.Key.home (length c.args.cells.now) in
    let w = world number c.args.cells.now c.args.stations.now in
    handed_on (world number c.turn.new.cells c.args.stations.now) c.from_residual-in_err-turn.result c.in_err-turn.field-0.0
    c.from_residual-in_err-turn.ensures.1
    ∙ turned_to κ w c.args.s c.in_ok-key.field-0 (not_so _ _ c.in_ok-check_size.ensures) (c.turn.new.cells, c.turn.new.self, Err c.in_err-turn.field-0.0) c.in_err-turn.ensures
    ∙ goes_on w _ _ _ (ap not c.if-not-is_busy.ensures) ∙ with_record w _ _ _ c.in_ok-key.ensures.value ∙ passed w _ _ _ c.in_ok-check_size.ensures

pub returns : goal.returns
unfolding stepping
returns g c = λ number.
    let κ = kind_over g.K.Key.order g.K.Key.home (length c.args.cells.now) in
    let w = world number c.args.cells.now c.args.stations.now in
    stepped κ w c.args.s c.in_ok-key.field-0 (not_so _ _ c.in_ok-check_size.ensures) c.turn.new.cells c.turn.new.self c.in_ok-turn.ensures
    c.settle-stage.result c.stays_withdrawn.result c.progress.result c.settle-stage.ensures c.stays_withdrawn.ensures c.progress.ensures
    ∙ goes_on w _ _ _ (ap not c.if-not-is_busy.ensures) ∙ with_record w _ _ _ c.in_ok-key.ensures.value ∙ passed w _ _ _ c.in_ok-check_size.ensures
