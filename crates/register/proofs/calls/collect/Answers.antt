use Rattle.std.proofs.Common.{set, ap, sym, ◌∙◌}
use Rattle.protocol.specs.Calls.{Ok, collecting}
use Rattle.register.specs.Memory.{world}
use Rattle.register.proofs.Checked.{handed_on, stopped, passed, refused, goes_on, no_station, with_record, answered, not_answered}
use Rattle.register.proofs.calls.collect.Goals as goal

pub returns-in_err-check_size : goal.returns-in_err-check_size
unfolding collecting
returns-in_err-check_size g c = λ cs.
    let w = world c.args.number cs c.args.stations.now in
    handed_on w c.from_residual.result c.in_err-check_size.field-0.0 c.from_residual.ensures.1 ∙ stopped w _ _ _ _ c.in_err-check_size.ensures

pub returns-in_err-check_register : goal.returns-in_err-check_register
unfolding collecting
returns-in_err-check_register g c = λ cs.
    let w = world c.args.number cs c.args.stations.now in
    handed_on w c.from_residual-in_err-check_register.result c.in_err-check_register.field-0.0 c.from_residual-in_err-check_register.ensures.1
    ∙ stopped w _ _ _ _ c.in_err-check_register.ensures ∙ passed w _ _ _ c.in_ok-check_size.ensures

pub returns-in_err-t : goal.returns-in_err-t
unfolding collecting
returns-in_err-t g c = λ cs.
    let w = world c.args.number cs c.args.stations.now in
    handed_on w c.from_residual-in_err-t.result c.in_err-t.field-0.0 c.from_residual-in_err-t.ensures.1
    ∙ no_station w _ _ _ c.in_err-t.ensures.value ∙ passed w _ _ _ c.in_ok-check_register.ensures ∙ passed w _ _ _ c.in_ok-check_size.ensures

pub returns-then-t : goal.returns-then-t
unfolding collecting
returns-then-t g c = λ cs.
    let w = world c.args.number cs c.args.stations.now in
    refused w _ _ _ (sym c.if-t.true)
    ∙ with_record w _ _ _ c.in_ok-t.ensures.value ∙ passed w _ _ _ c.in_ok-check_register.ensures ∙ passed w _ _ _ c.in_ok-check_size.ensures

pub returns-in_err-answer : goal.returns-in_err-answer
unfolding collecting
returns-in_err-answer g c = λ cs.
    let w = world c.args.number cs c.args.stations.now in
    handed_on w c.from_residual-in_err-answer.result c.in_err-answer.field-0.0 c.from_residual-in_err-answer.ensures.1
    ∙ not_answered w _ c.in_ok-t.t _ c.in_err-answer.field-0.0 c.in_err-answer.ensures ∙ goes_on w _ _ _ (sym c.if-t.false)
    ∙ with_record w _ _ _ c.in_ok-t.ensures.value ∙ passed w _ _ _ c.in_ok-check_register.ensures ∙ passed w _ _ _ c.in_ok-check_size.ensures

pub returns : goal.returns
unfolding collecting
returns g c = λ cs.
    let w = world c.args.number cs c.args.stations.now in
    ap (λ t. (world c.args.number cs (set c.args.stations.now c.args.slip.now.station t), Ok c.in_ok-answer.answer)) c.idle.ensures
    ∙ answered w _ c.in_ok-t.t _ c.in_ok-answer.answer c.in_ok-answer.ensures ∙ goes_on w _ _ _ (sym c.if-t.false)
    ∙ with_record w _ _ _ c.in_ok-t.ensures.value ∙ passed w _ _ _ c.in_ok-check_register.ensures ∙ passed w _ _ _ c.in_ok-check_size.ensures
