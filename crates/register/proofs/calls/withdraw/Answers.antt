use Rattle.std.proofs.Common.{set, ap, ◌∙◌}
use Rattle.protocol.specs.declared.Departure.TheVariants.{Gone}
use Rattle.protocol.specs.Calls.{Ok, withdrawing, withdrawing_at}
use Rattle.register.specs.Memory.{world}
use Rattle.register.proofs.Checked.{handed_on, stopped, passed, refused, goes_on, no_station, with_record}
use Rattle.register.proofs.calls.withdraw.Goals as goal

pub returns-in_err-check_size : goal.returns-in_err-check_size
unfolding withdrawing
returns-in_err-check_size g c = λ cs.
    let w = world c.args.number cs c.args.stations.now in
    handed_on w c.from_residual.result c.in_err-check_size.field-0.0 c.from_residual.ensures.1 ∙ stopped w _ _ _ _ c.in_err-check_size.ensures

pub returns-in_err-check_register : goal.returns-in_err-check_register
unfolding withdrawing
returns-in_err-check_register g c = λ cs.
    let w = world c.args.number cs c.args.stations.now in
    handed_on w c.from_residual-in_err-check_register.result c.in_err-check_register.field-0.0 c.from_residual-in_err-check_register.ensures.1
    ∙ stopped w _ _ _ _ c.in_err-check_register.ensures ∙ passed w _ _ _ c.in_ok-check_size.ensures

pub returns-in_err-t : goal.returns-in_err-t
unfolding withdrawing
returns-in_err-t g c = λ cs.
    let w = world c.args.number cs c.args.stations.now in
    handed_on w c.from_residual-in_err-t.result c.in_err-t.field-0.0 c.from_residual-in_err-t.ensures.1
    ∙ no_station w _ _ _ c.in_err-t.ensures.value ∙ passed w _ _ _ c.in_ok-check_register.ensures ∙ passed w _ _ _ c.in_ok-check_size.ensures

pub returns-then-is_gone : goal.returns-then-is_gone
unfolding withdrawing
returns-then-is_gone g c = λ cs.
    let w = world c.args.number cs c.args.stations.now in
    refused w _ _ _ c.if-is_gone.ensures
    ∙ with_record w _ _ _ c.in_ok-t.ensures.value ∙ passed w _ _ _ c.in_ok-check_register.ensures ∙ passed w _ _ _ c.in_ok-check_size.ensures

pub returns-then-holds_mark : goal.returns-then-holds_mark
unfolding withdrawing
returns-then-holds_mark g c = λ cs.
    let w = world c.args.number cs c.args.stations.now in
    ap (withdrawing_at w c.args.slip.now.station c.in_ok-t.t) c.if-holds_mark.ensures
    ∙ goes_on w _ _ _ c.if-is_gone.ensures
    ∙ with_record w _ _ _ c.in_ok-t.ensures.value ∙ passed w _ _ _ c.in_ok-check_register.ensures ∙ passed w _ _ _ c.in_ok-check_size.ensures

pub returns-else-holds_mark : goal.returns-else-holds_mark
unfolding withdrawing
returns-else-holds_mark g c = λ cs.
    let w = world c.args.number cs c.args.stations.now in
    ap (λ t. (world c.args.number cs (set c.args.stations.now c.args.slip.now.station t), Ok Gone)) c.idle.ensures
    ∙ ap (withdrawing_at w c.args.slip.now.station c.in_ok-t.t) c.if-holds_mark.ensures
    ∙ goes_on w _ _ _ c.if-is_gone.ensures
    ∙ with_record w _ _ _ c.in_ok-t.ensures.value ∙ passed w _ _ _ c.in_ok-check_register.ensures ∙ passed w _ _ _ c.in_ok-check_size.ensures
