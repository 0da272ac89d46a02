use Rattle.std.proofs.Common.{◌∙◌}
use Rattle.protocol.specs.Calls.{whole_entry}
use Rattle.register.specs.Memory.{world}
use Rattle.register.proofs.Going.{going_start, never_refused, came_home, was_answered, going_on}
use Rattle.register.proofs.Checked.{handed_on, not_so, stopped}
use Rattle.register.proofs.calls.enter.Goals as goal

pub returns-in_err-check_size : goal.returns-in_err-check_size
unfolding whole_entry
returns-in_err-check_size g c = λ number ts.
    let w = world number c.args.cells.now ts in
    handed_on w c.from_residual.result c.in_err-check_size.field-0.0 c.from_residual.ensures.1 ∙ stopped w _ _ _ _ c.in_err-check_size.ensures

pub loop-answer-init : goal.loop-answer-init
loop-answer-init g c =
    going_start g.K.Key.order g.K.Key.home c.args.key c.args.cells.now g.met.K.Key.lawful (not_so _ _ c.in_ok-check_size.ensures)

pub returns-in_err-turn : goal.returns-in_err-turn
returns-in_err-turn g c =
    absurd
    (never_refused g.K.Key.order g.K.Key.home c.args.key c.args.cells.now g.met.K.Key.lawful (not_so _ _ c.in_ok-check_size.ensures)
    c.loop-answer.cells c.loop-answer.fresh c.loop-answer.invariant c.turn.new.cells c.turn.new.self c.turn.result c.turn.ensures
    c.in_err-turn.field-0.0 c.in_err-turn.was)

pub returns-in-Home : goal.returns-in-Home
returns-in-Home g c =
    came_home g.K.Key.order g.K.Key.home c.args.key c.args.cells.now g.met.K.Key.lawful (not_so _ _ c.in_ok-check_size.ensures)
    c.loop-answer.cells c.loop-answer.fresh c.loop-answer.invariant c.turn.new.cells c.turn.new.self c.turn.result
    c.turn.ensures c.in-Home.is

pub returns-in-Answered : goal.returns-in-Answered
returns-in-Answered g c =
    was_answered g.K.Key.order g.K.Key.home c.args.key c.args.cells.now g.met.K.Key.lawful (not_so _ _ c.in_ok-check_size.ensures)
    c.loop-answer.cells c.loop-answer.fresh c.loop-answer.invariant c.turn.new.cells c.turn.new.self c.turn.result
    c.turn.ensures c.in-Answered.answer c.in-Answered.is

pub loop-answer-smaller : goal.loop-answer-smaller
loop-answer-smaller g c =
    (going_on g.K.Key.order g.K.Key.home c.args.key c.args.cells.now g.met.K.Key.lawful (not_so _ _ c.in_ok-check_size.ensures)
    c.loop-answer.cells c.loop-answer.fresh c.loop-answer.invariant c.turn.new.cells c.turn.new.self c.turn.result
    c.turn.ensures c.in_default.not-Home c.in_default.not-Answered).1

pub loop-answer-preserved : goal.loop-answer-preserved
loop-answer-preserved g c =
    (going_on g.K.Key.order g.K.Key.home c.args.key c.args.cells.now g.met.K.Key.lawful (not_so _ _ c.in_ok-check_size.ensures)
    c.loop-answer.cells c.loop-answer.fresh c.loop-answer.invariant c.turn.new.cells c.turn.new.self c.turn.result
    c.turn.ensures c.in_default.not-Home c.in_default.not-Answered).0
