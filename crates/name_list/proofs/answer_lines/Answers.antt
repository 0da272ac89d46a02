use Rattle.std.proofs.Common.{◌≡◌, ◌∙◌, vec_items, ap, arith}
use Rattle.std.specs.BTreeMap.{is_at}
use Rattle.std.specs.Map.{lookup}
use Rattle.names.specs.Digits.{name_order}
use Rattle.text.specs.declared.Lines.{Lines}
use Rattle.text.proofs.Taken.{line_taken, no_line}
use Rattle.name_list.proofs.Loops.{going_starts, going_on, finished_at_end, finished_full}
use Rattle.name_list.proofs.answer_lines.Goals as goal
use Rattle.name_list.proofs.answer_lines.Goals.{else-loop-n-test, then-loop-n-test+in_default}

pub loop-n-init : goal.loop-n-init
loop-n-init c =
    going_starts c.args.bytes.now c.of-lines.result.rest.now (vec_items c.new-answers.result) c.new-first.result c.of-lines.ensures
    c.new-answers.ensures.items c.new-first.ensures.ordered (λ x. ap (lookup (is_at (name_order x))) c.new-first.ensures.empty)

pub loop-n-preserved : goal.loop-n-preserved
loop-n-preserved c =
    going_on c.args.bytes.now c.loop-n.lines.rest.now c.in-Some.line.now c.next.new.self.rest.now
    (vec_items c.loop-n.answers) (vec_items c.push.new.self) c.loop-n.first c.note.new.first c.loop-n.n c.in_ok-note.field-0
    c.loop-n.invariant (omega arith) (line_taken _ _ _ c.in-Some.ensures.steps.0) c.in-Some.ensures.steps.1 c.in_ok-push.ensures.items c.in_ok-note.ensures

pub returns : goal.returns
returns c =
    let unread : c.rest.result.now ≡ c.loop-n-test.lines.rest.now = c.rest.ensures in
    elim c.loop-n-test.branch [
      | else-loop-n-test w ↦
          finished_full c.args.bytes.now c.loop-n.lines.rest.now c.rest.result.now c.loop-n.n (vec_items c.loop-n.answers) c.loop-n.first
          c.loop-n.invariant (unread ∙ ap (λ (x : Lines). x.rest.now) w.lines-is) w.loop-n-test.false
      | then-loop-n-test+in_default w ↦
          let end = no_line _ w.in_default.ensures.steps.0.0 in
          finished_at_end c.args.bytes.now c.loop-n.lines.rest.now c.rest.result.now c.loop-n.n (vec_items c.loop-n.answers) c.loop-n.first
          c.loop-n.invariant (unread ∙ ap (λ (x : Lines). x.rest.now) w.lines-is ∙ w.in_default.ensures.steps.1 ∙ end.1) end.0
    ]
