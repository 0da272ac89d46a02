use Rattle.std.proofs.Common.{ℕ, List, ◌++◌, vec_items, string_bytes, ap, ◌∙◌, arith}
use Rattle.script.proofs.Runs.{going_on, ends}
use Rattle.script.proofs.plays.run.Goals as goal

pub loop-line-preserved : goal.loop-line-preserved
loop-line-preserved c =
    going_on _ _ c.args.script.now _ _ _ _ _ _ c.in-Some.line.now (string_bytes c.loop-line.text) _ (string_bytes c.push_str.new.self)
    (vec_items c.loop-line.replies) (vec_items c.push.new.self) c.in_ok-reply.reply _
    c.loop-line.invariant c.in-Some.ensures.steps.0 (omega (arith, c.len.ensures, c.loop-line.replies.ok.0))
    c.in_ok-reply.ensures (c.in_ok-push_str.ensures.bytes ∙ ap (λ (x : List ℕ). string_bytes c.loop-line.text ++ x) c.as_str.ensures.value)
    c.in_ok-push.ensures.items

pub returns : goal.returns
returns c = ends _ _ c.args.script.now _ _ _ _ _ c.loop-line.invariant c.in-None.ensures.steps.0.0
