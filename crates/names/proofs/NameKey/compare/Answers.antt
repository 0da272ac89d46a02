use Rattle.std.proofs.Common.{sym, ◌∙◌}
use Rattle.keys.specs.Kinds.{by_size}
use Rattle.names.specs.KeyLaws.{order_by_words, then_then}
use Rattle.names.proofs.NameKey.compare.Goals as goal

pub returns : goal.returns
returns c =
    let x = c.args.self in
    let y = c.args.other in
    c.cmp.ensures ∙ then_then (by_size x.high y.high) (by_size x.middle y.middle) (by_size x.low y.low) ∙ sym (order_by_words x y)
