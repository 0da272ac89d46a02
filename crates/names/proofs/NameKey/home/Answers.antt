use Rattle.std.proofs.Common.{ap, ◌∙◌}
use Rattle.keys.specs.Kinds.{share}
use Rattle.names.specs.KeyLaws.{home_by_share}
use Rattle.names.proofs.NameKey.home.Goals as goal

pub returns : goal.returns
returns c = c.share.ensures ∙ ap (λ k. share 1048576 k c.args.n) c.first_two.ensures ∙ home_by_share c.args.self c.args.n
