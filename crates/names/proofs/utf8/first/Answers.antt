use Rattle.std.proofs.Common.{rules}
use Rattle.names.proofs.utf8.first.Goals as goal
use Rattle.names.proofs.utf8.first.Goals.{in_default-via-then-this-lt194, in_default-via-else-this-lt194+then-this-lt224+then-this-lt1, in_default-via-else-this-lt194+else-this-lt224+then-this-lt240+then-this-lt2, in_default-via-in-224-to-239-len2-up+else-fits, in_default-via-else-this-lt194+else-this-lt224+else-this-lt240+then-this-lt245+then-this-lt3, in_default-via-in-240-to-244-len3-up+else-fits-2, in_default-via-else-this-lt194+else-this-lt224+else-this-lt240+else-this-lt245}

pub returns-in_default : goal.returns-in_default
returns-in_default c =
    elim c.in_default.branch [
      | in_default-via-then-this-lt194 w ↦ search rules
      | in_default-via-else-this-lt194+then-this-lt224+then-this-lt1 w ↦ search rules
      | in_default-via-else-this-lt194+else-this-lt224+then-this-lt240+then-this-lt2 w ↦ search rules
      | in_default-via-in-224-to-239-len2-up+else-fits w ↦ search rules
      | in_default-via-else-this-lt194+else-this-lt224+else-this-lt240+then-this-lt245+then-this-lt3 w ↦ search rules
      | in_default-via-in-240-to-244-len3-up+else-fits-2 w ↦ search rules
      | in_default-via-else-this-lt194+else-this-lt224+else-this-lt240+else-this-lt245 w ↦ search rules
    ]
