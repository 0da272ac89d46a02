use Rattle.protocol.proofs.Examples.{examples}
use Rattle.protocol.proofs.examples_hold.Goals as goal

pub returns : goal.returns
returns c = examples
