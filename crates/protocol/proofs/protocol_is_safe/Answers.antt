use Rattle.protocol.proofs.Theorem.{safe}
use Rattle.protocol.proofs.protocol_is_safe.Goals as goal

pub returns : goal.returns
returns g c = safe g.met.K.Key.lawful
