-- The theorem, of the memory that an opening has left.
use Rattle.std.proofs.Common.{◌≡◌, ℕ, List, Ordering, sym, subst}
use Rattle.keys.specs.Laws.{Laws}
use Rattle.protocol.specs.declared.Cell.{Cell}
use Rattle.protocol.specs.declared.Station.{Station}
use Rattle.protocol.specs.Calls.{World, opening}
use Rattle.protocol.specs.Safety.{SafeFrom}
use Rattle.protocol.proofs.Theorem.{safe}

pub opened_safe : {K : Type 0} {order : K → K → Ordering} {home : K → ℕ → ℕ} → Laws order home → (w : World K) (number : ℕ) (cs : List (Cell K))
    (ts : List (Station K)) (filler : K) → w ≡ opening number cs ts filler → SafeFrom order home w
opened_safe {order = order} {home = home} laws w number cs ts filler e = subst (SafeFrom order home) (sym e) (safe laws number cs ts filler)
