-- A refused whole entry has written nothing.
use Rattle.std.proofs.Common.{◌≡◌, ℕ, List, [], Err, Result, Ordering, sym, ap, ◌∙◌}
use Rattle.keys.specs.Laws.{Laws}
use Rattle.protocol.specs.declared.Answer.{Answer}
use Rattle.protocol.specs.declared.Cell.{Cell}
use Rattle.protocol.specs.declared.Refusal.{Refusal}
use Rattle.protocol.specs.declared.Station.{Station}
use Rattle.protocol.specs.Calls.{World, Out}
use Rattle.protocol.specs.Turns.{enter, turned}
use Rattle.protocol.proofs.Theorem.{refused_same}
use Rattle.register.specs.Memory.{world}

pub barred_same : {K : Type 0} {order : K → K → Ordering} {home : K → ℕ → ℕ} → Laws order home → (cells cells' : List (Cell K)) (k : K) (r : Result Answer Refusal)
    → ((number : ℕ) (ts : List (Station K)) → (world number cells' ts, r) ≡ turned order home (world number cells ts) (enter k))
    → (e : Refusal) → r ≡ Err e → cells' ≡ cells
barred_same {K} {order} {home} laws cells cells' k r is e q =
    let one = is 0 [] in
    ap (λ (o : Out K Answer). o.0.cells) one
    ∙ ap (λ (w : World K). w.cells) (refused_same laws (world 0 cells []) (enter k) e (sym (ap (λ (o : Out K Answer). o.1) one) ∙ q))
