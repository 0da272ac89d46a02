use Rattle.std.proofs.Common.{ℕ, ◌≤◌, Bool, true, false, length, Some, None, sym, ◌∙◌, arith}
use Rattle.std.proofs.lemmas.Grind.{common_steps}
use Rattle.std.specs.Bool.{then_some}
use Rattle.stages.proofs.Places.{read_cell, read_edge}
use Rattle.stages.proofs.cells.held_at.Goals as goal

pub returns-in_err-cell-clause-value : goal.returns-in_err-cell-clause-value
returns-in_err-cell-clause-value g c =
    c.from_residual.ensures ∙ sym (read_edge c.args.cells.now c.args.place (sym c.cell_at.ensures ∙ c.in_err-cell.was)).0

inside_if : {K : Type 0} (b : Bool) (k : K) (p n : ℕ) → p ≤ n → elim (then_some b k) as (λ o. Type 0) [ None ↦ Unit {0} | Some x ↦ p ≤ n ]
inside_if true k p n h = h
inside_if false k p n h = tt

pub returns : goal.returns
returns g c =
    let e = read_cell c.args.cells.now c.args.place c.in_ok-cell.cell (sym c.cell_at.ensures ∙ c.in_ok-cell.was) in
    record {
      value = grind (arith, common_steps, e);
      inside = rw c.then_some.ensures (inside_if c.in_ok-cell.cell.occupied c.in_ok-cell.cell.key c.args.place (length c.args.cells.now) e.2);
    }
