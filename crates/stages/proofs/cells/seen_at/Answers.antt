use Rattle.std.proofs.Common.{sym, ◌∙◌, arith}
use Rattle.std.proofs.lemmas.Grind.{common_steps}
use Rattle.stages.proofs.Places.{read_cell, read_edge}
use Rattle.stages.proofs.cells.seen_at.Goals as goal

pub returns-in-Some : goal.returns-in-Some
returns-in-Some g c =
    let e = read_cell c.args.cells.now c.args.place c.in-Some.cell (sym c.cell_at.ensures ∙ c.in-Some.is) in
    record { marked = sym e.1; occupied = grind (arith, common_steps, e) }

pub returns-in-None : goal.returns-in-None
returns-in-None g c =
    let e = read_edge c.args.cells.now c.args.place (sym c.cell_at.ensures ∙ c.in-None.is) in
    record { marked = sym e.1; occupied = grind (arith, common_steps, e) }
