use Rattle.protocol.specs.Cells.{with_key}
use Rattle.stages.proofs.Places.{write_cell, write_edge}
use Rattle.stages.proofs.cells.put_key.Goals as goal

pub returns-then-is_cell : goal.returns-then-is_cell
returns-then-is_cell g c = write_cell (with_key c.args.key) c.args.cells.now c.args.place _ c.if-is_cell.ensures

pub returns-else-is_cell : goal.returns-else-is_cell
returns-else-is_cell g c = write_edge (with_key c.args.key) c.args.cells.now c.args.place c.if-is_cell.ensures
