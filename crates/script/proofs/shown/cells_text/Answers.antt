use Rattle.script.proofs.Rows.{row_more}
use Rattle.script.proofs.shown.cells_text.Goals as goal

pub loop-cell-preserved : goal.loop-cell-preserved
loop-cell-preserved c =
    row_more c.args.cells.now c.loop-cell.cell-index _ _ _ c.loop-cell-test.true c.loop-cell.invariant c.in_ok-write.ensures.bytes
