use Rattle.std.proofs.Common.{◌≡◌, ◌++◌, take, string_bytes, codes}
use Rattle.script.specs.Shown.{spaced}
use Rattle.script.proofs.shown.cells_text.Given as goal

abbrev pub invariant-loop-cell : goal.invariant-loop-cell
invariant-loop-cell l = string_bytes l.text ≡ codes "cells:" ++ spaced (take l.cell-index l.cells)
