use Rattle.std.proofs.Common.{◌≡◌, ◌++◌, map, take, drop}
use Rattle.protocol.specs.Calls.{blank}
use Rattle.register.proofs.opening.clear.Given as goal

abbrev pub invariant-loop-c : goal.invariant-loop-c
invariant-loop-c g l = l.cells ≡ map (blank l.filler) (take l.c-index l.initial.cells) ++ drop l.c-index l.initial.cells
