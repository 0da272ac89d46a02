use Rattle.std.proofs.Common.{◌≡◌, ◌++◌, map, take, drop}
use Rattle.protocol.specs.Calls.{idled}
use Rattle.register.proofs.opening.rest.Given as goal

abbrev pub invariant-loop-t : goal.invariant-loop-t
invariant-loop-t g l = l.stations ≡ map idled (take l.t-index l.initial.stations) ++ drop l.t-index l.initial.stations
