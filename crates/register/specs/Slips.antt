-- Slips that can be spent.
use Rattle.std.specs.Prelude.{ℕ, Bool, false, not, ◌&&◌, length, Some, None, Option, ◌==◌}
use Rattle.protocol.specs.declared.Station.{Station}
use Rattle.protocol.specs.Cells.{nth}
use Rattle.protocol.specs.Stages.{is_idle}
use Rattle.protocol.specs.Calls.{World, bad_size, bad_count}

-- a record with an entry that is not withdrawn
abbrev pub awaited : {K : Type 0} → Option (Station K) → Bool
awaited None = false
awaited (Some t) = not (is_idle t.stage) && not t.withdrawn

-- the slip with these numbers can be spent: it is this register's, and its station has an entry that is not withdrawn
abbrev pub spendable : {K : Type 0} → World K → ℕ → ℕ → Bool
spendable w number s =
    not (bad_size (length w.cells)) && (not (bad_count (length w.stations)) && (w.number == number && awaited (nth w.stations s)))
