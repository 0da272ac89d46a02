-- The slips in hand, one place for each station.
use Rattle.std.specs.Prelude.{◌≡◌, ℕ, ◌+◌, Bool, true, ◌&&◌, List, [], ◌∷◌, Some, None, Option, ◌==◌, slice_index_or}
use Rattle.keys.specs.declared.Tray.{Tray}
use Rattle.protocol.specs.Calls.{World}
use Rattle.register.specs.declared.Slip.{Slip}
use Rattle.register.specs.Slips.{spendable}

-- at station s there is no slip in hand, or one of that station that can be spent
abbrev pub held_at : World Tray → ℕ → Option Slip → Bool
held_at w s None = true
held_at w s (Some x) = x.station == s && spendable w x.register x.station

abbrev pub Held : World Tray → List (Option Slip) → Type 0
Held w slips = (s : ℕ) → held_at w s (slice_index_or slips s None) ≡ true

-- how many slips are in hand
abbrev pub one_if : Option Slip → ℕ
one_if None = 0
one_if (Some x) = 1

abbrev pub slips_left : List (Option Slip) → ℕ
slips_left [] = 0
slips_left (o ∷ os) = one_if o + slips_left os
