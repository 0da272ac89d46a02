-- The comparison and the home of type numbers and trays.
use Rattle.std.specs.Prelude.{ℕ, ◌-◌, ◌*◌, ◌/◌, min, cond, List, ◌++◌, Ok, Err, Result, codes, decimal, ◌==◌, nat_le, nat_lt}
use Rattle.std.specs.declared.cmp.Ordering.TheVariants.{Less, Equal, Greater}
use Rattle.std.specs.declared.cmp.Ordering.{Ordering}
use Rattle.keys.specs.declared.TypeNumber.{TypeNumber}
use Rattle.keys.specs.declared.Tray.{Tray}
use Rattle.keys.specs.declared.AboveLimit.{AboveLimit}

abbrev pub by_size : ℕ → ℕ → Ordering
by_size x y = cond (nat_lt x y) Less (cond (x == y) Equal Greater)

-- floor(k × n / limit) for k below limit; a larger k has the home of limit - 1, so that the laws hold of every number
abbrev pub share : ℕ → ℕ → ℕ → ℕ
share limit k n = min k (limit - 1) * n / limit

-- a type number is an unsigned 32-bit number
abbrev pub type_order : TypeNumber → TypeNumber → Ordering
type_order x y = by_size x.0 y.0

abbrev pub type_home : TypeNumber → ℕ → ℕ
type_home x n = share 4294967296 x.0 n

-- a tray is a number from 0 to 999; memory may hold a larger one, which no call makes
abbrev pub tray_order : Tray → Tray → Ordering
tray_order x y = by_size x.number y.number

abbrev pub tray_home : Tray → ℕ → ℕ
tray_home x n = share 1000 x.number n

abbrev pub tray_of : ℕ → Result Tray AboveLimit
tray_of k = cond (nat_le k 999) (Ok record { number = k }) (Err record {})

-- the number of the refusal of a tray
abbrev pub refusal_number : AboveLimit → ℕ
refusal_number e = 13

-- how the refusal is printed
abbrev pub refusal_text : AboveLimit → List ℕ
refusal_text e = codes "REFUSED " ++ decimal (refusal_number e)
