-- A code point takes a byte or more.
use Rattle.std.proofs.Common.{◌≡◌, ℕ, ◌<◌, List, length, Some, ap, arith}
use Rattle.std.proofs.lemmas.Bool.Decides.{nat_tests}
use Rattle.names.specs.Utf8.{encoded, first}
use Rattle.names.proofs.Encodings.{back}

longer : (c : ℕ) (rest : List ℕ) → length rest < length (encoded c rest)
longer c rest = grind (arith, nat_tests)

pub shorter : (bs rest : List ℕ) (c : ℕ) → first bs ≡ Some (c, rest) → length rest < length bs
shorter bs rest c e = omega (arith, longer c rest, ap length (back bs rest c e).bytes)
