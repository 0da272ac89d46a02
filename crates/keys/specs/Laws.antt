-- What every kind of key owes: the laws of its comparison and its home.
-- A key is before another where the comparison says Less, the same where it says Equal, after it where it says Greater.
use Rattle.std.specs.Prelude.{◌≡◌, ℕ, ◌<◌, ◌≤◌}
use Rattle.std.specs.declared.cmp.Ordering.TheVariants.{Less, Equal}
use Rattle.std.specs.declared.cmp.Ordering.{Ordering}
use Rattle.std.specs.Ordering.{ordering_reverse}

-- The order is a function to three answers, so of two keys exactly one of before, same and after holds.
pub record Laws {K : Type 0} (order : K → K → Ordering) (home : K → ℕ → ℕ) : Type 0 where
  -- equal keys are the same, and no others
  pub itself : (x : K) → order x x ≡ Equal
  pub equal : (x y : K) → order x y ≡ Equal → x ≡ y
  -- exchanging two keys exchanges before and after
  pub exchange : (x y : K) → order y x ≡ ordering_reverse (order x y)
  -- before is transitive
  pub onward : (x y z : K) → order x y ≡ Less → order y z ≡ Less → order x z ≡ Less
  -- of n cells, from 1 to 65,536, the home is one
  pub within : (x : K) (n : ℕ) → 1 ≤ n → n ≤ 65536 → home x n < n
  -- a key before another never has the later home
  pub homes : (x y : K) (n : ℕ) → 1 ≤ n → n ≤ 65536 → order x y ≡ Less → home x n ≤ home y n
