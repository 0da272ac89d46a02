-- Keys that are compared by a number and have their home by its share: their laws, once for every such kind.
-- Any comparison will do that is std's `nat_cmp` at every two numbers: each kind shows that of its own.
use Rattle.std.specs.Prelude.{◌≡◌, ℕ, ◌+◌, ◌-◌, ◌*◌, ◌/◌, ◌<◌, ◌≤◌, min}
use Rattle.std.specs.declared.cmp.Ordering.TheVariants.{Less, Equal}
use Rattle.std.specs.declared.cmp.Ordering.{Ordering}
use Rattle.std.proofs.Common.{sym, ap, ◌∙◌, arith, mul-le-mul_right, mul_comm, div-lt_iff_lt-mul, div-mul-le_self}
use Rattle.std.proofs.Math.Nat.{mul-lt-mul_of_pos_left, div-le_of_le-mul}
use Rattle.std.proofs.lemmas.Nat.{le-div}
use Rattle.std.proofs.lemmas.Bool.Decides.{nat_tests}
use Rattle.std.specs.Ordering.{nat_cmp, ordering_reverse}
use Rattle.keys.specs.Laws.{Laws}
use Rattle.keys.specs.Kinds.{share}
use Rattle.keys.specs.declared.TypeNumber.{TypeNumber}
use Rattle.keys.specs.declared.Tray.{Tray}

pub size_itself : (x : ℕ) → nat_cmp x x ≡ Equal
size_itself x = grind (arith, nat_tests)

pub size_equal : (x y : ℕ) → nat_cmp x y ≡ Equal → x ≡ y
size_equal x y e = grind (arith, nat_tests)

size_exchange : (x y : ℕ) → nat_cmp y x ≡ ordering_reverse (nat_cmp x y)
size_exchange x y = grind (arith, nat_tests)

size_onward : (x y z : ℕ) → nat_cmp x y ≡ Less → nat_cmp y z ≡ Less → nat_cmp x z ≡ Less
size_onward x y z p q = grind (arith, nat_tests)

size_less : (x y : ℕ) → nat_cmp x y ≡ Less → x ≤ y
size_less x y e = grind (arith, nat_tests)

-- a share of n, for every limit above 0
pub share_below : (limit k n : ℕ) → 0 < limit → 1 ≤ n → share limit k n < n
share_below limit k n l h =
    let most : min k (limit - 1) < limit = omega arith in
    let scaled : n * min k (limit - 1) < n * limit = mul-lt-mul_of_pos_left most h in
    (div-lt_iff_lt-mul {x = min k (limit - 1) * n} {y = n} l).1 (rw (mul_comm (min k (limit - 1)) n) scaled)

pub part_most : (limit k n : ℕ) → k ≤ limit → k * n / limit ≤ n
part_most limit k n h = div-le_of_le-mul limit (mul-le-mul_right n h)

pub share_rises : (limit k m n : ℕ) → 0 < limit → k ≤ m → share limit k n ≤ share limit m n
share_rises limit k m n l h =
    let more : min k (limit - 1) * n ≤ min m (limit - 1) * n = mul-le-mul_right n (omega arith) in
    let low : share limit k n * limit ≤ min k (limit - 1) * n = div-mul-le_self (min k (limit - 1) * n) limit in
    le-div (share limit k n) (min m (limit - 1) * n) limit l (omega arith)

pub above_zero : (k : ℕ) → 0 < k + 1
above_zero k = omega arith

pub number_laws : {K : Type 0} (compare : ℕ → ℕ → Ordering) → ((x y : ℕ) → compare x y ≡ nat_cmp x y) → (number : K → ℕ) (limit : ℕ) → 0 < limit
    → ((x y : K) → number x ≡ number y → x ≡ y) → Laws (λ x y. compare (number x) (number y)) (λ x n. share limit (number x) n)
number_laws compare sized number limit l told = record {
  itself = λ x. sized (number x) (number x) ∙ size_itself (number x);
  equal = λ x y e. told x y (size_equal (number x) (number y) (sym (sized (number x) (number y)) ∙ e));
  exchange = λ x y.
      sized (number y) (number x) ∙ size_exchange (number x) (number y) ∙ ap ordering_reverse (sym (sized (number x) (number y)));
  onward = λ x y z p q.
      sized (number x) (number z)
      ∙ size_onward (number x) (number y) (number z) (sym (sized (number x) (number y)) ∙ p) (sym (sized (number y) (number z)) ∙ q);
  within = λ x n p q. share_below limit (number x) n l p;
  homes = λ x y n p q e. share_rises limit (number x) (number y) n l (size_less (number x) (number y) (sym (sized (number x) (number y)) ∙ e));
}

-- the tray and the type number of a number
abbrev pub tray_numbered : ℕ → Tray
tray_numbered k = record { number = k }

abbrev pub type_numbered : ℕ → TypeNumber
type_numbered k = record { 0 = k }
