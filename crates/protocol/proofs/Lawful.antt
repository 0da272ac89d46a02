-- A kind of key over N cells with what its laws give, in the form the proofs use.
use Rattle.std.proofs.Common.{◌≡◌, ℕ, ◌<◌, ◌≤◌, true, refl, ap, ◌∙◌, arith}
use Rattle.std.specs.Ordering.{ordering_reverse}
use Rattle.keys.specs.Laws.{Laws}
use Rattle.protocol.specs.Cells.{Content, empty, holds, is_occupied}
use Rattle.protocol.specs.Step.{Ordering, before, same, after, Kind, kind_over, none, is, versus}
use Rattle.protocol.proofs.Updates.{holds_occupied}

pub record Lawful (K : Type 0) (N : ℕ) : Type 0 where
  pub kind : Kind K N
  pub order_same : (x y : K) → kind.order x y ≡ same → x ≡ y
  pub order_flip : (x y : K) → kind.order y x ≡ ordering_reverse (kind.order x y)
  pub order_trans : (x y z : K) → kind.order x y ≡ before → kind.order y z ≡ before → kind.order x z ≡ before
  pub place_low : (x : K) → 0 < kind.place x
  pub place_high : (x : K) → kind.place x ≤ N
  pub place_mono : (x y : K) → kind.order x y ≡ before → kind.place x ≤ kind.place y

abbrev pub lawful : {K : Type 0} {order : K → K → Ordering} {home : K → ℕ → ℕ} → Laws order home → (n : ℕ) → 1 ≤ n → n ≤ 65536 → Lawful K n
lawful {K} {order} {home} laws n some few = record {
  kind = kind_over order home n;
  order_same = laws.equal;
  order_flip = laws.exchange;
  order_trans = laws.onward;
  place_low = λ x. omega arith;
  place_high = λ x. laws.within x n some few;
  place_mono = λ x y h. omega (arith, laws.homes x y n some few h);
}

module _ {K : Type 0} {N : ℕ} (κ : Lawful K N) where
  pub order_refl : (x : K) → κ.kind.order x x ≡ same
  order_refl x = go (κ.kind.order x x) refl
    where
      go : (o : Ordering) → κ.kind.order x x ≡ o → κ.kind.order x x ≡ same
      go before e = let f = κ.order_flip x x in cc
      go same e = e
      go after e = let f = κ.order_flip x x in cc

  pub order_turn : (x y : K) → κ.kind.order x y ≡ after → κ.kind.order y x ≡ before
  order_turn x y e = let f = κ.order_flip x y in cc

  pub order_back : (x y : K) → κ.kind.order x y ≡ before → κ.kind.order y x ≡ after
  order_back x y e = let f = κ.order_flip x y in cc

  -- a key with the earlier home is before
  pub by_place : (x k : K) → κ.kind.place x < κ.kind.place k → κ.kind.order x k ≡ before
  by_place x k h = go (κ.kind.order x k) refl
    where
      go : (o : Ordering) → κ.kind.order x k ≡ o → κ.kind.order x k ≡ before
      go before e = e
      go same e = let z : κ.kind.place x ≡ κ.kind.place k = ap κ.kind.place (κ.order_same x k e) in absurd (omega arith)
      go after e = let z = κ.place_mono k x (order_turn x k e) in absurd (omega arith)

  pub versus_is : (k : K) (c : Content K) (o : Ordering) → versus κ.kind k c ≡ is o → (x : K) × (c ≡ holds x) × (κ.kind.order x k ≡ o)
  versus_is k empty o e = let z : ◌≡◌ {A = ℕ} 0 1 = cc in absurd (omega arith)
  versus_is k (holds x) o e = (x, refl, cc)

  pub versus_holds : (k x : K) (c : Content K) → c ≡ holds x → versus κ.kind k c ≡ is (κ.kind.order x k)
  versus_holds k x c e = ap (versus κ.kind k) e

  pub versus_none : (k : K) (x : Content K) → versus κ.kind k x ≡ none → x ≡ empty
  versus_none k empty e = refl
  versus_none k (holds y) e = let z : ◌≡◌ {A = ℕ} 0 1 = cc in absurd (omega arith)

  pub versus_same : (k : K) (x : Content K) → versus κ.kind k x ≡ is same → x ≡ holds k
  versus_same k x e = let h = versus_is k x same e in h.1 ∙ ap holds (κ.order_same h.0 k h.2)

  pub versus_occupied : (k : K) (x : Content K) (o : Ordering) → versus κ.kind k x ≡ is o → is_occupied x ≡ true
  versus_occupied k x o e = holds_occupied (versus_is k x o e).1
