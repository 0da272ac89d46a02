-- Tables in order and connected to their homes; one key more keeps both.
use Rattle.std.proofs.Common.{◌≡◌, ℕ, suc, ◌<◌, ◌≤◌, true, ◌≢◌, sym, ap, ◌∙◌, subst, ⊎_elim, arith}
use Rattle.std.proofs.lemmas.Bool.{cases_lt, cases_eq}
use Rattle.protocol.specs.Cells.{Content, empty, holds, is_occupied}
use Rattle.protocol.specs.Step.{before}
use Rattle.protocol.proofs.Lawful.{Lawful}
use Rattle.protocol.proofs.Updates.{not_both, holds_occupied, holds_inj}

module _ {K : Type 0} {N : ℕ} (κ : Lawful K N) where
  -- ascending; from a key to its home, on either side, all places are occupied; nothing at the edges
  pub record Sorted (S : ℕ → Content K) : Type 0 where
    pub asc : (p q : ℕ) (x y : K) → p < q → S p ≡ holds x → S q ≡ holds y → κ.kind.order x y ≡ before
    pub up : (p q : ℕ) (x : K) → S p ≡ holds x → p ≤ q → q ≤ κ.kind.place x → is_occupied (S q) ≡ true
    pub down : (p q : ℕ) (x : K) → S p ≡ holds x → κ.kind.place x ≤ q → q ≤ p → is_occupied (S q) ≡ true
    pub low : S 0 ≡ empty
    pub high : (p : ℕ) → N < p → S p ≡ empty

  module _ {S : ℕ → Content K} (ok : Sorted S) where
    -- left of an empty place stand keys with homes left of it
    pub home_left : (e q : ℕ) (x : K) → S e ≡ empty → q < e → S q ≡ holds x → κ.kind.place x < e
    home_left e q x h lt s = ⊎_elim (λ a. a) (λ b. absurd (not_both h (ok.up q e x s (omega arith) b))) (cases_lt (κ.kind.place x) e)

    pub home_right : (e q : ℕ) (x : K) → S e ≡ empty → e < q → S q ≡ holds x → e < κ.kind.place x
    home_right e q x h lt s = ⊎_elim (λ a. a) (λ b. absurd (not_both h (ok.down q e x s b (omega arith)))) (cases_lt e (κ.kind.place x))

    pub inside : (p : ℕ) (x : K) → S p ≡ holds x → (0 < p) × (p ≤ N)
    inside p x s = (
      ⊎_elim (λ a. a)
          (λ b. absurd (not_both ok.low (holds_occupied (subst (λ i. S i ≡ holds x) (let z : p ≡ 0 = omega arith in z) s))))
          (cases_lt 0 p),
      ⊎_elim (λ a. absurd (not_both (ok.high p a) (holds_occupied s))) (λ b. b) (cases_lt N p),
    )

  -- S' is S with k at g, the other keys in the same order and at most one place away
  pub record More (S S' : ℕ → Content K) (k : K) (g : ℕ) (R : ℕ → ℕ → Type 0) : Type 0 where
    pub at_gap : S' g ≡ holds k
    pub from : (p : ℕ) → p ≢ g → (q : ℕ) × R p q × (S' p ≡ S q)
    pub mono : (p q i j : ℕ) → p < q → R p i → R q j → i < j
    pub near : (p i : ℕ) → R p i → (i ≤ suc p) × (p ≤ suc i)
    pub grown : (q : ℕ) → is_occupied (S q) ≡ true → is_occupied (S' q) ≡ true
    pub below : (p : ℕ) (x : K) → p < g → S' p ≡ holds x → κ.kind.order x k ≡ before
    pub above : (p : ℕ) (x : K) → g < p → S' p ≡ holds x → κ.kind.order k x ≡ before
    pub rise : (q : ℕ) → g ≤ q → q ≤ κ.kind.place k → is_occupied (S' q) ≡ true
    pub fall : (q : ℕ) → κ.kind.place k ≤ q → q ≤ g → is_occupied (S' q) ≡ true
    pub low : S' 0 ≡ empty
    pub high : (p : ℕ) → N < p → S' p ≡ empty

  module _ {S S' : ℕ → Content K} {k : K} {g : ℕ} {R : ℕ → ℕ → Type 0} (ok : Sorted S) (m : More S S' k g R) where
    key_at : (p : ℕ) (x : K) → p ≡ g → S' p ≡ holds x → x ≡ k
    key_at p x e s = holds_inj (subst (λ i. S' i ≡ holds x) e s) m.at_gap

    more_asc : (p q : ℕ) (x y : K) → p < q → S' p ≡ holds x → S' q ≡ holds y → κ.kind.order x y ≡ before
    more_asc p q x y lt a b =
        ⊎_elim (λ (e : p ≡ g). rw (key_at p x e a) (m.above q y (omega arith) b))
        (λ n. ⊎_elim (λ (e : q ≡ g). rw (key_at q y e b) (m.below p x (omega arith) a))
        (λ n'.
        let i = m.from p n in
        let j = m.from q n' in ok.asc i.0 j.0 x y (m.mono p q i.0 j.0 lt i.1 j.1) (sym i.2 ∙ a) (sym j.2 ∙ b))
        (cases_eq q g))
        (cases_eq p g)

    more_up : (p q : ℕ) (x : K) → S' p ≡ holds x → p ≤ q → q ≤ κ.kind.place x → is_occupied (S' q) ≡ true
    more_up p q x a le to =
        ⊎_elim
        (λ (e : p ≡ g). let f : κ.kind.place x ≡ κ.kind.place k = ap κ.kind.place (key_at p x e a) in m.rise q (omega arith) (omega arith))
        (λ n. ⊎_elim (λ (e : p ≡ q). holds_occupied (subst (λ i. S' i ≡ holds x) e a))
        (λ n'. let i = m.from p n in let c = m.near p i.0 i.1 in m.grown q (ok.up i.0 q x (sym i.2 ∙ a) (omega arith) to))
        (cases_eq p q))
        (cases_eq p g)

    more_down : (p q : ℕ) (x : K) → S' p ≡ holds x → κ.kind.place x ≤ q → q ≤ p → is_occupied (S' q) ≡ true
    more_down p q x a le to =
        ⊎_elim
        (λ (e : p ≡ g). let f : κ.kind.place x ≡ κ.kind.place k = ap κ.kind.place (key_at p x e a) in m.fall q (omega arith) (omega arith))
        (λ n. ⊎_elim (λ (e : p ≡ q). holds_occupied (subst (λ i. S' i ≡ holds x) e a))
        (λ n'. let i = m.from p n in let c = m.near p i.0 i.1 in m.grown q (ok.down i.0 q x (sym i.2 ∙ a) le (omega arith)))
        (cases_eq p q))
        (cases_eq p g)

    pub more_sorted : Sorted S'
    more_sorted = record { asc = more_asc; up = more_up; down = more_down; low = m.low; high = m.high }

-- a key whose home lies between two empty places lies there itself
pub between_only : {K : Type 0} {N : ℕ} (κ : Lawful K N) {S : ℕ → Content K} (ok : Sorted κ S) (k : K) (l r q : ℕ) → S l ≡ empty → S r ≡ empty
    → l < κ.kind.place k → κ.kind.place k < r → S q ≡ holds k → (l < q) × (q < r)
between_only κ {S} ok k l r q sl sr lh hr z = (⊎_elim (λ a. a) (λ a. absurd (low a)) (cases_lt l q), ⊎_elim (λ a. a) (λ a. absurd (high a)) (cases_lt q r))
  where
    low : q ≤ l → ⊥
    low a =
        ⊎_elim (λ (y : q ≡ l). not_both sl (holds_occupied (ap S (sym y) ∙ z)))
        (λ n. let b = home_left κ ok l q k sl (omega arith) z in omega arith) (cases_eq q l)

    high : r ≤ q → ⊥
    high a =
        ⊎_elim (λ (y : q ≡ r). not_both sr (holds_occupied (ap S (sym y) ∙ z)))
        (λ n. let b = home_right κ ok r q k sr (omega arith) z in omega arith) (cases_eq q r)
