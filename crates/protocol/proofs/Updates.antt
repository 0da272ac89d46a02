-- Updated functions, and what places hold.
use Rattle.std.proofs.Common.{◌≡◌, ℕ, Bool, true, false, ◌≢◌, sym, refl, ap, ◌∙◌, subst, ⊎_elim, arith}
use Rattle.std.proofs.lemmas.Bool.{cases_eq, both_ways}
use Rattle.protocol.specs.Cells.{Content, empty, holds, is_occupied, updated}

pub updated_same : {A : Type 0} (f : ℕ → A) (p : ℕ) (a : A) → updated f p a p ≡ a
updated_same f p a = grind arith

pub updated_at : {A : Type 0} (f : ℕ → A) (p q : ℕ) (a : A) → p ≡ q → updated f p a q ≡ a
updated_at f p q a e = grind arith

pub updated_other : {A : Type 0} (f : ℕ → A) (p q : ℕ) (a : A) → p ≢ q → updated f p a q ≡ f q
updated_other f p q a ne = grind arith

-- what holds of a at p and of f elsewhere holds of the update
pub updated_all : {A : Type 0} (P : ℕ → A → Type 0) (f : ℕ → A) (p : ℕ) (a : A) → P p a → ((q : ℕ) → p ≢ q → P q (f q)) → (q : ℕ)
    → P q (updated f p a q)
updated_all P f p a h o q =
    ⊎_elim
    (λ (e : p ≡ q). subst (P q) (sym (updated_at f p q a e)) (subst (λ i. P i a) e h))
    (λ n. subst (P q) (sym (updated_other f p q a n)) (o q n)) (cases_eq p q)

-- an empty place is not occupied
pub not_both : {K : Type 0} {c : Content K} → c ≡ empty → is_occupied c ≡ true → ⊥
not_both e o = let z : ◌≡◌ {A = Bool} true false = sym o ∙ ap is_occupied e in grind arith

pub holds_occupied : {K : Type 0} {c : Content K} {x : K} → c ≡ holds x → is_occupied c ≡ true
holds_occupied e = ap is_occupied e

pub unoccupied_empty : {K : Type 0} (x : Content K) → is_occupied x ≡ false → x ≡ empty
unoccupied_empty empty e = refl
unoccupied_empty (holds y) e = absurd (both_ways true e refl)

pub holds_inj : {K : Type 0} {x y : K} {c : Content K} → c ≡ holds x → c ≡ holds y → x ≡ y
holds_inj a b = cc
