-- Marked boundaries keep regions apart.
use Rattle.std.proofs.Common.{◌≡◌, ℕ, suc, ◌<◌, ◌≤◌, Bool, true, false, ◌≢◌, ◌⊎◌, sym, refl, ap, ◌∙◌, subst, inl, inr, ⊎_elim, arith}
use Rattle.std.proofs.lemmas.Bool.{cases_lt, cases_eq, both_ways}
use Rattle.protocol.specs.Cells.{Content, empty, cell}
use Rattle.protocol.specs.Stages.{Direction, Leftward, Rightward, Stage, Idle, Home, Look, Left, Right, FirstMark, SecondMark, GiveBack, Check, Shift, ReleaseLeft, ReleaseRight, Answered, both_held}
use Rattle.protocol.proofs.Lawful.{Lawful}
use Rattle.protocol.proofs.Updates.{not_both}
use Rattle.protocol.proofs.Holding.{held_at, holder, is_cell, one_here, left_here, right_here}
use Rattle.protocol.proofs.Invariant.{Owner, by, Keeps, InShift, by_inj, Region, Good, Core, marked_by, own}

-- a place is off an interval if it is not in it
pub off_interval : (p l r : ℕ) → (l ≤ p → p ≤ r → ⊥) → (p < l) ⊎ (r < p)
off_interval p l r h = ⊎_elim inl (λ a. ⊎_elim inr (λ b. absurd (h a b)) (cases_lt r p)) (cases_lt p l)

-- two regions whose boundaries are edges or off the other region do not meet
pub apart_by : (N p l r l' r' : ℕ) → (l ≡ 0) ⊎ ((l < l') ⊎ (r' < l)) → (N < r) ⊎ ((r < l') ⊎ (r' < r)) → (l' ≡ 0) ⊎ ((l' < l) ⊎ (r < l'))
    → (N < r') ⊎ ((r' < l) ⊎ (r < r')) → (0 < l') ⊎ (r' ≤ N) → r ≤ suc N → r' ≤ suc N → l ≤ p → p ≤ r → l' ≤ p → p ≤ r' → ⊥
apart_by N p l r l' r' a b a' b' d e e' h1 h2 h3 h4 = omega arith

module _ {K : Type 0} {N : ℕ} (κ : Lawful K N) {T : ℕ → Content K} {M : ℕ → Bool} {O : ℕ → Owner} {ky : ℕ → K} {st : ℕ → Stage} {S : ℕ → Content K} (c : Core κ T M O ky st S) where
  pub good_at : (t : ℕ) (x : Stage) → st t ≡ x → Good κ T M S (ky t) x
  good_at t x e = subst (λ y. Good κ T M S (ky t) y) e (c.good t)

  -- the region of t and its marks
  pub record Closed (t l r : ℕ) : Type 0 where
    pub region : Region κ T M (ky t) l r
    pub own_l : 0 < l → O l ≡ by t
    pub own_r : r ≤ N → O r ≡ by t

  closed : (t l r : ℕ) (x : Stage) → st t ≡ x → ((p : ℕ) → holder N x p ≡ held_at N (both_held l r) p) → Region κ T M (ky t) l r → Closed t l r
  closed t l r x e ho g =
      let a = g.l_h in let b = g.h_r in let h = κ.place_high (ky t) in let h' = κ.place_low (ky t) in
      record {
        region = g;
        own_l = λ z. own κ c t x e l (ho l ∙ left_here N l r (is_cell N l z (omega arith)));
        own_r = λ z. own κ c t x e r (ho r ∙ right_here N l r (is_cell N r (omega arith) z));
      }

  pub closed_check : (t l r p : ℕ) → st t ≡ Check l r p → Closed t l r
  closed_check t l r p e = closed t l r (Check l r p) e (λ q. refl) (good_at t (Check l r p) e).region

  -- a shift, either way, has a region, and a cell for a boundary
  shift_region : (k : K) (d : Direction) (l r g : ℕ) → Good κ T M S k (Shift d l r g) → Region κ T M k l r
  shift_region k Leftward l r g d = d.region
  shift_region k Rightward l r g d = d.region

  shift_cell : (k : K) (d : Direction) (l r g : ℕ) → Good κ T M S k (Shift d l r g) → (0 < l) ⊎ (r ≤ N)
  shift_cell k Leftward l r g d = inr d.cell_r
  shift_cell k Rightward l r g d = inl d.cell_l

  pub closed_shift : (t : ℕ) (d : Direction) (l r g : ℕ) → st t ≡ Shift d l r g → Closed t l r
  closed_shift t d l r g e = closed t l r (Shift d l r g) e (λ q. refl) (shift_region (ky t) d l r g (good_at t (Shift d l r g) e))

  -- a region around p, with a cell for a boundary
  pub record Around (t p : ℕ) : Type 0 where
    pub l : ℕ
    pub r : ℕ
    pub closed_region : Closed t l r
    pub some_cell : (0 < l) ⊎ (r ≤ N)
    pub l_p : l ≤ p
    pub p_r : p ≤ r

  pub around : (t p : ℕ) → InShift (st t) p → Around t p
  around t p h = go (st t) refl h
    where
      go : (x : Stage) → st t ≡ x → InShift x p → Around t p
      go Idle e h = absurd h
      go Home e h = absurd h
      go (Look q) e h = absurd h
      go (Left q) e h = absurd h
      go (Right l q) e h = absurd h
      go (FirstMark l r) e h = absurd h
      go (SecondMark l r) e h = absurd h
      go (GiveBack g) e h = absurd h
      go (Check l r q) e h = absurd h
      go (Shift d l r g) e h =
          record {
            l = l;
            r = r;
            closed_region = closed_shift t d l r g e;
            some_cell = shift_cell (ky t) d l r g (good_at t (Shift d l r g) e);
            l_p = h.0;
            p_r = h.1;
          }
      go (ReleaseLeft l r a) e h = absurd h
      go (ReleaseRight r a) e h = absurd h
      go (Answered a) e h = absurd h

  -- what t relies on is marked by it, or in its region
  pub relied : (t p : ℕ) → Keeps (st t) p → (0 < p → p ≤ N → O p ≡ by t) ⊎ ((l : ℕ) × (r : ℕ) × Closed t l r × (l ≤ p) × (p ≤ r))
  relied t p h = go (st t) refl h
    where
      go : (x : Stage) → st t ≡ x → Keeps x p → (0 < p → p ≤ N → O p ≡ by t) ⊎ ((l : ℕ) × (r : ℕ) × Closed t l r × (l ≤ p) × (p ≤ r))
      go Idle e h = absurd h
      go Home e h = absurd h
      go (Look q) e h = absurd h
      go (Left q) e h = absurd h
      go (Right l q) e h = absurd h
      go (FirstMark l r) e h = absurd h
      go (SecondMark l r) e h = inl (λ a b. subst (λ i. O i ≡ by t) (sym h) (own κ c t (SecondMark l r) e l (one_here N l (subst (λ i. cell N i ≡ true) h (is_cell N p a b)))))
      go (GiveBack g) e h = absurd h
      go (Check l r q) e h = inr (l, r, closed_check t l r q e, h.0, h.1)
      go (Shift d l r g) e h = inr (l, r, closed_shift t d l r g e, h.0, h.1)
      go (ReleaseLeft l r a) e h = absurd h
      go (ReleaseRight r a) e h = absurd h
      go (Answered a) e h = absurd h

  -- the mark of another is not in the region
  pub outside : (s t l r p : ℕ) → s ≢ t → Closed t l r → O p ≡ by s → 0 < p → p ≤ N → l ≤ p → p ≤ r → ⊥
  outside s t l r p n f o a b lp pr =
      ⊎_elim (λ (e : l ≡ p). n (by_inj o (ap O (sym e) ∙ f.own_l (omega arith))))
      (λ x. ⊎_elim (λ (e : r ≡ p). n (by_inj o (ap O (sym e) ∙ f.own_r (omega arith))))
      (λ y. both_ways (M p) (f.region.solid p (omega arith) (omega arith)).0 (marked_by κ c p s o))
      (cases_eq r p))
      (cases_eq l p)

  -- nor is an empty cell without a mark
  pub clear : (t l r p : ℕ) → Closed t l r → T p ≡ empty → M p ≡ false → 0 < p → p ≤ N → l ≤ p → p ≤ r → ⊥
  clear t l r p f em um a b lp pr =
      ⊎_elim (λ (e : l ≡ p). both_ways (M p) um (marked_by κ c p t (ap O (sym e) ∙ f.own_l (omega arith))))
      (λ x. ⊎_elim (λ (e : r ≡ p). both_ways (M p) um (marked_by κ c p t (ap O (sym e) ∙ f.own_r (omega arith))))
      (λ y. not_both em (f.region.solid p (omega arith) (omega arith)).1)
      (cases_eq r p))
      (cases_eq l p)

  -- a boundary of s is an edge, or off the region of t
  off_l : (s t l r l' r' : ℕ) → s ≢ t → Closed s l r → Closed t l' r' → (l ≡ 0) ⊎ ((l < l') ⊎ (r' < l))
  off_l s t l r l' r' n f g =
      let a = f.region.l_h in let b = κ.place_high (ky s) in
      ⊎_elim
      (λ (z : 0 < l). inr (off_interval l l' r' (outside s t l' r' l n g (f.own_l z) z (omega arith))))
      (λ z. inl (omega arith)) (cases_lt 0 l)

  off_r : (s t l r l' r' : ℕ) → s ≢ t → Closed s l r → Closed t l' r' → (N < r) ⊎ ((r < l') ⊎ (r' < r))
  off_r s t l r l' r' n f g =
      let a = f.region.h_r in
      ⊎_elim inl (λ z. inr (off_interval r l' r' (outside s t l' r' r n g (f.own_r z) (omega arith) z))) (cases_lt N r)

  pub apart : (s t l r l' r' p : ℕ) → s ≢ t → Closed s l r → Closed t l' r' → (0 < l') ⊎ (r' ≤ N) → l ≤ p → p ≤ r → l' ≤ p → p ≤ r' → ⊥
  apart s t l r l' r' p n f g d a b a' b' =
      apart_by N p l r l' r' (off_l s t l r l' r' n f g) (off_r s t l r l' r' n f g)
      (off_l t s l' r' l r (λ e. n (sym e)) g f) (off_r t s l' r' l r (λ e. n (sym e)) g f)
      d f.region.top g.region.top a b a' b'

  -- what another relies on is off the region of a station that shifts
  pub keeps_off : (s t l r p : ℕ) → s ≢ t → Closed s l r → (0 < l) ⊎ (r ≤ N) → Keeps (st t) p → l ≤ p → p ≤ r → ((0 < p) → p ≤ N → ⊥) ⊎ ⊥
  keeps_off s t l r p n f d k a b =
      ⊎_elim (λ o. inl (λ z y. outside t s l r p (λ e. n (sym e)) f (o z y) z y a b))
      (λ g. inr (apart t s g.0 g.1 l r p (λ e. n (sym e)) g.2 f d g.3 g.4 a b))
      (relied t p k)
