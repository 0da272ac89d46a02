-- What holds of cells, stations and the table of the effects, and what keeps it.
use Rattle.std.proofs.Common.{◌≡◌, ℕ, suc, ◌<◌, ◌≤◌, Bool, true, false, eqb, ◌≢◌, ◌⊎◌, sym, refl, ap, ◌∙◌, subst, inl, inr, ⊎_elim, arith}
use Rattle.std.proofs.lemmas.Bool.{cases_eq, both_ways, eq-eqb, ne_eqb, eqb-true}
use Rattle.protocol.specs.Cells.{Content, empty, holds, Act, Rest, Mark, Unmark, Write, cell, is_occupied, updated}
use Rattle.protocol.specs.Stages.{Answer, Inserted, Leftward, Rightward, Stage, Idle, Home, Look, Left, Right, FirstMark, SecondMark, GiveBack, Check, Shift, ReleaseLeft, ReleaseRight, Answered}
use Rattle.protocol.specs.Step.{before, after, Effect, nothing, took, is, versus}
use Rattle.protocol.specs.OneWorker.{starts_right, one_worker}
use Rattle.protocol.proofs.Lawful.{Lawful}
use Rattle.protocol.proofs.Updates.{updated_same, updated_at, updated_other, not_both}
use Rattle.protocol.proofs.Sorted.{Sorted}
use Rattle.protocol.proofs.Holding.{holder}

-- who has marked a place: it is not in memory, and the proof carries it along
pub data Owner : Type 0 where
  free : Owner
  by : ℕ → Owner

abbrev pub taken : Owner → Bool
taken free = false
taken (by s) = true

abbrev pub is_by : ℕ → Owner → Bool
is_by s free = false
is_by s (by t) = eqb s t

abbrev pub owners_after : {K : Type 0} → ℕ → Act K → (ℕ → Owner) → ℕ → Owner
owners_after s Rest O = O
owners_after s (Mark p) O = updated O p (by s)
owners_after s (Unmark p) O = updated O p free
owners_after s (Write p k) O = O

-- the places at which a station of that stage relies on cell and table to stay
abbrev pub Keeps : Stage → ℕ → Type 0
Keeps Idle q = ⊥
Keeps Home q = ⊥
Keeps (Look p) q = ⊥
Keeps (Left p) q = ⊥
Keeps (Right l p) q = ⊥
Keeps (FirstMark l r) q = ⊥
Keeps (SecondMark l r) q = q ≡ l
Keeps (GiveBack g) q = ⊥
Keeps (Check l r p) q = (l ≤ q) × (q ≤ r)
Keeps (Shift d l r g) q = (l ≤ q) × (q ≤ r)
Keeps (ReleaseLeft l r a) q = ⊥
Keeps (ReleaseRight r a) q = ⊥
Keeps (Answered a) q = ⊥

-- the places at which a station that shifts may have made the cells differ from the table
abbrev pub InShift : Stage → ℕ → Type 0
InShift Idle q = ⊥
InShift Home q = ⊥
InShift (Look p) q = ⊥
InShift (Left p) q = ⊥
InShift (Right l p) q = ⊥
InShift (FirstMark l r) q = ⊥
InShift (SecondMark l r) q = ⊥
InShift (GiveBack g) q = ⊥
InShift (Check l r p) q = ⊥
InShift (Shift d l r g) q = (l ≤ q) × (q ≤ r)
InShift (ReleaseLeft l r a) q = ⊥
InShift (ReleaseRight r a) q = ⊥
InShift (Answered a) q = ⊥

pub is_by_self : (s : ℕ) → is_by s (by s) ≡ true
is_by_self s = eq-eqb s s refl

pub is_by_true : (s : ℕ) (o : Owner) → is_by s o ≡ true → o ≡ by s
is_by_true s free e = let z : ◌≡◌ {A = ℕ} 0 1 = cc in absurd (omega arith)
is_by_true s (by t) e = ap by (sym (eqb-true s t e))

pub by_inj : {o : Owner} {s t : ℕ} → o ≡ by s → o ≡ by t → s ≡ t
by_inj a b = cc

-- occupied and unmarked: no turn ever makes such a place another
abbrev pub Solid : {K : Type 0} → (ℕ → Content K) → (ℕ → Bool) → ℕ → Type 0
Solid T M p = (M p ≡ false) × (is_occupied (T p) ≡ true)

module _ {K : Type 0} {N : ℕ} (κ : Lawful K N) where
  -- the table of the effects, after one more
  abbrev pub table_after : K → Effect → (ℕ → Content K) → ℕ → Content K
  table_after k nothing S = S
  table_after k (took a) S = (one_worker κ.kind S k).0

  -- the answer is that of one worker, no key is lost, and a new one is there
  abbrev pub RightAnswer : K → Effect → (ℕ → Content K) → Type 0
  RightAnswer k nothing S = Unit {0}
  RightAnswer k (took a) S =
      ((one_worker κ.kind S k).1 ≡ a) ×
      ((x : K) (p : ℕ) → S p ≡ holds x → (q : ℕ) × ((one_worker κ.kind S k).0 q ≡ holds x))
      × (a ≡ Inserted → (q : ℕ) × ((one_worker κ.kind S k).0 q ≡ holds k))

  pub answer_same : (k : K) (S : ℕ → Content K) (a : Answer) → one_worker κ.kind S k ≡ (S, a) → (a ≡ Inserted → ⊥) → RightAnswer k (took a) S
  answer_same k S a w n = (ap (λ z. z.1) w, λ x p h. (p, ap (λ z. z.0 p) w ∙ h), λ e. absurd (n e))

  pub answer_new : (k : K) (S S' : ℕ → Content K) → one_worker κ.kind S k ≡ (S', Inserted)
      → ((x : K) (p : ℕ) → S p ≡ holds x → (q : ℕ) × (S' q ≡ holds x)) → (q : ℕ) → S' q ≡ holds k → RightAnswer k (took Inserted) S
  answer_new k S S' w keep q new =
      (ap (λ z. z.1) w, λ x p h. let y = keep x p h in (y.0, ap (λ z. z.0 y.0) w ∙ y.1), λ e. (q, ap (λ z. z.0 q) w ∙ new))

  -- between l and r, with home there, all is solid: no other station writes there
  pub record Region (T : ℕ → Content K) (M : ℕ → Bool) (k : K) (l r : ℕ) : Type 0 where
    pub l_h : l < κ.kind.place k
    pub h_r : κ.kind.place k < r
    pub top : r ≤ suc N
    pub solid : (p : ℕ) → l < p → p < r → Solid T M p

  -- both boundaries are empty and held, so the cells are the table's; what the walk has passed is on its side of k
  pub record Checking (T : ℕ → Content K) (M : ℕ → Bool) (S : ℕ → Content K) (k : K) (l r p : ℕ) : Type 0 where
    pub region : Region T M k l r
    pub el : T l ≡ empty
    pub er : T r ≡ empty
    pub agree : (q : ℕ) → l ≤ q → q ≤ r → S q ≡ T q
    pub l_p : l ≤ p
    pub p_r : p ≤ r
    pub afters : (q : ℕ) → p < q → q ≤ κ.kind.place k → versus κ.kind k (S q) ≡ is after
    pub befores : (q : ℕ) → κ.kind.place k ≤ q → q < p → versus κ.kind k (S q) ≡ is before

  -- the gap, at place g, came from r: up to it the cells are the table's, beyond it they are one place further right;
  -- what was copied is after k, which is not there; and one worker would have started at r too
  pub record ShiftingLeft (T : ℕ → Content K) (M : ℕ → Bool) (S : ℕ → Content K) (k : K) (l r g : ℕ) : Type 0 where
    pub region : Region T M k l r
    pub cell_r : r ≤ N
    pub l_g : l < g
    pub g_r : g ≤ r
    pub el : S l ≡ empty
    pub er : S r ≡ empty
    pub absent : (q : ℕ) → l ≤ q → q ≤ r → S q ≡ holds k → ⊥
    pub kept : (q : ℕ) → l ≤ q → q ≤ g → S q ≡ T q
    pub moved : (q : ℕ) → g ≤ q → q < r → S q ≡ T (suc q)
    pub afters : (q : ℕ) → g ≤ q → q < r → versus κ.kind k (S q) ≡ is after
    pub chosen : starts_right κ.kind S k l r ≡ true

  -- the gap, at place g, came from l: the mirror image
  pub record ShiftingRight (T : ℕ → Content K) (M : ℕ → Bool) (S : ℕ → Content K) (k : K) (l r g : ℕ) : Type 0 where
    pub region : Region T M k l r
    pub cell_l : 0 < l
    pub l_g : l ≤ g
    pub g_r : g < r
    pub el : S l ≡ empty
    pub er : S r ≡ empty
    pub absent : (q : ℕ) → l ≤ q → q ≤ r → S q ≡ holds k → ⊥
    pub kept : (q : ℕ) → g ≤ q → q ≤ r → S q ≡ T q
    pub moved : (q : ℕ) → l ≤ q → q < g → S (suc q) ≡ T q
    pub befores : (q : ℕ) → l < q → q ≤ g → versus κ.kind k (S q) ≡ is before
    pub chosen : starts_right κ.kind S k l r ≡ false

  -- what a station of that stage knows
  abbrev pub Good : (T : ℕ → Content K) (M : ℕ → Bool) (S : ℕ → Content K) → K → Stage → Type 0
  Good T M S k Idle = Unit {0}
  Good T M S k Home = Unit {0}
  Good T M S k (Look p) = Solid T M (κ.kind.place k)
  Good T M S k (Left p) = (p < κ.kind.place k) × ((q : ℕ) → p < q → q ≤ κ.kind.place k → Solid T M q)
  Good T M S k (Right l p) = (l < κ.kind.place k) × (κ.kind.place k < p) × ((q : ℕ) → l < q → q < p → Solid T M q)
  Good T M S k (FirstMark l r) = Region T M k l r
  Good T M S k (SecondMark l r) = Region T M k l r × (T l ≡ empty)
  Good T M S k (GiveBack g) = cell N (suc g) ≡ true
  Good T M S k (Check l r p) = Checking T M S k l r p
  Good T M S k (Shift Leftward l r g) = ShiftingLeft T M S k l r (suc g)
  Good T M S k (Shift Rightward l r g) = ShiftingRight T M S k l r (suc g)
  Good T M S k (ReleaseLeft l r a) = l < r
  Good T M S k (ReleaseRight r a) = Unit {0}
  Good T M S k (Answered a) = Unit {0}

  -- contents T, marks M, owners O, the stations' keys ky and stages st, and the table S of one worker after the effects so far
  pub record Core (T : ℕ → Content K) (M : ℕ → Bool) (O : ℕ → Owner) (ky : ℕ → K) (st : ℕ → Stage) (S : ℕ → Content K) : Type 0 where
    -- the edges hold nothing
    pub edge_low : T 0 ≡ empty
    pub edge_high : (p : ℕ) → N < p → T p ≡ empty
    -- a station owns the places that its stage holds, and a place is marked if it has an owner
    pub owned : (s p : ℕ) → holder N (st s) p ≡ is_by s (O p)
    pub marks : (p : ℕ) → M p ≡ taken (O p)
    pub good : (s : ℕ) → Good T M S (ky s) (st s)
    -- the cells are the table's, except where a station shifts
    pub agree : (p : ℕ) → (S p ≡ T p) ⊎ ((s : ℕ) × InShift (st s) p)
    pub sorted : Sorted κ S

  -- marking an empty place leaves a region solid
  pub region_mark : {T : ℕ → Content K} {M : ℕ → Bool} {k : K} {l r : ℕ} (p : ℕ) → T p ≡ empty → Region T M k l r → Region T (updated M p true) k l r
  region_mark {T} {M} p em g =
      record {
        l_h = g.l_h;
        h_r = g.h_r;
        top = g.top;
        solid = λ q x y. let z = g.solid q x y in (updated_other M p q true (λ i. not_both (sym (ap T i) ∙ em) z.1) ∙ z.0, z.1);
      }

  -- what others' turns do to a station's knowledge
  module _ (T T' : ℕ → Content K) (M M' : ℕ → Bool) (solid : (p : ℕ) → Solid T M p → Solid T' M' p) where
    pub region_stable : {k : K} {l r : ℕ} → Region T M k l r → Region T' M' k l r
    region_stable g = record { l_h = g.l_h; h_r = g.h_r; top = g.top; solid = λ p a b. solid p (g.solid p a b) }

    pub good_stable : (S S' : ℕ → Content K) (k : K) (x : Stage) → ((p : ℕ) → Keeps x p → (T' p ≡ T p) × (S' p ≡ S p)) → Good T M S k x
        → Good T' M' S' k x
    good_stable S S' k Idle keep g = tt
    good_stable S S' k Home keep g = tt
    good_stable S S' k (Look p) keep g = solid (κ.kind.place k) g
    good_stable S S' k (Left p) keep g = (g.0, λ q a b. solid q (g.1 q a b))
    good_stable S S' k (Right l p) keep g = (g.0, g.1, λ q a b. solid q (g.2 q a b))
    good_stable S S' k (FirstMark l r) keep g = region_stable g
    good_stable S S' k (SecondMark l r) keep g = (region_stable g.0, (keep l refl).0 ∙ g.1)
    good_stable S S' k (GiveBack q) keep g = g
    good_stable S S' k (Check l r p) keep g =
        let b = g.region.l_h in let c = g.region.h_r in
        record {
          region = region_stable g.region;
          el = (keep l (omega arith)).0 ∙ g.el;
          er = (keep r (omega arith)).0 ∙ g.er;
          agree = λ q a b. (keep q (a, b)).1 ∙ g.agree q a b ∙ sym (keep q (a, b)).0;
          l_p = g.l_p;
          p_r = g.p_r;
          afters = λ q a b. let d = g.l_p in rw (keep q (omega arith)).1 (g.afters q a b);
          befores = λ q a b. let d = g.p_r in rw (keep q (omega arith)).1 (g.befores q a b);
        }
    good_stable S S' k (Shift Leftward l r p) keep g =
        let b = g.region.l_h in let c = g.region.h_r in let d = g.l_g in let e = g.g_r in
        record {
          region = region_stable g.region;
          cell_r = g.cell_r;
          l_g = g.l_g;
          g_r = g.g_r;
          el = (keep l (omega arith)).1 ∙ g.el;
          er = (keep r (omega arith)).1 ∙ g.er;
          absent = λ q a b h. g.absent q a b (sym (keep q (a, b)).1 ∙ h);
          kept = λ q a b. (keep q (omega arith)).1 ∙ g.kept q a b ∙ sym (keep q (omega arith)).0;
          moved = λ q a b. (keep q (omega arith)).1 ∙ g.moved q a b ∙ sym (keep (suc q) (omega arith)).0;
          afters = λ q a b. rw (keep q (omega arith)).1 (g.afters q a b);
          chosen = rw (keep (κ.kind.place k) (omega arith)).1 g.chosen;
        }
    good_stable S S' k (Shift Rightward l r p) keep g =
        let b = g.region.l_h in let c = g.region.h_r in let d = g.l_g in let e = g.g_r in
        record {
          region = region_stable g.region;
          cell_l = g.cell_l;
          l_g = g.l_g;
          g_r = g.g_r;
          el = (keep l (omega arith)).1 ∙ g.el;
          er = (keep r (omega arith)).1 ∙ g.er;
          absent = λ q a b h. g.absent q a b (sym (keep q (a, b)).1 ∙ h);
          kept = λ q a b. (keep q (omega arith)).1 ∙ g.kept q a b ∙ sym (keep q (omega arith)).0;
          moved = λ q a b. (keep (suc q) (omega arith)).1 ∙ g.moved q a b ∙ sym (keep q (omega arith)).0;
          befores = λ q a b. rw (keep q (omega arith)).1 (g.befores q a b);
          chosen = rw (keep (κ.kind.place k) (omega arith)).1 g.chosen;
        }
    good_stable S S' k (ReleaseLeft l r a) keep g = g
    good_stable S S' k (ReleaseRight r a) keep g = tt
    good_stable S S' k (Answered a) keep g = tt

  pub marked_by : {T : ℕ → Content K} {M : ℕ → Bool} {O : ℕ → Owner} {ky : ℕ → K} {st : ℕ → Stage} {S : ℕ → Content K} → Core T M O ky st S
      → (p t : ℕ) → O p ≡ by t → M p ≡ true
  marked_by c p t e = c.marks p ∙ ap taken e

  module _ {T : ℕ → Content K} {M : ℕ → Bool} {O : ℕ → Owner} {ky : ℕ → K} {st : ℕ → Stage} {S : ℕ → Content K} (c : Core T M O ky st S) (s : ℕ) where
    -- after one step of s, which leaves its stage at next
    pub make : (T' : ℕ → Content K) (M' : ℕ → Bool) (O' : ℕ → Owner) (S' : ℕ → Content K) (next : Stage)
        → T' 0 ≡ empty → ((p : ℕ) → N < p → T' p ≡ empty)
        → ((p : ℕ) → holder N next p ≡ is_by s (O' p))
        → ((t p : ℕ) → s ≢ t → is_by t (O p) ≡ is_by t (O' p))
        → ((p : ℕ) → M' p ≡ taken (O' p))
        → ((p : ℕ) → Solid T M p → Solid T' M' p)
        → ((t p : ℕ) → s ≢ t → Keeps (st t) p → (T' p ≡ T p) × (S' p ≡ S p))
        → Good T' M' S' (ky s) next
        → ((p : ℕ) → (S' p ≡ T' p) ⊎ (((t : ℕ) × (s ≢ t) × InShift (st t) p) ⊎ InShift next p))
        → Sorted κ S'
        → Core T' M' O' ky (updated st s next) S'
    make T' M' O' S' next e0 eN own-s own-t mk so keep gd ag sd =
        record {
          edge_low = e0;
          edge_high = eN;
          owned = λ t p. ⊎_elim
              (λ (e : s ≡ t). ap (λ x. holder N x p) (updated_at st s t next e) ∙ own-s p ∙ ap (λ i. is_by i (O' p)) e)
              (λ n. ap (λ x. holder N x p) (updated_other st s t next n) ∙ c.owned t p ∙ own-t t p n)
              (cases_eq s t);
          marks = mk;
          good = λ t. ⊎_elim
              (λ (e : s ≡ t). subst (λ x. Good T' M' S' (ky t) x) (sym (updated_at st s t next e)) (subst (λ i. Good T' M' S' (ky i) next) e gd))
              (λ n.
              subst (λ x. Good T' M' S' (ky t) x) (sym (updated_other st s t next n))
              (good_stable T T' M M' so S S' (ky t) (st t) (λ p h. keep t p n h) (c.good t)))
              (cases_eq s t);
          agree = λ p. ⊎_elim inl (⊎_elim
              (λ h. inr (h.0, subst (λ x. InShift x p) (sym (updated_other st s h.0 next h.1)) h.2))
              (λ h. inr (s, subst (λ x. InShift x p) (sym (updated_same st s next)) h))) (ag p);
          sorted = sd;
        }

    -- where the cells and the table stay
    pub agree_still : (x next : Stage) → st s ≡ x → ((p : ℕ) → InShift x p → InShift next p) → (p : ℕ)
        → (S p ≡ T p) ⊎ (((t : ℕ) × (s ≢ t) × InShift (st t) p) ⊎ InShift next p)
    agree_still x next e sh p = ⊎_elim inl
        (λ h.
        ⊎_elim
        (λ (q : s ≡ h.0). inr (inr (sh p (subst (λ y. InShift y p) (ap st (sym q) ∙ e) h.1))))
        (λ n. inr (inl (h.0, n, h.1))) (cases_eq s h.0))
        (c.agree p)

    pub still : (x next : Stage) → st s ≡ x → ((p : ℕ) → holder N next p ≡ holder N x p) → ((p : ℕ) → InShift x p → InShift next p)
        → Good T M S (ky s) next → Core T M O ky (updated st s next) S
    still x next e ho sh gd =
        make T M O S next c.edge_low c.edge_high
        (λ p. ho p ∙ ap (λ y. holder N y p) (sym e) ∙ c.owned s p) (λ t p n. refl) c.marks (λ p a. a) (λ t p n h. (refl, refl)) gd
        (agree_still x next e sh) c.sorted

    pub own : (x : Stage) → st s ≡ x → (p : ℕ) → holder N x p ≡ true → O p ≡ by s
    own x e p h = is_by_true s (O p) (sym (c.owned s p) ∙ ap (λ y. holder N y p) e ∙ h)

    pub marking : (x next : Stage) (p : ℕ) → st s ≡ x → M p ≡ false → T p ≡ empty
        → ((q : ℕ) → p ≢ q → holder N next q ≡ holder N x q) → holder N next p ≡ true
        → ((q : ℕ) → InShift x q → InShift next q) → Good T (updated M p true) S (ky s) next
        → Core T (updated M p true) (updated O p (by s)) ky (updated st s next) S
    marking x next p e um em ho hp sh gd =
        make T (updated M p true) (updated O p (by s)) S next c.edge_low c.edge_high
        (λ q. ⊎_elim (λ (z : p ≡ q). ap (holder N next) (sym z) ∙ hp ∙ sym (ap (is_by s) (updated_at O p q (by s) z) ∙ is_by_self s))
        (λ n. ho q n ∙ ap (λ y. holder N y q) (sym e) ∙ c.owned s q ∙ ap (is_by s) (sym (updated_other O p q (by s) n))) (cases_eq p q))
        (λ t q n. ⊎_elim (λ (z : p ≡ q). not_by t q (sym (ap M z) ∙ um) ∙ sym (ap (is_by t) (updated_at O p q (by s) z) ∙ ne_eqb t s (λ w. n (sym w))))
        (λ n'. ap (is_by t) (sym (updated_other O p q (by s) n'))) (cases_eq p q))
        (λ q. ⊎_elim (λ (z : p ≡ q). updated_at M p q true z ∙ ap taken (sym (updated_at O p q (by s) z)))
        (λ n. updated_other M p q true n ∙ c.marks q ∙ ap taken (sym (updated_other O p q (by s) n))) (cases_eq p q))
        (λ q h. (updated_other M p q true (λ z. not_both (sym (ap T z) ∙ em) h.1) ∙ h.0, h.1))
        (λ t q n h. (refl, refl)) gd (agree_still x next e sh) c.sorted
      where
        not_by : (t q : ℕ) → M q ≡ false → is_by t (O q) ≡ false
        not_by t q m = go (O q) (sym (c.marks q) ∙ m)
          where
            go : (o : Owner) → taken o ≡ false → is_by t o ≡ false
            go free h = refl
            go (by u) h = absurd (both_ways true h refl)

    pub unmarking : (x next : Stage) (p : ℕ) → st s ≡ x → O p ≡ by s
        → ((q : ℕ) → p ≢ q → holder N next q ≡ holder N x q) → holder N next p ≡ false
        → ((q : ℕ) → InShift x q → InShift next q) → Good T (updated M p false) S (ky s) next
        → Core T (updated M p false) (updated O p free) ky (updated st s next) S
    unmarking x next p e ow ho hp sh gd =
        make T (updated M p false) (updated O p free) S next c.edge_low c.edge_high
        (λ q. ⊎_elim (λ (z : p ≡ q). ap (holder N next) (sym z) ∙ hp ∙ sym (ap (is_by s) (updated_at O p q free z)))
        (λ n. ho q n ∙ ap (λ y. holder N y q) (sym e) ∙ c.owned s q ∙ ap (is_by s) (sym (updated_other O p q free n))) (cases_eq p q))
        (λ t q n. ⊎_elim (λ (z : p ≡ q). ap (is_by t) (sym (ap O z) ∙ ow) ∙ ne_eqb t s (λ w. n (sym w)) ∙ sym (ap (is_by t) (updated_at O p q free z)))
        (λ n'. ap (is_by t) (sym (updated_other O p q free n'))) (cases_eq p q))
        (λ q. ⊎_elim (λ (z : p ≡ q). updated_at M p q false z ∙ ap taken (sym (updated_at O p q free z)))
        (λ n. updated_other M p q false n ∙ c.marks q ∙ ap taken (sym (updated_other O p q free n))) (cases_eq p q))
        (λ q h. (⊎_elim (λ (z : p ≡ q). updated_at M p q false z) (λ n. updated_other M p q false n ∙ h.0) (cases_eq p q), h.1))
        (λ t q n h. (refl, refl)) gd (agree_still x next e sh) c.sorted
