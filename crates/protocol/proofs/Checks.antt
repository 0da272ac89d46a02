-- Second mark and check.
use Rattle.std.proofs.Common.{◌≡◌, ℕ, suc, pred, ◌<◌, ◌≤◌, Bool, true, false, cond, ◌&&◌, ◌||◌, eqb, leb, ◌≢◌, ◌⊎◌, sym, refl, ap, ◌∙◌, subst, inl, inr, ⊎_elim, arith}
use Rattle.std.proofs.lemmas.Bool.{cases_lt, cases_eq, both_ways, leb-true, leb-false}
use Rattle.protocol.specs.Cells.{Content, empty, holds, cell, is_occupied, updated}
use Rattle.protocol.specs.Stages.{Found, Full, Leftward, Rightward, Stage, Home, SecondMark, GiveBack, Check, Shift, ReleaseLeft}
use Rattle.protocol.specs.Step.{Ordering, before, same, after, Walk, Ended, Onward, Versus, none, is, is_after, walk_at, goes_to, give_up, at_second, absent, at_check, versus, decide}
use Rattle.protocol.specs.OneWorker.{is_greater, higher}
use Rattle.protocol.proofs.Lawful.{Lawful, order_refl, order_back, versus_is, versus_holds, versus_none, versus_same, versus_occupied}
use Rattle.protocol.proofs.Updates.{not_both, unoccupied_empty}
use Rattle.protocol.proofs.Sorted.{Sorted, between_only}
use Rattle.protocol.proofs.Worker.{worker_full}
use Rattle.protocol.proofs.Holding.{cell_parts, is_cell, no_cell, one_here, one_edge, right_here, without_right, edge_right}
use Rattle.protocol.proofs.Invariant.{Owner, by, InShift, by_inj, Region, Checking, Core, region_mark, marked_by, still, own, marking}
use Rattle.protocol.proofs.Regions.{off_interval, apart_by, good_at, Closed, around, outside, clear}
use Rattle.protocol.proofs.Steps.{Done, answer_kept, found_at}

-- where the gap starts, in the one worker's words
side_right : (N l r : ℕ) (b : Bool) → r ≤ N → (b ≡ true) ⊎ (l ≡ 0) → (leb r N && (b || eqb l 0)) ≡ true
side_right N l r true le e = grind arith
side_right N l r false le e = ⊎_elim (λ z. absurd (both_ways false refl z)) (λ z. grind arith) e

side_left : (N l r : ℕ) (b : Bool) → (N < r) ⊎ ((b ≡ false) × (0 < l)) → (leb r N && (b || eqb l 0)) ≡ false
side_left N l r true e = ⊎_elim (λ z. grind arith) (λ z. absurd (both_ways true z.0 refl)) e
side_left N l r false e = ⊎_elim (λ z. grind arith) (λ z. grind arith) e

module _ {K : Type 0} {N : ℕ} (κ : Lawful K N) where
  higher_is : (k : K) (x : Content K) → higher κ.kind k x ≡ is_after (versus κ.kind k x)
  higher_is k empty = refl
  higher_is k (holds x) = go (κ.kind.order x k)
    where
      go : (o : Ordering) → is_greater o ≡ is_after (is o)
      go before = refl
      go same = refl
      go after = refl

  -- a key after k has none of k behind it, and one before k none before it
  no_right : {S : ℕ → Content K} → Sorted κ S → (k : K) (i q : ℕ) → versus κ.kind k (S i) ≡ is after → i ≤ q → S q ≡ holds k → ⊥
  no_right {S} ok k i q v le e =
      let y = versus_is κ k (S i) after v in
      ⊎_elim
      (λ (z : i ≡ q). let a = versus_holds κ k k (S i) (ap S z ∙ e) in let b = order_refl κ k in let n : ◌≡◌ {A = ℕ} 0 1 = cc in omega arith)
      (λ n. let a = ok.asc i q y.0 k (omega arith) y.1 e in let n : ◌≡◌ {A = ℕ} 0 1 = cc in omega arith)
      (cases_eq i q)

  no_left : {S : ℕ → Content K} → Sorted κ S → (k : K) (i q : ℕ) → versus κ.kind k (S i) ≡ is before → q ≤ i → S q ≡ holds k → ⊥
  no_left {S} ok k i q v le e =
      let y = versus_is κ k (S i) before v in
      ⊎_elim
      (λ (z : i ≡ q). let a = versus_holds κ k k (S i) (ap S z ∙ e) in let b = order_refl κ k in let n : ◌≡◌ {A = ℕ} 0 1 = cc in omega arith)
      (λ n. let a = order_back κ k y.0 (ok.asc q i k y.0 (omega arith) e y.1) in let n : ◌≡◌ {A = ℕ} 0 1 = cc in omega arith)
      (cases_eq i q)

module _ {K : Type 0} {N : ℕ} (κ : Lawful K N) {T : ℕ → Content K} {M : ℕ → Bool} {O : ℕ → Owner} {ky : ℕ → K} {st : ℕ → Stage} {S : ℕ → Content K} (c : Core κ T M O ky st S) (s : ℕ) where
  -- a region about to be closed: l is marked by s, r free
  record Half (l r : ℕ) : Type 0 where
    region : Region κ T M (ky s) l r
    own_l : 0 < l → O l ≡ by s
    em : r ≤ N → T r ≡ empty
    um : r ≤ N → M r ≡ false

  half_outside : (t l r x : ℕ) → s ≢ t → Half l r → O x ≡ by t → 0 < x → x ≤ N → l ≤ x → x ≤ r → ⊥
  half_outside t l r x n f o a b lx xr =
      ⊎_elim (λ (e : l ≡ x). n (by_inj (ap O (sym e) ∙ f.own_l (omega arith)) o))
      (λ y. ⊎_elim (λ (e : r ≡ x). both_ways (M x) (ap M (sym e) ∙ f.um (omega arith)) (marked_by κ c x t o))
      (λ z. both_ways (M x) (f.region.solid x (omega arith) (omega arith)).0 (marked_by κ c x t o))
      (cases_eq r x))
      (cases_eq l x)

  half_apart : (t l r l' r' p : ℕ) → s ≢ t → Half l r → Closed κ c t l' r' → (0 < l') ⊎ (r' ≤ N) → l ≤ p → p ≤ r → l' ≤ p → p ≤ r' → ⊥
  half_apart t l r l' r' p n f g d a b a' b' =
      let hN = κ.place_high (ky s) in let hN' = κ.place_high (ky t) in
      apart_by N p l r l' r'
      (⊎_elim
      (λ (z : 0 < l). inr (off_interval l l' r' (outside κ c s t l' r' l n g (f.own_l z) z (omega arith))))
      (λ z. inl (omega arith)) (cases_lt 0 l))
      (⊎_elim inl (λ z. inr (off_interval r l' r' (clear κ c t l' r' r g (f.em z) (f.um z) (omega arith) z))) (cases_lt N r))
      (⊎_elim
      (λ (z : 0 < l'). inr (off_interval l' l r (half_outside t l r l' n f (g.own_l z) z (omega arith))))
      (λ z. inl (omega arith)) (cases_lt 0 l'))
      (⊎_elim inl (λ z. inr (off_interval r' l r (half_outside t l r r' n f (g.own_r z) (omega arith) z))) (cases_lt N r'))
      d f.region.top g.region.top a b a' b'

  -- SECOND MARK
  module _ (l r : ℕ) (e : st s ≡ SecondMark l r) (g : Region κ T M (ky s) l r) (el : T l ≡ empty) (hN : κ.kind.place (ky s) ≤ N) where
    -- once both boundaries are its own, nobody shifts in the region
    agreed : (r ≤ N → T r ≡ empty) → (r ≤ N → M r ≡ false) → (q : ℕ) → l ≤ q → q ≤ r → S q ≡ T q
    agreed em um q a b =
        let f : Half l r = record
        { region = g; own_l = λ z. own κ c s (SecondMark l r) e l (one_here N l (is_cell N l z (omega arith))); em = em; um = um }
        in
        ⊎_elim (λ z. z)
        (λ i. let w = around κ c i.0 q i.1 in
        absurd (half_apart i.0 l r w.l w.r q (λ y. subst (λ x. InShift x q) (ap st (sym y) ∙ e) i.1) f w.closed_region w.some_cell a b w.l_p w.p_r))
        (c.agree q)

    checking : (M' : ℕ → Bool) → Region κ T M' (ky s) l r → T r ≡ empty → ((q : ℕ) → l ≤ q → q ≤ r → S q ≡ T q)
        → Checking κ T M' S (ky s) l r (κ.kind.place (ky s))
    checking M' re er ag = record {
      region = re;
      el = el;
      er = er;
      agree = ag;
      l_p = omega arith;
      p_r = omega arith;
      afters = λ q a b. absurd (omega arith);
      befores = λ q a b. absurd (omega arith);
    }

    give : (b : Bool) → cell N l ≡ b → Done κ c s (give_up l b)
    give true x =
        let at : suc (pred l) ≡ l = let z = cell_parts N l x in omega arith in
        (still κ c s (SecondMark l r) (GiveBack (pred l)) e (λ q. ap (λ i. eqb q i && cell N q) at) (λ q i. i) (ap (cell N) at ∙ x), tt)
    give false x = (still κ c s (SecondMark l r) Home e (λ q. sym (one_edge N l q x)) (λ q i. i) tt, tt)

    by_r : (x b o : Bool) → cell N r ≡ x → M r ≡ b → is_occupied (T r) ≡ o → Done κ c s (at_second (κ.kind.place (ky s)) l r (cell N l) x b o)
    by_r false b o x m z =
        let off : N < r = ⊎_elim (λ (y : r ≡ 0). absurd (omega arith)) (λ y. y) (no_cell N r x) in (
          still κ c s (SecondMark l r) (Check l r (κ.kind.place (ky s))) e (λ q. edge_right N l r q x) (λ q i. i)
              (checking M g (c.edge_high r off) (agreed (λ y. absurd (omega arith)) (λ y. absurd (omega arith)))),
          tt,
        )
    by_r true true o x m z = give (cell N l) refl
    by_r true false true x m z = give (cell N l) refl
    by_r true false false x m z =
        let em = unoccupied_empty (T r) z in (
          marking κ c s (SecondMark l r) (Check l r (κ.kind.place (ky s))) r e m em (λ q n. without_right N l r q n) (right_here N l r x) (λ q i. i)
              (checking (updated M r true) (region_mark κ r em g) em (agreed (λ y. em) (λ y. m))),
          tt,
        )

  pub second_step : (l r : ℕ) → st s ≡ SecondMark l r → Done κ c s (decide κ.kind (ky s) (SecondMark l r) T M)
  second_step l r e =
      let g = good_at κ c s (SecondMark l r) e in by_r l r e g.0 g.1 (κ.place_high (ky s)) (cell N r) (M r) (is_occupied (T r)) refl refl refl

  -- CHECK
  module _ (l r p : ℕ) (e : st s ≡ Check l r p) (g : Checking κ T M S (ky s) l r p) (hN : κ.kind.place (ky s) ≤ N) where
    s_left : S l ≡ empty
    s_left = g.agree l (omega arith) (omega arith) ∙ g.el

    s_right : S r ≡ empty
    s_right = g.agree r (omega arith) (omega arith) ∙ g.er

    -- what the walk has passed is not k
    past_left : p < κ.kind.place (ky s) → (q : ℕ) → p < q → S q ≡ holds (ky s) → ⊥
    past_left a q b z =
        ⊎_elim
        (λ (y : κ.kind.place (ky s) < q).
        no_right κ c.sorted (ky s) (κ.kind.place (ky s)) q (g.afters (κ.kind.place (ky s)) a (omega arith)) (omega arith) z)
        (λ y. no_right κ c.sorted (ky s) q q (g.afters q b y) (omega arith) z) (cases_lt (κ.kind.place (ky s)) q)

    past_right : κ.kind.place (ky s) < p → (q : ℕ) → q < p → S q ≡ holds (ky s) → ⊥
    past_right a q b z =
        ⊎_elim
        (λ (y : q < κ.kind.place (ky s)).
        no_left κ c.sorted (ky s) (κ.kind.place (ky s)) q (g.befores (κ.kind.place (ky s)) (omega arith) a) (omega arith) z)
        (λ y. no_left κ c.sorted (ky s) q q (g.befores q y b) (omega arith) z) (cases_lt q (κ.kind.place (ky s)))

    s_here : (v : Versus) → versus κ.kind (ky s) (T p) ≡ v → versus κ.kind (ky s) (S p) ≡ v
    s_here v z = ap (versus κ.kind (ky s)) (g.agree p g.l_p g.p_r) ∙ z

    -- where the walk ends, k is not in the table
    absent_none : T p ≡ empty → (q : ℕ) → S q ≡ holds (ky s) → ⊥
    absent_none em q z =
        let w = between_only κ c.sorted (ky s) l r q s_left s_right g.region.l_h g.region.h_r z in
        ⊎_elim (λ (y : l ≡ p). past_left (omega arith) q (omega arith) z)
        (λ n.
        ⊎_elim (λ (y : r ≡ p). past_right (omega arith) q (omega arith) z)
        (λ n'. not_both em (g.region.solid p (omega arith) (omega arith)).1)
        (cases_eq r p))
        (cases_eq l p)

    absent_right : κ.kind.place (ky s) < p → versus κ.kind (ky s) (T p) ≡ is after → (q : ℕ) → S q ≡ holds (ky s) → ⊥
    absent_right a v q z =
        ⊎_elim (λ (y : q < p). past_right a q y z) (λ y. no_right κ c.sorted (ky s) p q (s_here (is after) v) y z) (cases_lt q p)

    absent_left : p < κ.kind.place (ky s) → versus κ.kind (ky s) (T p) ≡ is before → (q : ℕ) → S q ≡ holds (ky s) → ⊥
    absent_left a v q z = ⊎_elim (λ (y : p < q). past_left a q y z) (λ y. no_left κ c.sorted (ky s) p q (s_here (is before) v) y z) (cases_lt p q)

    -- the end of the walk: the gap starts where one worker starts it
    module _ (no_key : (q : ℕ) → S q ≡ holds (ky s) → ⊥) where
      from_r : cell N r ≡ true → (higher κ.kind (ky s) (S (κ.kind.place (ky s))) ≡ true) ⊎ (l ≡ 0)
          → Done κ c s (goes_to (Shift Leftward l r (pred r)))
      from_r x z =
          let r-cell = cell_parts N r x in (
            still κ c s (Check l r p) (Shift Leftward l r (pred r)) e (λ q. refl) (λ q i. absurd i)
                (record {
                  region = g.region;
                  cell_r = r-cell.1;
                  l_g = omega arith;
                  g_r = omega arith;
                  el = s_left;
                  er = s_right;
                  absent =
                      λ q a b.
                      no_key q;
                  kept = λ q a b. g.agree q a (omega arith);
                  moved = λ q a b. absurd (omega arith);
                  afters = λ q a b. absurd (omega arith);
                  chosen = side_right N l r (higher κ.kind (ky s) (S (κ.kind.place (ky s)))) r-cell.1 z;
                }),
            tt,
          )

      from_l : cell N l ≡ true → (N < r) ⊎ ((higher κ.kind (ky s) (S (κ.kind.place (ky s))) ≡ false) × (0 < l))
          → Done κ c s (goes_to (Shift Rightward l r (pred l)))
      from_l x z =
          let l-cell = cell_parts N l x in (
            still κ c s (Check l r p) (Shift Rightward l r (pred l)) e (λ q. refl) (λ q i. absurd i)
                (record {
                  region = g.region;
                  cell_l = l-cell.0;
                  l_g = omega arith;
                  g_r = omega arith;
                  el = s_left;
                  er = s_right;
                  absent =
                      λ q a b.
                      no_key q;
                  kept =
                      λ q a b. g.agree q (omega arith) b;
                  moved = λ q a b. absurd (omega arith);
                  befores = λ q a b. absurd (omega arith);
                  chosen = side_left N l r (higher κ.kind (ky s) (S (κ.kind.place (ky s)))) z;
                }),
            tt,
          )

      s_home : higher κ.kind (ky s) (S (κ.kind.place (ky s))) ≡ is_after (versus κ.kind (ky s) (T (κ.kind.place (ky s))))
      s_home =
          higher_is κ (ky s) (S (κ.kind.place (ky s)))
          ∙ ap (λ x. is_after (versus κ.kind (ky s) x)) (g.agree (κ.kind.place (ky s)) (omega arith) (omega arith))

      off_left : cell N l ≡ false → l ≡ 0
      off_left x = ⊎_elim (λ z. z) (λ (z : N < l). absurd (omega arith)) (no_cell N l x)

      off_right : cell N r ≡ false → N < r
      off_right x = ⊎_elim (λ (z : r ≡ 0). absurd (omega arith)) (λ z. z) (no_cell N r x)

      walk_over : (x y b : Bool) → cell N l ≡ x → cell N r ≡ y → is_after (versus κ.kind (ky s) (T (κ.kind.place (ky s)))) ≡ b
          → Done κ c s (absent l r x y b)
      walk_over false false b x y z =
          let l-edge = off_left x in let r-edge = off_right y in
          answer_kept κ c s (Check l r p) (ReleaseLeft l r Full) Full e (λ q. refl) (λ q i. absurd i) (omega arith)
          (worker_full κ S (ky s) no_key
          (λ q a b. ap is_occupied (g.agree q (omega arith) (omega arith)) ∙ (g.region.solid q (omega arith) (omega arith)).1))
          (λ z. let n : ◌≡◌ {A = ℕ} 0 1 = cc in omega arith)
      walk_over false true b x y z = from_r y (inr (off_left x))
      walk_over true false b x y z = from_l x (inl (off_right y))
      walk_over true true true x y z = from_r y (inl (s_home ∙ z))
      walk_over true true false x y z = from_l x (inr (s_home ∙ z, (cell_parts N l x).0))

    ended : ((q : ℕ) → S q ≡ holds (ky s) → ⊥)
        → Done κ c s (absent l r (cell N l) (cell N r) (is_after (versus κ.kind (ky s) (T (κ.kind.place (ky s))))))
    ended no_key = walk_over no_key (cell N l) (cell N r) (is_after (versus κ.kind (ky s) (T (κ.kind.place (ky s))))) refl refl refl

    -- an occupied place lies between the boundaries
    inner : (o : Ordering) → versus κ.kind (ky s) (T p) ≡ is o → (l < p) × (p < r)
    inner o v =
        let oc = versus_occupied κ (ky s) (T p) o v in (
          ⊎_elim (λ a. a) (λ (a : p ≤ l). absurd (not_both (ap T (let y : p ≡ l = omega arith in y) ∙ g.el) oc)) (cases_lt l p),
          ⊎_elim (λ a. a) (λ (a : r ≤ p). absurd (not_both (ap T (let y : p ≡ r = omega arith in y) ∙ g.er) oc)) (cases_lt p r),
        )

    further_left : versus κ.kind (ky s) (T p) ≡ is after → p ≤ κ.kind.place (ky s) → Done κ c s (goes_to (Check l r (pred p)))
    further_left v le =
        let i = inner after v in (
          still κ c s (Check l r p) (Check l r (pred p)) e (λ q. refl) (λ q i. absurd i)
              (record {
                region = g.region;
                el = g.el;
                er = g.er;
                agree = g.agree;
                l_p = omega arith;
                p_r = omega arith;
                afters =
                    λ q x y.
                    ⊎_elim
                    (λ (w : p ≡ q). ap (λ j. versus κ.kind (ky s) (S j)) (sym w) ∙ s_here (is after) v)
                    (λ n. g.afters q (omega arith) y) (cases_eq p q);
                befores = λ q x y. absurd (omega arith);
              }),
          tt,
        )

    further_right : versus κ.kind (ky s) (T p) ≡ is before → κ.kind.place (ky s) ≤ p → Done κ c s (goes_to (Check l r (suc p)))
    further_right v le =
        let i = inner before v in (
          still κ c s (Check l r p) (Check l r (suc p)) e (λ q. refl) (λ q i. absurd i)
              (record {
                region = g.region;
                el = g.el;
                er = g.er;
                agree = g.agree;
                l_p = omega arith;
                p_r = omega arith;
                afters = λ q x y. absurd (omega arith);
                befores =
                    λ q x y.
                    ⊎_elim
                    (λ (w : p ≡ q). ap (λ j. versus κ.kind (ky s) (S j)) (sym w) ∙ s_here (is before) v)
                    (λ n. g.befores q x (omega arith)) (cases_eq p q);
              }),
          tt,
        )

    abbrev After : Walk → Type 0
    After w = Done κ c s (at_check l r (cell N l) (cell N r) (is_after (versus κ.kind (ky s) (T (κ.kind.place (ky s))))) w)

    by_content : (v : Versus) → versus κ.kind (ky s) (T p) ≡ v → After (walk_at (κ.kind.place (ky s)) p v)
    by_content none z = ended (absent_none (versus_none κ (ky s) (T p) z))
    by_content (is same) z =
        found_at κ c s (Check l r p) (ReleaseLeft l r Found) p e (λ q. refl) (λ q i. absurd i) (omega arith) (versus_same κ (ky s) (T p) z)
    by_content (is after) z = by_test (leb p (κ.kind.place (ky s))) refl
      where
        by_test : (b : Bool) → leb p (κ.kind.place (ky s)) ≡ b → After (cond b (Onward (pred p)) Ended)
        by_test true t = further_left z (leb-true p (κ.kind.place (ky s)) t)
        by_test false t = ended (absent_right (leb-false p (κ.kind.place (ky s)) t) z)
    by_content (is before) z = by_test (leb (κ.kind.place (ky s)) p) refl
      where
        by_test : (b : Bool) → leb (κ.kind.place (ky s)) p ≡ b → After (cond b (Onward (suc p)) Ended)
        by_test true t = further_right z (leb-true (κ.kind.place (ky s)) p t)
        by_test false t = ended (absent_left (leb-false (κ.kind.place (ky s)) p t) z)

  pub check_step : (l r p : ℕ) → st s ≡ Check l r p → Done κ c s (decide κ.kind (ky s) (Check l r p) T M)
  check_step l r p e = by_content l r p e (good_at κ c s (Check l r p) e) (κ.place_high (ky s)) (versus κ.kind (ky s) (T p)) refl
