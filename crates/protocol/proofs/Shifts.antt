-- The shift, from either boundary.
use Rattle.std.proofs.Common.{◌≡◌, ℕ, suc, pred, ◌<◌, ◌≤◌, Bool, true, false, ◌≢◌, ◌⊎◌, sym, refl, ap, ◌∙◌, subst, inl, inr, ⊎_elim, arith}
use Rattle.std.proofs.lemmas.Bool.{cases_lt, cases_eq}
use Rattle.protocol.specs.Cells.{Content, empty, holds, Write, is_occupied, updated}
use Rattle.protocol.specs.Stages.{Inserted, Leftward, Rightward, Stage, Shift, ReleaseLeft}
use Rattle.protocol.specs.Step.{Ordering, before, same, after, nothing, took, is, copy_due, decided, copied, versus, at_shift, decide}
use Rattle.protocol.specs.OneWorker.{is_less, is_greater, lower, higher, slide_left, slide_right, from_side, one_worker}
use Rattle.protocol.proofs.Lawful.{Lawful, order_turn, by_place, versus_is, versus_occupied}
use Rattle.protocol.proofs.Updates.{updated_at, updated_other, not_both, holds_occupied, holds_inj}
use Rattle.protocol.proofs.Sorted.{home_left, home_right, More, more_sorted, between_only}
use Rattle.protocol.proofs.Worker.{SlidUp, SlidDown, is_higher, is_lower, slid_up, slid_down, worker_gap}
use Rattle.protocol.proofs.Holding.{holder}
use Rattle.protocol.proofs.Invariant.{Owner, Keeps, Solid, answer_new, ShiftingLeft, ShiftingRight, Core, region_stable, make, agree_still}
use Rattle.protocol.proofs.Regions.{closed_shift, keeps_off}
use Rattle.protocol.proofs.Steps.{Done}

module _ {K : Type 0} {N : ℕ} (κ : Lawful K N) {T : ℕ → Content K} {M : ℕ → Bool} {O : ℕ → Owner} {ky : ℕ → K} {st : ℕ → Stage} {S : ℕ → Content K} (c : Core κ T M O ky st S) (s : ℕ) where
  module _ (l r u : ℕ) (e : st s ≡ Shift Leftward l r u) (d : ShiftingLeft κ T M S (ky s) l r (suc u)) where
    off_left : (t p : ℕ) → s ≢ t → Keeps (st t) p → suc u ≤ p → p ≤ r → ⊥
    off_left t p n h a b =
        ⊎_elim (λ f. f (omega arith) (omega arith)) (λ x. x)
        (keeps_off κ c s t l r p n (closed_shift κ c s Leftward l r u e) (inr d.cell_r) h (omega arith) b)

    s_pred : S u ≡ T u
    s_pred = d.kept u (omega arith) (omega arith)

    copy_left : (x : K) → T u ≡ holds x → versus κ.kind (ky s) (T u) ≡ is after
        → Done κ c s (decided (Write (suc u) x) (Shift Leftward l r (pred u)) nothing)
    copy_left x tx v = (core, tt)
      where
        T' : ℕ → Content K
        T' = updated T (suc u) (holds x)

        other : (p : ℕ) → suc u ≢ p → T' p ≡ T p
        other p n = updated_other T (suc u) p (holds x) n

        here : (p : ℕ) → suc u ≡ p → T' p ≡ T u
        here p n = updated_at T (suc u) p (holds x) n ∙ sym tx

        oc : is_occupied (T u) ≡ true
        oc = versus_occupied κ (ky s) (T u) after v

        inner : l < u
        inner = ⊎_elim (λ (a : l ≡ u). absurd (not_both (ap S (sym a) ∙ d.el) (ap is_occupied s_pred ∙ oc))) (λ n. omega arith) (cases_eq l u)

        so : (p : ℕ) → Solid T M p → Solid T' M p
        so p z = (z.0, ⊎_elim (λ (y : suc u ≡ p). ap is_occupied (here p y) ∙ oc) (λ n. ap is_occupied (other p n) ∙ z.1) (cases_eq (suc u) p))

        core : Core κ T' M O ky (updated st s (Shift Leftward l r (pred u))) S
        core = make κ c s T' M O S (Shift Leftward l r (pred u))
            (other 0 (omega arith) ∙ c.edge_low) (λ p z. other p (omega arith) ∙ c.edge_high p z)
            (λ p. ap (λ y. holder N y p) (sym e) ∙ c.owned s p) (λ t p n. refl) c.marks so
            (λ t p n z.
            (⊎_elim (λ (y : suc u ≡ p). absurd (off_left t p n z (omega arith) (omega arith))) (λ n'. other p n') (cases_eq (suc u) p), refl))
            (subst (λ i. ShiftingLeft κ T' M S (ky s) l r i) (let z : u ≡ suc (pred u) = omega (arith, inner) in z) (record {
              region = region_stable κ T T' M M so d.region;
              cell_r = d.cell_r;
              l_g = inner;
              g_r = omega arith;
              el = d.el;
              er = d.er;
              absent = d.absent;
              kept = λ q x y. d.kept q x (omega arith) ∙ sym (other q (omega (arith, inner)));
              moved =
                  λ q x y.
                  ⊎_elim
                  (λ (w : u ≡ q). ap S (sym w) ∙ s_pred ∙ sym (here (suc q) (omega arith)))
                  (λ n. d.moved q (omega arith) y ∙ sym (other (suc q) (omega arith))) (cases_eq u q);
              afters =
                  λ q x y.
                  ⊎_elim
                  (λ (w : u ≡ q). ap (λ i. versus κ.kind (ky s) (S i)) (sym w) ∙ ap (versus κ.kind (ky s)) s_pred ∙ v)
                  (λ n. d.afters q (omega arith) y) (cases_eq u q);
              chosen = d.chosen;
            }))
            (λ p. ⊎_elim (λ (y : suc u ≡ p). inr (inr (omega arith)))
            (λ n. ⊎_elim (λ z. inl (z ∙ sym (other p n))) inr (agree_still κ c s (Shift Leftward l r u) (Shift Leftward l r (pred u)) e (λ q i. i) p))
            (cases_eq (suc u) p))
            c.sorted

    end_left : higher κ.kind (ky s) (T u) ≡ false → ((p : ℕ) (x : K) → p < suc u → S p ≡ holds x → κ.kind.order x (ky s) ≡ before)
        → Done κ c s (decided (Write (suc u) (ky s)) (ReleaseLeft l r Inserted) (took Inserted))
    end_left stop lesser = (
      subst (λ X. Core κ T' M O ky (updated st s (ReleaseLeft l r Inserted)) X) (sym (ap (λ z. z.0) w)) core,
      answer_new κ k S S' w kept_keys (suc u) (gap (suc u) refl),
    )
      where
        k : K
        k = ky s

        T' : ℕ → Content K
        T' = updated T (suc u) (holds k)

        S' : ℕ → Content K
        S' = slide_left κ.kind S k r

        solid_s : (p : ℕ) → l < p → p < r → is_occupied (S p) ≡ true
        solid_s p x y =
            ⊎_elim
            (λ (a : p < suc u). ap is_occupied (d.kept p (omega arith) (omega arith)) ∙ (d.region.solid p x y).1)
            (λ a. versus_occupied κ k (S p) after (d.afters p a y)) (cases_lt p (suc u))

        absent : (q : ℕ) → S q ≡ holds k → ⊥
        absent q z =
            let b = between_only κ c.sorted k l r q d.el d.er d.region.l_h d.region.h_r z in
            d.absent q (omega arith) (omega arith) z

        w : one_worker κ.kind S k ≡ (S', Inserted)
        w =
            worker_gap κ S k l r r absent (omega arith) d.cell_r d.er d.region.l_h d.region.h_r d.region.top d.el d.er solid_s
            ∙ ap (λ b. from_side κ.kind b S k l r) d.chosen

        sl : SlidUp S S' k u r
        sl = slid_up κ r S k u (omega arith) (λ q x y. is_higher κ k (S q) (d.afters q (omega arith) y)) (ap (higher κ.kind k) s_pred ∙ stop)

        under : (p : ℕ) → p < suc u → S' p ≡ S p
        under p a = sl.under p (omega arith)

        gap : (p : ℕ) → suc u ≡ p → S' p ≡ holds k
        gap p a = ap S' (let z : p ≡ suc u = omega arith in z) ∙ sl.gap

        went : (p : ℕ) → suc u < p → p ≤ r → S' p ≡ S (pred p)
        went p a b = ap S' (let z : p ≡ suc (pred p) = omega arith in z) ∙ sl.moved (pred p) (omega arith) (omega arith)

        kept_keys : (x : K) (p : ℕ) → S p ≡ holds x → (q : ℕ) × (S' q ≡ holds x)
        kept_keys x p z =
            ⊎_elim (λ (a : p < suc u). (p, under p a ∙ z))
            (λ a.
            ⊎_elim (λ (b : r < p). (p, sl.above p b ∙ z))
            (λ b.
            ⊎_elim
            (λ (y : r ≡ p). absurd (not_both (ap S (sym y) ∙ d.er) (holds_occupied z)))
            (λ n. (suc p, sl.moved p (omega arith) (omega arith) ∙ z)) (cases_eq r p))
            (cases_lt r p))
            (cases_lt p (suc u))

        full_s : (q : ℕ) → l < q → q ≤ r → is_occupied (S' q) ≡ true
        full_s q a b =
            ⊎_elim
            (λ (x : q < suc u). ap is_occupied (under q x) ∙ solid_s q a (omega arith))
            (λ x.
            ⊎_elim (λ (y : suc u ≡ q). holds_occupied (gap q y))
            (λ n. ap is_occupied (went q (omega arith) b) ∙ solid_s (pred q) (omega arith) (omega arith))
            (cases_eq (suc u) q))
            (cases_lt q (suc u))

        other : (p : ℕ) → suc u ≢ p → T' p ≡ T p
        other p n = updated_other T (suc u) p (holds k) n

        R : ℕ → ℕ → Type 0
        R p q = ((q ≡ p) × ((p < suc u) ⊎ (r < p))) ⊎ ((suc q ≡ p) × (suc u < p) × (p ≤ r))

        more : More κ S S' k (suc u) R
        more = record {
          at_gap = gap (suc u) refl;
          from =
              λ p n.
              ⊎_elim (λ (a : p < suc u). (p, inl (refl, inl a), under p a))
              (λ a.
              ⊎_elim (λ (b : r < p). (p, inl (refl, inr b), sl.above p b))
              (λ b. (pred p, inr (omega arith, omega arith, b), went p (omega arith) b))
              (cases_lt r p))
              (cases_lt p (suc u));
          mono = λ p q i j lt x y. omega arith;
          near = λ p i x. omega arith;
          grown =
              λ q o.
              ⊎_elim (λ (a : q < suc u). ap is_occupied (under q a) ∙ o)
              (λ a. ⊎_elim (λ (b : r < q). ap is_occupied (sl.above q b) ∙ o) (λ b. full_s q (omega arith) b) (cases_lt r q))
              (cases_lt q (suc u));
          below = λ p x lt z. lesser p x lt (sym (under p lt) ∙ z);
          above =
              λ p x lt z.
              ⊎_elim (λ (b : r < p). let y = home_right κ c.sorted r p x d.er b (sym (sl.above p b) ∙ z) in by_place κ k x (omega arith))
              (λ b.
              order_turn κ x k
              (let y = versus_is κ k (S (pred p)) after (d.afters (pred p) (omega arith) (omega arith)) in
              ap (λ i. κ.kind.order i k) (holds_inj (sym (went p lt b) ∙ z) y.1) ∙ y.2))
              (cases_lt r p);
          rise = λ q a b. full_s q (omega arith) (omega arith);
          fall = λ q a b. full_s q (omega arith) (omega arith);
          low = under 0 (omega arith) ∙ c.sorted.low;
          high = λ p z. sl.above p (omega arith) ∙ c.sorted.high p z;
        }

        core : Core κ T' M O ky (updated st s (ReleaseLeft l r Inserted)) S'
        core = make κ c s T' M O S' (ReleaseLeft l r Inserted)
            (other 0 (omega arith) ∙ c.edge_low) (λ p z. other p (omega arith) ∙ c.edge_high p z)
            (λ p. ap (λ y. holder N y p) (sym e) ∙ c.owned s p) (λ t p n. refl) c.marks
            (λ p z. (
              z.0,
              ⊎_elim
                  (λ (y : suc u ≡ p). holds_occupied (updated_at T (suc u) p (holds k) y)) (λ n. ap is_occupied (other p n) ∙ z.1)
                  (cases_eq (suc u) p),
            ))
            (λ t p n z.
            ⊎_elim (λ (a : p < suc u). (other p (omega arith), under p a))
            (λ a. ⊎_elim (λ (b : r < p). (other p (omega arith), sl.above p b)) (λ b. absurd (off_left t p n z a b)) (cases_lt r p))
            (cases_lt p (suc u)))
            (omega arith)
            (λ p. ⊎_elim
            (λ (a : p < suc u).
            ⊎_elim (λ z. inl (under p a ∙ z ∙ sym (other p (omega arith))))
            (⊎_elim (λ z. inr (inl z))
            (λ (z : (l ≤ p) × (p ≤ r)). inl (under p a ∙ d.kept p z.0 (omega arith) ∙ sym (other p (omega arith)))))
            (agree_still κ c s (Shift Leftward l r u) (Shift Leftward l r u) e (λ q i. i) p))
            (λ a. ⊎_elim
            (λ (b : r < p).
            ⊎_elim
            (λ z. inl (sl.above p b ∙ z ∙ sym (other p (omega arith))))
            (⊎_elim (λ z. inr (inl z)) (λ (z : (l ≤ p) × (p ≤ r)). absurd (omega arith)))
            (agree_still κ c s (Shift Leftward l r u) (Shift Leftward l r u) e (λ q i. i) p))
            (λ b. ⊎_elim (λ (y : suc u ≡ p). inl (gap p y ∙ sym (updated_at T (suc u) p (holds k) y)))
            (λ n.
            inl
            (went p (omega arith) b
            ∙ d.moved (pred p) (omega arith) (omega arith)
            ∙ ap T (let z : suc (pred p) ≡ p = omega arith in z)
            ∙ sym (other p n)))
            (cases_eq (suc u) p))
            (cases_lt r p))
            (cases_lt p (suc u)))
            (more_sorted κ c.sorted more)

    pub left_shift_step : Done κ c s (decide κ.kind (ky s) (Shift Leftward l r u) T M)
    left_shift_step = go (T u) refl
      where
        go : (x : Content K) → T u ≡ x → Done κ c s (at_shift κ.kind (ky s) Leftward l r u x)
        go empty em = end_left (ap (higher κ.kind (ky s)) em) (λ p x lt z.
            ⊎_elim
            (λ (a : l ≡ u).
            ⊎_elim
            (λ (b : p < l). let y = home_left κ c.sorted l p x d.el b z in by_place κ x (ky s) (omega arith))
            (λ b. absurd (not_both d.el (holds_occupied (ap S (let q : l ≡ p = omega arith in q) ∙ z))))
            (cases_lt p l))
            (λ n. absurd (not_both em (d.region.solid u (omega arith) (omega arith)).1)) (cases_eq l u))
        go (holds y) ty = by_order (κ.kind.order y (ky s)) refl
          where
            by_order : (o : Ordering) → κ.kind.order y (ky s) ≡ o → Done κ c s (copied (ky s) Leftward l r u y (copy_due Leftward o))
            by_order before o = end_left (ap (higher κ.kind (ky s)) ty ∙ ap is_greater o) (λ p x lt z.
                ⊎_elim (λ (a : u ≡ p). ap (λ i. κ.kind.order i (ky s)) (holds_inj z (ap S (sym a) ∙ s_pred ∙ ty)) ∙ o)
                (λ n. κ.order_trans x y (ky s) (c.sorted.asc p u x y (omega arith) z (s_pred ∙ ty)) o) (cases_eq u p))
            by_order same o = absurd (d.absent u (omega arith) (omega arith) (s_pred ∙ ty ∙ ap holds (κ.order_same y (ky s) o)))
            by_order after o = copy_left y ty (ap (versus κ.kind (ky s)) ty ∙ ap is o)

  module _ (l r u : ℕ) (e : st s ≡ Shift Rightward l r u) (d : ShiftingRight κ T M S (ky s) l r (suc u)) where
    off_right : (t p : ℕ) → s ≢ t → Keeps (st t) p → l ≤ p → p ≤ suc u → ⊥
    off_right t p n h a b =
        ⊎_elim (λ f. f (omega arith) (omega arith)) (λ x. x)
        (keeps_off κ c s t l r p n (closed_shift κ c s Rightward l r u e) (inl d.cell_l) h (omega arith) (omega arith))

    s_next : S (suc (suc u)) ≡ T (suc (suc u))
    s_next = d.kept (suc (suc u)) (omega arith) (omega arith)

    copy_right : (x : K) → T (suc (suc u)) ≡ holds x → versus κ.kind (ky s) (T (suc (suc u))) ≡ is before
        → Done κ c s (decided (Write (suc u) x) (Shift Rightward l r (suc u)) nothing)
    copy_right x tx v = (core, tt)
      where
        T' : ℕ → Content K
        T' = updated T (suc u) (holds x)

        other : (p : ℕ) → suc u ≢ p → T' p ≡ T p
        other p n = updated_other T (suc u) p (holds x) n

        here : (p : ℕ) → suc u ≡ p → T' p ≡ T (suc (suc u))
        here p n = updated_at T (suc u) p (holds x) n ∙ sym tx

        oc : is_occupied (T (suc (suc u))) ≡ true
        oc = versus_occupied κ (ky s) (T (suc (suc u))) before v

        inner : suc (suc u) < r
        inner =
            ⊎_elim
            (λ (a : r ≡ suc (suc u)). absurd (not_both (ap S (sym a) ∙ d.er) (ap is_occupied s_next ∙ oc)))
            (λ n. omega arith) (cases_eq r (suc (suc u)))

        so : (p : ℕ) → Solid T M p → Solid T' M p
        so p z = (z.0, ⊎_elim (λ (y : suc u ≡ p). ap is_occupied (here p y) ∙ oc) (λ n. ap is_occupied (other p n) ∙ z.1) (cases_eq (suc u) p))

        core : Core κ T' M O ky (updated st s (Shift Rightward l r (suc u))) S
        core = make κ c s T' M O S (Shift Rightward l r (suc u))
            (other 0 (omega arith) ∙ c.edge_low) (λ p z. other p (omega arith) ∙ c.edge_high p z)
            (λ p. ap (λ y. holder N y p) (sym e) ∙ c.owned s p) (λ t p n. refl) c.marks so
            (λ t p n z.
            (⊎_elim (λ (y : suc u ≡ p). absurd (off_right t p n z (omega arith) (omega arith))) (λ n'. other p n') (cases_eq (suc u) p), refl))
            (record {
              region = region_stable κ T T' M M so d.region;
              cell_l = d.cell_l;
              l_g = omega arith;
              g_r = inner;
              el = d.el;
              er = d.er;
              absent = d.absent;
              kept = λ q x y. d.kept q (omega arith) y ∙ sym (other q (omega arith));
              moved =
                  λ q x y.
                  ⊎_elim
                  (λ (w : suc u ≡ q). ap (λ i. S (suc i)) (sym w) ∙ s_next ∙ sym (here q w))
                  (λ n. d.moved q x (omega arith) ∙ sym (other q n)) (cases_eq (suc u) q);
              befores =
                  λ q x y.
                  ⊎_elim
                  (λ (w : suc (suc u) ≡ q). ap (λ i. versus κ.kind (ky s) (S i)) (sym w) ∙ ap (versus κ.kind (ky s)) s_next ∙ v)
                  (λ n. d.befores q x (omega arith)) (cases_eq (suc (suc u)) q);
              chosen = d.chosen;
            })
            (λ p. ⊎_elim (λ (y : suc u ≡ p). inr (inr (omega arith)))
            (λ n. ⊎_elim (λ z. inl (z ∙ sym (other p n))) inr (agree_still κ c s (Shift Rightward l r u) (Shift Rightward l r (suc u)) e (λ q i. i) p))
            (cases_eq (suc u) p))
            c.sorted

    end_right : lower κ.kind (ky s) (T (suc (suc u))) ≡ false → ((p : ℕ) (x : K) → suc u < p → S p ≡ holds x → κ.kind.order (ky s) x ≡ before)
        → Done κ c s (decided (Write (suc u) (ky s)) (ReleaseLeft l r Inserted) (took Inserted))
    end_right stop upper = (
      subst (λ X. Core κ T' M O ky (updated st s (ReleaseLeft l r Inserted)) X) (sym (ap (λ z. z.0) w)) core,
      answer_new κ k S S' w kept_keys (suc u) sl.gap,
    )
      where
        k : K
        k = ky s

        T' : ℕ → Content K
        T' = updated T (suc u) (holds k)

        S' : ℕ → Content K
        S' = slide_right κ.kind N S k l

        solid_s : (p : ℕ) → l < p → p < r → is_occupied (S p) ≡ true
        solid_s p x y =
            ⊎_elim
            (λ (a : suc u < p). ap is_occupied (d.kept p (omega arith) (omega arith)) ∙ (d.region.solid p x y).1)
            (λ a. versus_occupied κ k (S p) before (d.befores p x a)) (cases_lt (suc u) p)

        absent : (q : ℕ) → S q ≡ holds k → ⊥
        absent q z =
            let b = between_only κ c.sorted k l r q d.el d.er d.region.l_h d.region.h_r z in
            d.absent q (omega arith) (omega arith) z

        w : one_worker κ.kind S k ≡ (S', Inserted)
        w =
            let hN = κ.place_high (ky s) in
            worker_gap κ S k l r l absent d.cell_l (omega arith) d.el d.region.l_h d.region.h_r d.region.top d.el d.er solid_s
            ∙ ap (λ b. from_side κ.kind b S k l r) d.chosen

        sl : SlidDown S S' k l (suc u)
        sl =
            slid_down κ N S k l (suc u) (omega arith) (omega arith)
            (λ q x y. is_lower κ k (S q) (d.befores q x y)) (ap (lower κ.kind k) s_next ∙ stop)

        kept_keys : (x : K) (p : ℕ) → S p ≡ holds x → (q : ℕ) × (S' q ≡ holds x)
        kept_keys x p z =
            ⊎_elim (λ (a : suc u < p). (p, sl.above p a ∙ z))
            (λ a.
            ⊎_elim (λ (b : p < l). (p, sl.under p b ∙ z))
            (λ b.
            ⊎_elim
            (λ (y : l ≡ p). absurd (not_both (ap S (sym y) ∙ d.el) (holds_occupied z)))
            (λ n. (pred p, sl.moved (pred p) (omega arith) (omega arith) ∙ ap S (let w : suc (pred p) ≡ p = omega arith in w) ∙ z))
            (cases_eq l p))
            (cases_lt p l))
            (cases_lt (suc u) p)

        full_s : (q : ℕ) → l ≤ q → q < r → is_occupied (S' q) ≡ true
        full_s q a b =
            ⊎_elim
            (λ (x : suc u < q). ap is_occupied (sl.above q x) ∙ solid_s q (omega arith) b)
            (λ x.
            ⊎_elim (λ (y : suc u ≡ q). holds_occupied (ap S' (sym y) ∙ sl.gap))
            (λ n. ap is_occupied (sl.moved q a (omega arith)) ∙ solid_s (suc q) (omega arith) (omega arith))
            (cases_eq (suc u) q))
            (cases_lt (suc u) q)

        other : (p : ℕ) → suc u ≢ p → T' p ≡ T p
        other p n = updated_other T (suc u) p (holds k) n

        R : ℕ → ℕ → Type 0
        R p q = ((q ≡ p) × ((p < l) ⊎ (suc u < p))) ⊎ ((q ≡ suc p) × (l ≤ p) × (p < suc u))

        more : More κ S S' k (suc u) R
        more = record {
          at_gap = sl.gap;
          from =
              λ p n.
              ⊎_elim
              (λ (a : suc u < p). (p, inl (refl, inr a), sl.above p a))
              (λ a.
              ⊎_elim (λ (b : p < l). (p, inl (refl, inl b), sl.under p b))
              (λ b. (suc p, inr (refl, b, omega arith), sl.moved p b (omega arith)))
              (cases_lt p l))
              (cases_lt (suc u) p);
          mono = λ p q i j lt x y. omega arith;
          near = λ p i x. omega arith;
          grown =
              λ q o.
              ⊎_elim (λ (a : suc u < q). ap is_occupied (sl.above q a) ∙ o)
              (λ a. ⊎_elim (λ (b : q < l). ap is_occupied (sl.under q b) ∙ o) (λ b. full_s q b (omega arith)) (cases_lt q l))
              (cases_lt (suc u) q);
          below =
              λ p x lt z.
              ⊎_elim (λ (b : p < l). let y = home_left κ c.sorted l p x d.el b (sym (sl.under p b) ∙ z) in by_place κ x k (omega arith))
              (λ b.
              let y = versus_is κ k (S (suc p)) before (d.befores (suc p) (omega arith) (omega arith)) in
              ap (λ i. κ.kind.order i k) (holds_inj (sym (sl.moved p b lt) ∙ z) y.1) ∙ y.2)
              (cases_lt p l);
          above = λ p x lt z. upper p x lt (sym (sl.above p lt) ∙ z);
          rise = λ q a b. full_s q (omega arith) (omega arith);
          fall = λ q a b. full_s q (omega arith) (omega arith);
          low = sl.under 0 d.cell_l ∙ c.sorted.low;
          high = λ p z. sl.above p (omega arith) ∙ c.sorted.high p z;
        }

        core : Core κ T' M O ky (updated st s (ReleaseLeft l r Inserted)) S'
        core = make κ c s T' M O S' (ReleaseLeft l r Inserted)
            (other 0 (omega arith) ∙ c.edge_low) (λ p z. other p (omega arith) ∙ c.edge_high p z)
            (λ p. ap (λ y. holder N y p) (sym e) ∙ c.owned s p) (λ t p n. refl) c.marks
            (λ p z. (
              z.0,
              ⊎_elim
                  (λ (y : suc u ≡ p). holds_occupied (updated_at T (suc u) p (holds k) y)) (λ n. ap is_occupied (other p n) ∙ z.1)
                  (cases_eq (suc u) p),
            ))
            (λ t p n z.
            ⊎_elim
            (λ (a : suc u < p). (other p (omega arith), sl.above p a))
            (λ a. ⊎_elim (λ (b : p < l). (other p (omega arith), sl.under p b)) (λ b. absurd (off_right t p n z b a)) (cases_lt p l))
            (cases_lt (suc u) p))
            (omega arith)
            (λ p. ⊎_elim
            (λ (a : suc u < p).
            ⊎_elim
            (λ z. inl (sl.above p a ∙ z ∙ sym (other p (omega arith))))
            (⊎_elim (λ z. inr (inl z))
            (λ (z : (l ≤ p) × (p ≤ r)). inl (sl.above p a ∙ d.kept p (omega arith) z.1 ∙ sym (other p (omega arith)))))
            (agree_still κ c s (Shift Rightward l r u) (Shift Rightward l r u) e (λ q i. i) p))
            (λ a. ⊎_elim
            (λ (b : p < l).
            ⊎_elim
            (λ z. inl (sl.under p b ∙ z ∙ sym (other p (omega arith))))
            (⊎_elim (λ z. inr (inl z)) (λ (z : (l ≤ p) × (p ≤ r)). absurd (omega arith)))
            (agree_still κ c s (Shift Rightward l r u) (Shift Rightward l r u) e (λ q i. i) p))
            (λ b. ⊎_elim (λ (y : suc u ≡ p). inl (ap S' (sym y) ∙ sl.gap ∙ sym (updated_at T (suc u) p (holds k) y)))
            (λ n. inl (sl.moved p b (omega arith) ∙ d.moved p b (omega arith) ∙ sym (other p n)))
            (cases_eq (suc u) p))
            (cases_lt p l))
            (cases_lt (suc u) p))
            (more_sorted κ c.sorted more)

    pub right_shift_step : Done κ c s (decide κ.kind (ky s) (Shift Rightward l r u) T M)
    right_shift_step = go (T (suc (suc u))) refl
      where
        go : (x : Content K) → T (suc (suc u)) ≡ x → Done κ c s (at_shift κ.kind (ky s) Rightward l r u x)
        go empty em = end_right (ap (lower κ.kind (ky s)) em) (λ p x lt z.
            ⊎_elim
            (λ (a : r ≡ suc (suc u)).
            ⊎_elim
            (λ (b : r < p). let y = home_right κ c.sorted r p x d.er b z in by_place κ (ky s) x (omega arith))
            (λ b. absurd (not_both d.er (holds_occupied (ap S (let q : r ≡ p = omega arith in q) ∙ z))))
            (cases_lt r p))
            (λ n. absurd (not_both em (d.region.solid (suc (suc u)) (omega arith) (omega arith)).1)) (cases_eq r (suc (suc u))))
        go (holds y) ty = by_order (κ.kind.order y (ky s)) refl
          where
            by_order : (o : Ordering) → κ.kind.order y (ky s) ≡ o → Done κ c s (copied (ky s) Rightward l r u y (copy_due Rightward o))
            by_order before o = copy_right y ty (ap (versus κ.kind (ky s)) ty ∙ ap is o)
            by_order same o = absurd (d.absent (suc (suc u)) (omega arith) (omega arith) (s_next ∙ ty ∙ ap holds (κ.order_same y (ky s) o)))
            by_order after o = end_right (ap (lower κ.kind (ky s)) ty ∙ ap is_less o) (λ p x lt z.
                ⊎_elim
                (λ (a : suc (suc u) ≡ p). ap (λ i. κ.kind.order (ky s) i) (holds_inj z (ap S (sym a) ∙ s_next ∙ ty)) ∙ order_turn κ y (ky s) o)
                (λ n. κ.order_trans (ky s) y x (order_turn κ y (ky s) o) (c.sorted.asc (suc (suc u)) p y x (omega arith) (s_next ∙ ty) z)) (cases_eq (suc (suc u)) p))
