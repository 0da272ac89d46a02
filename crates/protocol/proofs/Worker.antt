-- What the method for one worker answers and leaves.
use Rattle.std.proofs.Common.{◌≡◌, ℕ, zero, suc, ◌+◌, ◌<◌, ◌≤◌, true, false, sym, refl, ap, ◌∙◌, subst, ⊎_elim, arith}
use Rattle.std.proofs.lemmas.Bool.{cases_lt, cases_eq, cond-true, cond-false, or_left, or_right, and_from, and_left, and_right}
use Rattle.protocol.specs.Cells.{Content, empty, holds, is_occupied, updated}
use Rattle.protocol.specs.Stages.{Inserted, Found, Full}
use Rattle.protocol.specs.Step.{Ordering, before, same, after, is, versus}
use Rattle.protocol.specs.OneWorker.{is_less, is_equal, is_greater, all_occupied, empty_left, empty_right, lower, equal, higher, has, slide_left, slide_right, starts_right, from_side, between, unless_full, unless_found, unless_home, one_worker}
use Rattle.protocol.proofs.Lawful.{Lawful, order_refl, versus_is}
use Rattle.protocol.proofs.Updates.{updated_at, updated_other}
use Rattle.protocol.proofs.Sorted.{Sorted}

module _ {K : Type 0} where
  -- the keys from suc b to r - 1 went one up, k stands at suc b
  pub record SlidUp (S S' : ℕ → Content K) (k : K) (b r : ℕ) : Type 0 where
    pub gap : S' (suc b) ≡ holds k
    pub under : (p : ℕ) → p ≤ b → S' p ≡ S p
    pub above : (p : ℕ) → r < p → S' p ≡ S p
    pub moved : (p : ℕ) → b < p → p < r → S' (suc p) ≡ S p

  pub record SlidDown (S S' : ℕ → Content K) (k : K) (l f : ℕ) : Type 0 where
    pub gap : S' f ≡ holds k
    pub under : (p : ℕ) → p < l → S' p ≡ S p
    pub above : (p : ℕ) → f < p → S' p ≡ S p
    pub moved : (p : ℕ) → l ≤ p → p < f → S' p ≡ S (suc p)

  empty_unoccupied : {c : Content K} → c ≡ empty → is_occupied c ≡ false
  empty_unoccupied e = ap is_occupied e

  pub empty_left_is : (S : ℕ → Content K) (l h : ℕ) → l < h → S l ≡ empty → ((p : ℕ) → l < p → p < h → is_occupied (S p) ≡ true) → empty_left S h ≡ l
  unfolding empty_left
  empty_left_is S l zero lt e o = absurd (omega arith)
  empty_left_is S l (suc h) lt e o =
      ⊎_elim (λ (q : l ≡ h). cond-false (is_occupied (S h)) (empty_left S h) h (empty_unoccupied (subst (λ i. S i ≡ empty) q e)) ∙ sym q)
      (λ n.
      cond-true (is_occupied (S h)) (empty_left S h) h (o h (omega arith) (omega arith))
      ∙ empty_left_is S l h (omega arith) e (λ p a b. o p a (omega arith)))
      (cases_eq l h)

  pub empty_right_is : (n : ℕ) (S : ℕ → Content K) (h r : ℕ) → h ≤ r → r ≤ h + n → S r ≡ empty → ((p : ℕ) → h ≤ p → p < r → is_occupied (S p) ≡ true)
      → empty_right S n h ≡ r
  unfolding empty_right
  empty_right_is zero S h r le to e o = omega arith
  empty_right_is (suc n) S h r le to e o =
      ⊎_elim (λ (q : r ≡ h). cond-false (is_occupied (S h)) (empty_right S n (suc h)) h (empty_unoccupied (subst (λ i. S i ≡ empty) q e)) ∙ sym q)
      (λ x.
      cond-true (is_occupied (S h)) (empty_right S n (suc h)) h (o h (omega arith) (omega arith))
      ∙ empty_right_is n S (suc h) r (omega arith) (omega arith) e (λ p a b. o p (omega arith) b))
      (cases_eq r h)

  pub all_true : (n : ℕ) (S : ℕ → Content K) → ((p : ℕ) → 0 < p → p ≤ n → is_occupied (S p) ≡ true) → all_occupied n S ≡ true
  unfolding all_occupied
  all_true zero S o = refl
  all_true (suc n) S o =
      and_from (is_occupied (S (suc n))) (all_occupied n S) (o (suc n) (omega arith) (omega arith)) (all_true n S (λ p a b. o p a (omega arith)))

  pub all_false : (n : ℕ) (S : ℕ → Content K) (e : ℕ) → 0 < e → e ≤ n → S e ≡ empty → all_occupied n S ≡ false
  unfolding all_occupied
  all_false zero S e a b h = absurd (omega arith)
  all_false (suc n) S e a b h =
      ⊎_elim (λ (q : e ≡ suc n). and_left (is_occupied (S (suc n))) (all_occupied n S) (empty_unoccupied (subst (λ i. S i ≡ empty) q h)))
      (λ x. and_right (is_occupied (S (suc n))) (all_occupied n S) (all_false n S e a (omega arith) h))
      (cases_eq e (suc n))

module _ {K : Type 0} {N : ℕ} (κ : Lawful K N) where
  pub is_higher : (k : K) (x : Content K) → versus κ.kind k x ≡ is after → higher κ.kind k x ≡ true
  is_higher k x v = let y = versus_is κ k x after v in ap (higher κ.kind k) y.1 ∙ ap is_greater y.2

  pub is_lower : (k : K) (x : Content K) → versus κ.kind k x ≡ is before → lower κ.kind k x ≡ true
  is_lower k x v = let y = versus_is κ k x before v in ap (lower κ.kind k) y.1 ∙ ap is_less y.2

  slide_left_stop : (S : ℕ → Content K) (k : K) (g : ℕ) → higher κ.kind k (S g) ≡ false
      → slide_left κ.kind S k (suc g) ≡ updated S (suc g) (holds k)
  unfolding slide_left
  slide_left_stop S k g e = cond-false (higher κ.kind k (S g)) (slide_left κ.kind (updated S (suc g) (S g)) k g) (updated S (suc g) (holds k)) e

  slide_left_more : (S : ℕ → Content K) (k : K) (g : ℕ) → higher κ.kind k (S g) ≡ true
      → slide_left κ.kind S k (suc g) ≡ slide_left κ.kind (updated S (suc g) (S g)) k g
  unfolding slide_left
  slide_left_more S k g e = cond-true (higher κ.kind k (S g)) (slide_left κ.kind (updated S (suc g) (S g)) k g) (updated S (suc g) (holds k)) e

  pub slid_up : (r : ℕ) (S : ℕ → Content K) (k : K) (b : ℕ) → b < r → ((q : ℕ) → b < q → q < r → higher κ.kind k (S q) ≡ true)
      → higher κ.kind k (S b) ≡ false → SlidUp S (slide_left κ.kind S k r) k b r
  slid_up zero S k b lt f s = absurd (omega arith)
  slid_up (suc r) S k b lt f s =
      ⊎_elim
      (λ (e : b ≡ r). rw (slide_left_stop S k r (subst (λ i. higher κ.kind k (S i) ≡ false) e s)) (record {
        gap = updated_at S (suc r) (suc b) (holds k) (omega arith);
        under = λ p a. updated_other S (suc r) p (holds k) (omega arith);
        above = λ p a. updated_other S (suc r) p (holds k) (omega arith);
        moved = λ p a c. absurd (omega arith);
      }))
      (λ n. let S₁ = updated S (suc r) (S r) in
      let other : (q : ℕ) → q ≤ r → S₁ q ≡ S q = λ q a. updated_other S (suc r) q (S r) (omega arith) in
      let ih = slid_up r S₁ k b (omega arith) (λ q a c. rw (other q (omega arith)) (f q a (omega arith))) (rw (other b (omega arith)) s) in
      rw (slide_left_more S k r (f r (omega arith) (omega arith))) (record {
        gap = ih.gap;
        under = λ p a. ih.under p a ∙ other p (omega arith);
        above = λ p a. ih.above p (omega arith) ∙ updated_other S (suc r) p (S r) (omega arith);
        moved =
            λ p a c.
            ⊎_elim
            (λ (e : p ≡ r). ih.above (suc p) (omega arith) ∙ updated_at S (suc r) (suc p) (S r) (omega arith) ∙ ap S (sym e))
            (λ n'. ih.moved p a (omega arith) ∙ other p (omega arith)) (cases_eq p r);
      }))
      (cases_eq b r)

  slide_right_stop : (n : ℕ) (S : ℕ → Content K) (k : K) (g : ℕ) → lower κ.kind k (S (suc g)) ≡ false
      → slide_right κ.kind n S k g ≡ updated S g (holds k)
  unfolding slide_right
  slide_right_stop zero S k g e = refl
  slide_right_stop (suc n) S k g e =
      cond-false (lower κ.kind k (S (suc g))) (slide_right κ.kind n (updated S g (S (suc g))) k (suc g)) (updated S g (holds k)) e

  slide_right_more : (n : ℕ) (S : ℕ → Content K) (k : K) (g : ℕ) → lower κ.kind k (S (suc g)) ≡ true
      → slide_right κ.kind (suc n) S k g ≡ slide_right κ.kind n (updated S g (S (suc g))) k (suc g)
  unfolding slide_right
  slide_right_more n S k g e =
      cond-true (lower κ.kind k (S (suc g))) (slide_right κ.kind n (updated S g (S (suc g))) k (suc g)) (updated S g (holds k)) e

  stopped_down : (n : ℕ) (S : ℕ → Content K) (k : K) (l f : ℕ) → f ≡ l → lower κ.kind k (S (suc f)) ≡ false
      → SlidDown S (slide_right κ.kind n S k l) k l f
  stopped_down n S k l f e s = rw (slide_right_stop n S k l (subst (λ i. lower κ.kind k (S (suc i)) ≡ false) e s)) (record {
    gap = updated_at S l f (holds k) (omega arith);
    under = λ p a. updated_other S l p (holds k) (omega arith);
    above = λ p a. updated_other S l p (holds k) (omega arith);
    moved = λ p a c. absurd (omega arith);
  })

  pub slid_down : (n : ℕ) (S : ℕ → Content K) (k : K) (l f : ℕ) → l ≤ f → f ≤ l + n → ((q : ℕ) → l < q → q ≤ f → lower κ.kind k (S q) ≡ true)
      → lower κ.kind k (S (suc f)) ≡ false → SlidDown S (slide_right κ.kind n S k l) k l f
  slid_down zero S k l f le to h s = stopped_down zero S k l f (omega arith) s
  slid_down (suc n) S k l f le to h s =
      ⊎_elim
      (λ (e : f ≡ l). stopped_down (suc n) S k l f e s)
      (λ x. let S₁ = updated S l (S (suc l)) in
      let other : (q : ℕ) → l < q → S₁ q ≡ S q = λ q a. updated_other S l q (S (suc l)) (omega arith) in
      let ih = slid_down n S₁ k (suc l) f (omega arith) (omega arith)
      (λ q a c. rw (other q (omega arith)) (h q (omega arith) c)) (rw (other (suc f) (omega arith)) s)
      in
      rw (slide_right_more n S k l (h (suc l) (omega arith) (omega arith))) (record {
        gap = ih.gap;
        under = λ p a. ih.under p (omega arith) ∙ updated_other S l p (S (suc l)) (omega arith);
        above = λ p a. ih.above p a ∙ other p (omega arith);
        moved =
            λ p a c.
            ⊎_elim
            (λ (e : p ≡ l). ih.under p (omega arith) ∙ updated_at S l p (S (suc l)) (omega arith) ∙ ap (λ i. S (suc i)) (sym e))
            (λ n'. ih.moved p (omega arith) c ∙ other (suc p) (omega arith)) (cases_eq p l);
      }))
      (cases_eq f l)

  not_same : (k : K) (c : Content K) → (c ≡ holds k → ⊥) → equal κ.kind k c ≡ false
  not_same k empty a = refl
  not_same k (holds x) a = go (κ.kind.order x k) refl
    where
      go : (o : Ordering) → κ.kind.order x k ≡ o → is_equal o ≡ false
      go before e = refl
      go same e = absurd (a (ap holds (κ.order_same x k e)))
      go after e = refl

  is_there : (k : K) (c : Content K) → c ≡ holds k → equal κ.kind k c ≡ true
  is_there k c e = ap (λ x. equal κ.kind k x) e ∙ ap (λ o. is_equal o) (order_refl κ k)

  has_true : (n : ℕ) (S : ℕ → Content K) (k : K) (q : ℕ) → 0 < q → q ≤ n → S q ≡ holds k → has κ.kind n S k ≡ true
  unfolding has
  has_true zero S k q a b e = absurd (omega arith)
  has_true (suc n) S k q a b e =
      ⊎_elim
      (λ (z : q ≡ suc n). or_left (equal κ.kind k (S (suc n))) (has κ.kind n S k) (is_there k (S (suc n)) (subst (λ i. S i ≡ holds k) z e)))
      (λ x. or_right (equal κ.kind k (S (suc n))) (has κ.kind n S k) (has_true n S k q a (omega arith) e))
      (cases_eq q (suc n))

  has_false : (n : ℕ) (S : ℕ → Content K) (k : K) → ((q : ℕ) → S q ≡ holds k → ⊥) → has κ.kind n S k ≡ false
  unfolding has
  has_false zero S k a = refl
  has_false (suc n) S k a = rw (not_same k (S (suc n)) (a (suc n))) (has_false n S k a)

  pub worker_home : (S : ℕ → Content K) (k : K) → S (κ.kind.place k) ≡ empty
      → one_worker κ.kind S k ≡ (updated S (κ.kind.place k) (holds k), Inserted)
  unfolding one_worker
  worker_home S k e = ap (λ b. unless_home κ.kind b S k) (empty_unoccupied e)

  pub worker_found : (S : ℕ → Content K) (k : K) (q : ℕ) → Sorted κ S → S q ≡ holds k → 0 < q → q ≤ N → one_worker κ.kind S k ≡ (S, Found)
  unfolding one_worker
  worker_found S k q ok e a b =
      let o : is_occupied (S (κ.kind.place k)) ≡ true = ⊎_elim
      (λ (c : κ.kind.place k < q). ok.down q (κ.kind.place k) k e (omega arith) (omega arith))
      (λ c. ok.up q (κ.kind.place k) k e c (omega arith)) (cases_lt (κ.kind.place k) q)
      in
      ap (λ b. unless_home κ.kind b S k) o ∙ ap (λ b. unless_found κ.kind b S k) (has_true N S k q a b e)

  pub worker_full : (S : ℕ → Content K) (k : K) → ((q : ℕ) → S q ≡ holds k → ⊥) → ((p : ℕ) → 0 < p → p ≤ N → is_occupied (S p) ≡ true)
      → one_worker κ.kind S k ≡ (S, Full)
  unfolding one_worker
  worker_full S k a o =
      ap (λ b. unless_home κ.kind b S k) (o (κ.kind.place k) (κ.place_low k) (κ.place_high k))
      ∙ ap (λ b. unless_found κ.kind b S k) (has_false N S k a)
      ∙ ap (λ b. unless_full κ.kind b S k) (all_true N S o)

  pub worker_gap : (S : ℕ → Content K) (k : K) (l r e : ℕ) → ((q : ℕ) → S q ≡ holds k → ⊥) → 0 < e → e ≤ N → S e ≡ empty → l < κ.kind.place k
      → κ.kind.place k < r → r ≤ suc N → S l ≡ empty → S r ≡ empty → ((p : ℕ) → l < p → p < r → is_occupied (S p) ≡ true)
      → one_worker κ.kind S k ≡ from_side κ.kind (starts_right κ.kind S k l r) S k l r
  unfolding one_worker
  worker_gap S k l r e a e0 e1 ee lh hr top el er o =
      let h0 = κ.place_low k in
      ap (λ b. unless_home κ.kind b S k) (o (κ.kind.place k) lh hr)
      ∙ ap (λ b. unless_found κ.kind b S k) (has_false N S k a)
      ∙ ap (λ b. unless_full κ.kind b S k) (all_false N S e e0 e1 ee)
      ∙ ap (λ x. between κ.kind S k x (empty_right S N (κ.kind.place k))) (empty_left_is S l (κ.kind.place k) lh el (λ p b c. o p b (omega arith)))
      ∙ ap (λ x. between κ.kind S k l x) (empty_right_is N S (κ.kind.place k) r (omega arith) (omega arith) er (λ p b c. o p (omega arith) c))
