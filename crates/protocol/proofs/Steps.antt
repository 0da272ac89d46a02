-- The steps that change no key, and the entry at home.
use Rattle.std.proofs.Common.{◌≡◌, ℕ, suc, pred, ◌<◌, ◌≤◌, Bool, true, false, cond, leb, ◌≢◌, sym, refl, ap, ◌∙◌, subst, inl, inr, ⊎_elim, arith}
use Rattle.std.proofs.lemmas.Bool.{cases_lt, cases_eq, both_ways}
use Rattle.protocol.specs.Cells.{Content, empty, holds, Rest, Write, cell, is_occupied, updated}
use Rattle.protocol.specs.Stages.{Answer, Inserted, Found, Leftward, Rightward, Stage, Idle, Home, Look, Left, Right, FirstMark, SecondMark, GiveBack, Check, Shift, ReleaseLeft, ReleaseRight, Answered}
use Rattle.protocol.specs.Step.{before, same, after, Ended, Onward, took, Decision, Versus, none, is, walk_at, decided, at_home, at_look, at_left, at_right, at_first, release, versus, decide}
use Rattle.protocol.specs.OneWorker.{one_worker}
use Rattle.protocol.proofs.Lawful.{Lawful, by_place, versus_none, versus_same, versus_occupied}
use Rattle.protocol.proofs.Updates.{updated_same, updated_at, updated_other, not_both, holds_occupied, unoccupied_empty}
use Rattle.protocol.proofs.Sorted.{home_left, home_right, inside, More, more_sorted}
use Rattle.protocol.proofs.Worker.{worker_home, worker_found}
use Rattle.protocol.proofs.Holding.{holder, no_cell, one_here, one_elsewhere, one_edge, left_here, without_left, edge_left}
use Rattle.protocol.proofs.State.{contents_after, marks_after}
use Rattle.protocol.proofs.Invariant.{Owner, owners_after, Keeps, InShift, Solid, table_after, RightAnswer, answer_same, answer_new, Region, Good, Core, region_mark, marked_by, make, still, own, marking, unmarking}
use Rattle.protocol.proofs.Regions.{good_at, around, relied, clear}

module _ {K : Type 0} {N : ℕ} (κ : Lawful K N) {T : ℕ → Content K} {M : ℕ → Bool} {O : ℕ → Owner} {ky : ℕ → K} {st : ℕ → Stage} {S : ℕ → Content K} (c : Core κ T M O ky st S) (s : ℕ) where
  abbrev pub Done : Decision K → Type 0
  Done m =
      Core κ (contents_after m.act T) (marks_after m.act M) (owners_after s m.act O) ky
      (updated st s m.next) (table_after κ (ky s) m.effect S) × RightAnswer
      κ (ky s) m.effect S

  -- a key in a cell is in the table
  pub in_table : (p : ℕ) (x : K) → T p ≡ holds x → (q : ℕ) × (S q ≡ holds x)
  in_table p x h = ⊎_elim (λ e. (p, e ∙ h)) (λ i. go i.0 (st i.0) refl i.1) (c.agree p)
    where
      go : (t : ℕ) (y : Stage) → st t ≡ y → InShift y p → (q : ℕ) × (S q ≡ holds x)
      go t Idle e i = absurd i
      go t Home e i = absurd i
      go t (Look q) e i = absurd i
      go t (Left q) e i = absurd i
      go t (Right l q) e i = absurd i
      go t (FirstMark l r) e i = absurd i
      go t (SecondMark l r) e i = absurd i
      go t (GiveBack g) e i = absurd i
      go t (Check l r q) e i = absurd i
      go t (Shift Leftward l r g) e i =
          let d = good_at κ c t (Shift Leftward l r g) e in
          ⊎_elim
          (λ (a : suc g < p). let z : suc (pred p) ≡ p = omega arith in (pred p, d.moved (pred p) (omega arith) (omega arith) ∙ ap T z ∙ h))
          (λ a. (p, d.kept p i.0 a ∙ h)) (cases_lt (suc g) p)
      go t (Shift Rightward l r g) e i =
          let d = good_at κ c t (Shift Rightward l r g) e in
          ⊎_elim (λ (a : p < suc g). (suc p, d.moved p i.0 a ∙ h)) (λ a. (p, d.kept p a i.1 ∙ h)) (cases_lt p (suc g))
      go t (ReleaseLeft l r a) e i = absurd i
      go t (ReleaseRight r a) e i = absurd i
      go t (Answered a) e i = absurd i

  -- an effect that leaves the table
  pub answer_kept : (x next : Stage) (a : Answer) → st s ≡ x → ((p : ℕ) → holder N next p ≡ holder N x p) → ((p : ℕ) → InShift x p → InShift next p)
      → Good κ T M S (ky s) next → one_worker κ.kind S (ky s) ≡ (S, a) → (a ≡ Inserted → ⊥) → Done (decided Rest next (took a))
  answer_kept x next a e ho sh gd w ni =
      (subst (λ X. Core κ T M O ky (updated st s next) X) (sym (ap (λ z. z.0) w)) (still κ c s x next e ho sh gd), answer_same κ (ky s) S a w ni)

  pub found_at : (x next : Stage) (p : ℕ) → st s ≡ x → ((p : ℕ) → holder N next p ≡ holder N x p) → ((p : ℕ) → InShift x p → InShift next p)
      → Good κ T M S (ky s) next → T p ≡ holds (ky s) → Done (decided Rest next (took Found))
  found_at x next p e ho sh gd h =
      let q = in_table p (ky s) h in let i = inside κ c.sorted q.0 (ky s) q.1 in
      answer_kept x next Found e ho sh gd
      (worker_found κ S (ky s) q.0 c.sorted q.1 i.0 i.1) (λ z. let n : ◌≡◌ {A = ℕ} 0 1 = cc in omega arith)

  -- the entry at home
  home_put : st s ≡ Home → M (κ.kind.place (ky s)) ≡ false → T (κ.kind.place (ky s)) ≡ empty
      → Done (decided (Write (κ.kind.place (ky s)) (ky s)) (Answered Inserted) (took Inserted))
  home_put e um em = (
    subst (λ X. Core κ T' M O ky (updated st s (Answered Inserted)) X) (sym (ap (λ z. z.0) w)) core,
    answer_new κ k S S' w
        (λ x p z. (p, updated_other S h p (holds k) (λ y. not_both (ap S (sym y) ∙ s_empty) (holds_occupied z)) ∙ z))
        h (updated_same S h (holds k)),
  )
    where
      k : K
      k = ky s

      h : ℕ
      h = κ.kind.place k

      a : 0 < h
      a = κ.place_low k

      b : h ≤ N
      b = κ.place_high k

      T' : ℕ → Content K
      T' = updated T h (holds k)

      S' : ℕ → Content K
      S' = updated S h (holds k)

      free_of : (t : ℕ) → Keeps (st t) h → ⊥
      free_of t i =
          ⊎_elim (λ o. both_ways (M h) um (marked_by κ c h t (o a b)))
          (λ f. clear κ c t f.0 f.1 h f.2 em um a b f.3 f.4) (relied κ c t h i)

      not_shift : (t : ℕ) → InShift (st t) h → ⊥
      not_shift t i = let f = around κ c t h i in clear κ c t f.l f.r h f.closed_region em um a b f.l_p f.p_r

      s_empty : S h ≡ empty
      s_empty = ⊎_elim (λ z. z ∙ em) (λ i. absurd (not_shift i.0 i.1)) (c.agree h)

      w : one_worker κ.kind S k ≡ (S', Inserted)
      w = worker_home κ S k s_empty

      s_other : (p : ℕ) (x : K) → h ≢ p → S' p ≡ holds x → S p ≡ holds x
      s_other p x n z = sym (updated_other S h p (holds k) n) ∙ z

      more : More κ S S' k h (λ p q. q ≡ p)
      more = record {
        at_gap = updated_same S h (holds k);
        from = λ p n. (p, refl, updated_other S h p (holds k) (λ z. n (sym z)));
        mono = λ p q i j lt x y. omega arith;
        near = λ p i x. omega arith;
        grown =
            λ q o.
            ⊎_elim (λ (z : h ≡ q). holds_occupied (updated_at S h q (holds k) z))
            (λ n. ap is_occupied (updated_other S h q (holds k) n) ∙ o) (cases_eq h q);
        below = λ p x lt z. by_place κ x k (home_left κ c.sorted h p x s_empty lt (s_other p x (omega arith) z));
        above = λ p x lt z. by_place κ k x (home_right κ c.sorted h p x s_empty lt (s_other p x (omega arith) z));
        rise = λ q x y. holds_occupied (updated_at S h q (holds k) (omega arith));
        fall = λ q x y. holds_occupied (updated_at S h q (holds k) (omega arith));
        low = updated_other S h 0 (holds k) (omega arith) ∙ c.sorted.low;
        high = λ p z. updated_other S h p (holds k) (omega arith) ∙ c.sorted.high p z;
      }

      core : Core κ T' M O ky (updated st s (Answered Inserted)) S'
      core = make κ c s T' M O S' (Answered Inserted)
          (updated_other T h 0 (holds k) (omega arith) ∙ c.edge_low)
          (λ p z. updated_other T h p (holds k) (omega arith) ∙ c.edge_high p z)
          (λ p. ap (λ y. holder N y p) (sym e) ∙ c.owned s p) (λ t p n. refl) c.marks
          (λ p z. (
            z.0,
            ⊎_elim (λ (y : h ≡ p). holds_occupied (updated_at T h p (holds k) y))
                (λ n. ap is_occupied (updated_other T h p (holds k) n) ∙ z.1) (cases_eq h p),
          ))
          (λ t p n z.
          let ne : h ≢ p = λ y. free_of t (subst (λ i. Keeps (st t) i) (sym y) z) in
          (updated_other T h p (holds k) ne, updated_other S h p (holds k) ne))
          tt
          (λ p. ⊎_elim (λ (y : h ≡ p). inl (updated_at S h p (holds k) y ∙ sym (updated_at T h p (holds k) y)))
          (λ n. ⊎_elim (λ z. inl (updated_other S h p (holds k) n ∙ z ∙ sym (updated_other T h p (holds k) n)))
          (λ i. ⊎_elim (λ (q : s ≡ i.0). absurd (subst (λ y. InShift y p) (ap st (sym q) ∙ e) i.1)) (λ n'. inr (inl (i.0, n', i.1))) (cases_eq s i.0)) (c.agree p))
          (cases_eq h p))
          (more_sorted κ c.sorted more)

  pub home_step : st s ≡ Home → Done (decide κ.kind (ky s) Home T M)
  home_step e = go (M (κ.kind.place (ky s))) (versus κ.kind (ky s) (T (κ.kind.place (ky s)))) refl refl
    where
      go : (b : Bool) (v : Versus) → M (κ.kind.place (ky s)) ≡ b → versus κ.kind (ky s) (T (κ.kind.place (ky s))) ≡ v
          → Done (at_home (ky s) (κ.kind.place (ky s)) b v)
      go true v m z = (still κ c s Home Home e (λ p. refl) (λ p i. i) tt, tt)
      go false none m z = home_put e m (versus_none κ (ky s) (T (κ.kind.place (ky s))) z)
      go false (is same) m z =
          found_at Home (Answered Found) (κ.kind.place (ky s)) e (λ p. refl) (λ p i. i) tt (versus_same κ (ky s) (T (κ.kind.place (ky s))) z)
      go false (is after) m z = (
        still κ c s Home (Look (pred (κ.kind.place (ky s)))) e (λ p. refl) (λ p i. i)
            (m, versus_occupied κ (ky s) (T (κ.kind.place (ky s))) after z),
        tt,
      )
      go false (is before) m z = (
        still κ c s Home (Look (suc (κ.kind.place (ky s)))) e (λ p. refl) (λ p i. i)
            (m, versus_occupied κ (ky s) (T (κ.kind.place (ky s))) before z),
        tt,
      )

  pub look_step : (p : ℕ) → st s ≡ Look p → Done (decide κ.kind (ky s) (Look p) T M)
  look_step p e = go (versus κ.kind (ky s) (T p)) refl
    where
      h : ℕ
      h = κ.kind.place (ky s)

      g : Solid T M h
      g = good_at κ c s (Look p) e

      ended : Done (at_look h Ended)
      ended =
          let a = κ.place_low (ky s) in (
            still κ c s (Look p) (Left (pred h)) e (λ q. refl) (λ q i. i)
                (omega arith, λ q x y. subst (λ i. Solid T M i) (let z : h ≡ q = omega arith in z) g),
            tt,
          )

      on_to : (q : ℕ) → Done (at_look h (Onward q))
      on_to q = (still κ c s (Look p) (Look q) e (λ q. refl) (λ q i. i) g, tt)

      go : (v : Versus) → versus κ.kind (ky s) (T p) ≡ v → Done (at_look h (walk_at h p v))
      go none z = ended
      go (is same) z = found_at (Look p) (Answered Found) p e (λ p. refl) (λ p i. i) tt (versus_same κ (ky s) (T p) z)
      go (is after) z = by_test (leb p h)
        where
          by_test : (b : Bool) → Done (at_look h (cond b (Onward (pred p)) Ended))
          by_test true = on_to (pred p)
          by_test false = ended
      go (is before) z = by_test (leb h p)
        where
          by_test : (b : Bool) → Done (at_look h (cond b (Onward (suc p)) Ended))
          by_test true = on_to (suc p)
          by_test false = ended

  pub left_step : (p : ℕ) → st s ≡ Left p → Done (decide κ.kind (ky s) (Left p) T M)
  left_step p e = go (M p) (is_occupied (T p)) refl refl
    where
      h : ℕ
      h = κ.kind.place (ky s)

      g : Good κ T M S (ky s) (Left p)
      g = good_at κ c s (Left p) e

      go : (b o : Bool) → M p ≡ b → is_occupied (T p) ≡ o → Done (at_left h p b o)
      go true o m z = (still κ c s (Left p) Home e (λ q. refl) (λ q i. i) tt, tt)
      go false true m z = (
        still κ c s (Left p) (Left (pred p)) e (λ q. refl) (λ q i. i) (
          let a = g.0 in omega arith,
          λ q x y. ⊎_elim (λ (i : p ≡ q). subst (λ j. Solid T M j) i (m, z)) (λ n. g.1 q (omega arith) y) (cases_eq p q),
        ),
        tt,
      )
      go false false m z = (still κ c s (Left p) (Right p (suc h)) e (λ q. refl) (λ q i. i) (g.0, omega arith, λ q x y. g.1 q x (omega arith)), tt)

  pub right_step : (l p : ℕ) → st s ≡ Right l p → Done (decide κ.kind (ky s) (Right l p) T M)
  right_step l p e = go (M p) (is_occupied (T p)) refl refl
    where
      h : ℕ
      h = κ.kind.place (ky s)

      g : Good κ T M S (ky s) (Right l p)
      g = good_at κ c s (Right l p) e

      go : (b o : Bool) → M p ≡ b → is_occupied (T p) ≡ o → Done (at_right l p b o)
      go true o m z = (still κ c s (Right l p) Home e (λ q. refl) (λ q i. i) tt, tt)
      go false true m z = (
        still κ c s (Right l p) (Right l (suc p)) e (λ q. refl) (λ q i. i) (
          g.0,
          (let a = g.1 in omega arith),
          λ q x y. ⊎_elim (λ (i : p ≡ q). subst (λ j. Solid T M j) i (m, z)) (λ n. g.2 q x (omega arith)) (cases_eq p q),
        ),
        tt,
      )
      go false false m z =
          let high = κ.place_high (ky s) in
          let top : p ≤ suc N = ⊎_elim
          (λ (a : suc N < p). let b = g.0 in absurd (not_both (c.edge_high (suc N) (omega arith)) (g.2 (suc N) (omega arith) a).1))
          (λ a. a) (cases_lt (suc N) p) in
          (still κ c s (Right l p) (FirstMark l p) e (λ q. refl) (λ q i. i) (record { l_h = g.0; h_r = g.1; top = top; solid = g.2 }), tt)

  pub first_step : (l r : ℕ) → st s ≡ FirstMark l r → Done (decide κ.kind (ky s) (FirstMark l r) T M)
  first_step l r e = go (cell N l) (M l) (is_occupied (T l)) refl refl refl
    where
      g : Region κ T M (ky s) l r
      g = good_at κ c s (FirstMark l r) e

      go : (x b o : Bool) → cell N l ≡ x → M l ≡ b → is_occupied (T l) ≡ o → Done (at_first l r x b o)
      go false b o x m z =
          let empty-edge : T l ≡ empty = ⊎_elim (λ y. ap T y ∙ c.edge_low) (λ y. c.edge_high l y) (no_cell N l x) in
          (still κ c s (FirstMark l r) (SecondMark l r) e (λ q. one_edge N l q x) (λ q i. i) (g, empty-edge), tt)
      go true true o x m z = (still κ c s (FirstMark l r) Home e (λ q. refl) (λ q i. i) tt, tt)
      go true false true x m z = (still κ c s (FirstMark l r) Home e (λ q. refl) (λ q i. i) tt, tt)
      go true false false x m z = (
        marking κ c s (FirstMark l r) (SecondMark l r) l e m (unoccupied_empty (T l) z) (λ q n. one_elsewhere N l q n)
            (one_here N l x) (λ q i. i) (region_mark κ l (unoccupied_empty (T l) z) g, unoccupied_empty (T l) z),
        tt,
      )

  pub back_step : (g : ℕ) → st s ≡ GiveBack g → Done (decide κ.kind (ky s) (GiveBack g) T M)
  back_step g e =
      let x = good_at κ c s (GiveBack g) e in (
        unmarking κ c s (GiveBack g) Home (suc g) e (own κ c s (GiveBack g) e (suc g) (one_here N (suc g) x))
            (λ q n. sym (one_elsewhere N (suc g) q n)) refl (λ q i. i) tt,
        tt,
      )

  pub unleft_step : (l r : ℕ) (a : Answer) → st s ≡ ReleaseLeft l r a → Done (decide κ.kind (ky s) (ReleaseLeft l r a) T M)
  unleft_step l r a e = go (cell N l) refl
    where
      go : (b : Bool) → cell N l ≡ b → Done (release l b (ReleaseRight r a))
      go true x = (
        unmarking κ c s (ReleaseLeft l r a) (ReleaseRight r a) l e
            (own κ c s (ReleaseLeft l r a) e l (left_here N l r x)) (λ q m. without_left N l r q m)
            (one_elsewhere N r l (let z = good_at κ c s (ReleaseLeft l r a) e in omega arith))
            (λ q i. i) tt,
        tt,
      )
      go false x = (still κ c s (ReleaseLeft l r a) (ReleaseRight r a) e (λ q. edge_left N l r q x) (λ q i. i) tt, tt)

  pub unright_step : (r : ℕ) (a : Answer) → st s ≡ ReleaseRight r a → Done (decide κ.kind (ky s) (ReleaseRight r a) T M)
  unright_step r a e = go (cell N r) refl
    where
      go : (b : Bool) → cell N r ≡ b → Done (release r b (Answered a))
      go true x = (
        unmarking κ c s (ReleaseRight r a) (Answered a) r e
            (own κ c s (ReleaseRight r a) e r (one_here N r x)) (λ q m. sym (one_elsewhere N r q m))
            refl (λ q i. i) tt,
        tt,
      )
      go false x = (still κ c s (ReleaseRight r a) (Answered a) e (λ q. sym (one_edge N r q x)) (λ q i. i) tt, tt)
