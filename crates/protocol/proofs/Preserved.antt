-- The invariant of a register with its log, kept by every change of a station.
use Rattle.std.proofs.Common.{◌≡◌, ℕ, Bool, true, false, cond, eqb, ◌≢◌, List, ◌∷◌, sym, refl, ap, ◌∙◌, subst, ⊎_elim, arith}
use mathlib.Core.Path.{fun_ext}
use Rattle.std.proofs.lemmas.Bool.{cases_eq, both_ways, eq-eqb, ne_eqb, eqb-true, cond-true, cond-false}
use Rattle.protocol.specs.declared.Station.{Station}
use Rattle.protocol.specs.Cells.{Content, holds, updated}
use Rattle.protocol.specs.Stages.{Answer, Leftward, Rightward, Stage, Idle, Home, Look, Left, Right, FirstMark, SecondMark, GiveBack, Check, Shift, ReleaseLeft, ReleaseRight, Answered, Standing, resting, homing, under_way, done, standing, busy, settled_by, settled, held_by, holds_mark}
use Rattle.protocol.specs.Step.{Effect, nothing, took, Decision, decide}
use Rattle.protocol.specs.Calls.{fresh, idled, leaving, stepped_record}
use Rattle.protocol.specs.Turns.{noted, watched}
use Rattle.protocol.specs.OneWorker.{one_worker, table, Alike}
use Rattle.protocol.specs.Safety.{WasNew, now_new, earlier, NewOnce}
use Rattle.protocol.proofs.Lawful.{Lawful}
use Rattle.protocol.proofs.Updates.{updated_same, updated_at, updated_other}
use Rattle.protocol.proofs.Sorted.{Sorted, inside}
use Rattle.protocol.proofs.Worker.{worker_found}
use Rattle.protocol.proofs.Standings.{Means, stage_is}
use Rattle.protocol.proofs.Holding.{holder, no_holder}
use Rattle.protocol.proofs.State.{State, contents_after, marks_after, with_station, stepped}
use Rattle.protocol.proofs.Invariant.{Owner, free, by, taken, is_by, owners_after, InShift, is_by_self, table_after, RightAnswer, Good, Core, still}
use Rattle.protocol.proofs.Regions.{good_at, around}
use Rattle.protocol.proofs.Steps.{Done, home_step, look_step, left_step, right_step, first_step, back_step, unleft_step, unright_step}
use Rattle.protocol.proofs.Checks.{second_step, check_step}
use Rattle.protocol.proofs.Shifts.{left_shift_step, right_shift_step}

-- a field of updated values
pub updated_field : {A B : Type 0} (f : A → B) (g : ℕ → A) (s : ℕ) (a : A) → (λ t. f (updated g s a t)) ≡ updated (λ t. f (g t)) s (f a)
updated_field f g s a = fun_ext (λ t. go t (eqb s t))
  where
    go : (t : ℕ) (b : Bool) → f (cond b a (g t)) ≡ cond b (f a) (f (g t))
    go t true = refl
    go t false = refl

updated_self : {A : Type 0} (g : ℕ → A) (s : ℕ) (a : A) → a ≡ g s → updated g s a ≡ g
updated_self g s a e = fun_ext (λ t. ⊎_elim (λ (z : s ≡ t). updated_at g s t a z ∙ e ∙ ap g z) (λ n. updated_other g s t a n) (cases_eq s t))

pub updated_twice : {A : Type 0} (g : ℕ → A) (s : ℕ) (a b : A) → updated (updated g s a) s b ≡ updated g s b
updated_twice g s a b = fun_ext (λ t. go t (eqb s t))
  where
    go : (t : ℕ) (c : Bool) → cond c b (cond c a (g t)) ≡ cond c b (g t)
    go t true = refl
    go t false = refl

-- what a step notes of the marks is who owns them
watched_owner : (s : ℕ) (o o' : Owner) → ((t : ℕ) → s ≢ t → is_by t o ≡ is_by t o') → watched (taken o) (taken o') (is_by s o) ≡ is_by s o'
watched_owner s free free h = refl
watched_owner s free (by t) h = ⊎_elim (λ (e : s ≡ t). sym (eq-eqb s t e)) (λ n. absurd (both_ways false refl (h t n ∙ is_by_self t))) (cases_eq s t)
watched_owner s (by t) free h = refl
watched_owner s (by t) (by u) h =
    ⊎_elim
    (λ (e : s ≡ t).
    ⊎_elim (λ (f : s ≡ u). eq-eqb s t e ∙ sym (eq-eqb s u f))
    (λ n. absurd (both_ways (is_by u (by t)) (ne_eqb u t (λ z. n (e ∙ sym z))) (h u n ∙ is_by_self u)))
    (cases_eq s u))
    (λ n. ap (eqb s) (eqb-true t u (sym (h t n) ∙ is_by_self t)))
    (cases_eq s t)

module _ {K : Type 0} {N : ℕ} (κ : Lawful K N) where
  module _ {T : ℕ → Content K} {M : ℕ → Bool} {O : ℕ → Owner} {ky : ℕ → K} {st : ℕ → Stage} {S : ℕ → Content K} (c : Core κ T M O ky st S) (s : ℕ) where
    -- one step of s
    step_core : (x : Stage) → st s ≡ x → Done κ c s (decide κ.kind (ky s) x T M)
    step_core Idle e = (still κ c s Idle Idle e (λ p. refl) (λ p i. i) tt, tt)
    step_core Home e = home_step κ c s e
    step_core (Look p) e = look_step κ c s p e
    step_core (Left p) e = left_step κ c s p e
    step_core (Right l p) e = right_step κ c s l p e
    step_core (FirstMark l r) e = first_step κ c s l r e
    step_core (SecondMark l r) e = second_step κ c s l r e
    step_core (GiveBack g) e = back_step κ c s g e
    step_core (Check l r p) e = check_step κ c s l r p e
    step_core (Shift Leftward l r g) e = left_shift_step κ c s l r g e (good_at κ c s (Shift Leftward l r g) e)
    step_core (Shift Rightward l r g) e = right_shift_step κ c s l r g e (good_at κ c s (Shift Rightward l r g) e)
    step_core (ReleaseLeft l r a) e = unleft_step κ c s l r a e
    step_core (ReleaseRight r a) e = unright_step κ c s r a e
    step_core (Answered a) e = (still κ c s (Answered a) (Answered a) e (λ p. refl) (λ p i. i) tt, tt)

    same_stage : (x : Stage) → st s ≡ x → Core κ T M O ky (updated st s x) S
    same_stage x e = still κ c s x x e (λ p. refl) (λ p i. i) (good_at κ c s x e)

    -- a withdrawn station that becomes idle
    settle_core : (b : Bool) (x : Stage) → st s ≡ x → Core κ T M O ky (updated st s (settled b x)) S
    settle_core false x e = same_stage x e
    settle_core true x e = go (standing x) (stage_is x)
      where
        go : (y : Standing) → Means x y → Core κ T M O ky (updated st s (settled_by true y x)) S
        go resting t = same_stage Idle (e ∙ t)
        go homing t = still κ c s Home Idle (e ∙ t) (λ p. refl) (λ p i. i) tt
        go under_way t = same_stage x e
        go (done a) t = still κ c s (Answered a) Idle (e ∙ t) (λ p. refl) (λ p i. i) tt

    -- a stage that holds no mark is left
    no_shift : (x : Stage) → st s ≡ x → holds_mark N x ≡ false → (p : ℕ) → InShift x p → ⊥
    no_shift x e h p i =
        let a = around κ c s p (subst (λ y. InShift y p) (sym e) i) in
        let lh = a.closed_region.region.l_h in let hr = a.closed_region.region.h_r in let hN = κ.place_high (ky s) in
        let none : (q : ℕ) → O q ≡ by s → ⊥ = λ q o. both_ways false refl
        (no_holder N (held_by x) h q ∙ ap (λ y. holder N y q) (sym e) ∙ c.owned s q ∙ ap (is_by s) o ∙ is_by_self s)
        in
        ⊎_elim (λ z. none a.l (a.closed_region.own_l z)) (λ z. none a.r (a.closed_region.own_r z)) a.some_cell

    leave_core : (x : Stage) → st s ≡ x → holds_mark N x ≡ false → Core κ T M O ky (updated st s Idle) S
    leave_core x e h = still κ c s x Idle e (λ p. no_holder N (held_by x) h p) (λ p i. no_shift x e h p i) tt

    -- an idle station may have any key, and begin with it
    rekey_core : (k : K) (x : Stage) → st s ≡ Idle → ((p : ℕ) → holder N x p ≡ false) → ((y : K) → Good κ T M S y x) → Core κ T M O (updated ky s k) (updated st s x) S
    rekey_core k x e ho gd =
        let d = still κ c s Idle x e ho (λ p i. absurd i) (gd (ky s)) in
        record {
          edge_low = d.edge_low;
          edge_high = d.edge_high;
          owned = d.owned;
          marks = d.marks;
          agree = d.agree;
          sorted = d.sorted;
          good = λ t. ⊎_elim
              (λ (z : s ≡ t). subst (λ y. Good κ T M S (updated ky s k t) y) (sym (updated_at st s t x z)) (gd (updated ky s k t)))
              (λ n. subst (λ y. Good κ T M S y (updated st s x t)) (sym (updated_other ky s t k n)) (d.good t))
              (cases_eq s t);
        }

  core_ext : {T : ℕ → Content K} {M : ℕ → Bool} {O : ℕ → Owner} {ky ky' : ℕ → K} {st st' : ℕ → Stage} {S S' : ℕ → Content K}
      → ky ≡ ky' → st ≡ st' → S ≡ S' → Core κ T M O ky st S → Core κ T M O ky' st' S'
  core_ext {T} {M} {O} a b d c = subst (λ (z : (ℕ → K) × (ℕ → Stage) × (ℕ → Content K)). Core κ T M O z.0 z.1 z.2) (λ i. (a i, b i, d i)) c

  -- the invariant with the log: what is logged as held and unfinished is so, the answers are one worker's, and every new key is in the table
  pub record Inv (w : State K) : Type 0 where
    pub owner : ℕ → Owner
    pub core : Core κ w.contents w.marked owner (λ s. (w.station s).key) (λ s. (w.station s).stage) (table κ.kind w.effects)
    pub held_is : (s p : ℕ) → w.held s p ≡ is_by s (owner p)
    pub busy_is : (s : ℕ) → w.unfinished s ≡ busy (w.station s).stage
    pub alike : Alike κ.kind w.effects
    pub new_once : NewOnce w.effects
    pub new_in : (k : K) → WasNew k w.effects → (p : ℕ) × (table κ.kind w.effects p ≡ holds k)

  -- the log after an effect
  record Noted (es : List (K × Answer)) : Type 0 where
    alike : Alike κ.kind es
    new_once : NewOnce es
    new_in : (k : K) → WasNew k es → (p : ℕ) × (table κ.kind es p ≡ holds k)

  noting : (es : List (K × Answer)) (k : K) (e : Effect) → Sorted κ (table κ.kind es) → Noted es → RightAnswer κ k e (table κ.kind es)
      → Noted (noted k e es)
  unfolding table NewOnce Alike
  noting es k nothing ok n r = n
  noting es k (took a) ok n r =
      record {
        alike = (n.alike, r.0);
        new_once = (
          n.new_once,
          λ e h.
              let q = n.new_in k h in
              let i = inside κ ok q.0 k q.1 in
              let f = ap (λ z. z.1) (worker_found κ (table κ.kind es) k q.0 ok q.1 i.0 i.1) in
              let z : ◌≡◌ {A = ℕ} 0 1 = cc (sym f ∙ r.0 ∙ e) in omega arith,
        );
        new_in = λ x h. go x h;
      }
    where
      go : (x : K) → WasNew x ((k, a) ∷ es) → (p : ℕ) × ((one_worker κ.kind (table κ.kind es) k).0 p ≡ holds x)
      go x (now_new e) = r.2 e
      go x (earlier h) = let q = n.new_in x h in r.1 x q.0 q.1

  table_noted : (es : List (K × Answer)) (k : K) (e : Effect) → table_after κ k e (table κ.kind es) ≡ table κ.kind (noted k e es)
  unfolding table
  table_noted es k nothing = refl
  table_noted es k (took a) = refl

  module _ (w : State K) (i : Inv w) (s : ℕ) where
    pub with_inv : (t : Station K) (u : Bool)
        → Core κ w.contents w.marked i.owner (updated (λ t. (w.station t).key) s t.key)
        (updated (λ t. (w.station t).stage) s t.stage) (table κ.kind w.effects)
        → u ≡ busy t.stage → Inv (with_station w s t u)
    with_inv t u c b = record {
      owner = i.owner;
      core = core_ext (sym (updated_field (λ (x : Station K). x.key) w.station s t)) (sym (updated_field (λ (x : Station K). x.stage) w.station s t)) refl c;
      held_is = i.held_is;
      busy_is =
          λ r.
          ⊎_elim
          (λ (e : s ≡ r). updated_at w.unfinished s r u e ∙ b ∙ ap (λ x. busy x.stage) (sym (updated_at w.station s r t e)))
          (λ n. updated_other w.unfinished s r u n ∙ i.busy_is r ∙ ap (λ x. busy x.stage) (sym (updated_other w.station s r t n)))
          (cases_eq s r);
      alike = i.alike;
      new_once = i.new_once;
      new_in = i.new_in;
    }

    -- the key stays
    pub same_key : (x : Stage)
        → Core κ w.contents w.marked i.owner (λ t. (w.station t).key) (updated (λ t. (w.station t).stage) s x) (table κ.kind w.effects)
        → Core κ w.contents w.marked i.owner (updated (λ t. (w.station t).key) s (w.station s).key)
        (updated (λ t. (w.station t).stage) s x) (table κ.kind w.effects)
    same_key x c = core_ext (sym (updated_self (λ t. (w.station t).key) s (w.station s).key refl)) refl refl c

    pub rest_inv : (x : Stage) → (w.station s).stage ≡ x → holds_mark N x ≡ false → Inv (with_station w s (idled (w.station s)) false)
    rest_inv x e h = with_inv (idled (w.station s)) false (same_key Idle (leave_core i.core s x e h)) refl

    pub leaving_inv : Inv (with_station w s (leaving (w.station s)) (w.unfinished s))
    leaving_inv =
        with_inv (leaving (w.station s)) (w.unfinished s)
        (same_key (w.station s).stage (same_stage i.core s (w.station s).stage refl))
        (i.busy_is s)

    pub rekey_inv : (k : K) → (w.station s).stage ≡ Idle → Inv (with_station w s (record { key = k; stage = Idle; withdrawn = false }) false)
    rekey_inv k e = with_inv (record { key = k; stage = Idle; withdrawn = false }) false (rekey_core i.core s k Idle e (λ p. refl) (λ y. tt)) refl

    pub begin_inv : (k : K) → (w.station s).stage ≡ Idle → Inv (with_station w s (fresh k) true)
    begin_inv k e = with_inv (fresh k) true (rekey_core i.core s k Home e (λ p. refl) (λ y. tt)) refl

    pub step_inv : Inv (stepped κ.kind w s)
    unfolding stepped
    step_inv = record {
      owner = O';
      core =
          core_ext
          (sym (updated_field (λ (y : Station K). y.key) w.station s t' ∙ updated_self (λ r. (w.station r).key) s t.key refl))
          (updated_twice (λ r. (w.station r).stage) s m.next x ∙ sym (updated_field (λ (y : Station K). y.stage) w.station s t'))
          (table_noted w.effects t.key m.effect)
          (settle_core d.0 s t.withdrawn m.next (updated_same (λ r. (w.station r).stage) s m.next));
      held_is = λ r p. ⊎_elim
          (λ (e : s ≡ r). cond-true (eqb s r) (watched (w.marked p) (M' p) (w.held s p)) (w.held r p) (eq-eqb s r e)
          ∙ ap (λ b. watched b (M' p) (w.held s p)) (i.core.marks p)
          ∙ ap (λ b. watched (taken (O p)) b (w.held s p)) (d.0.marks p)
          ∙ ap (λ b. watched (taken (O p)) (taken (O' p)) b) (i.held_is s p)
          ∙ watched_owner s (O p) (O' p) (λ u n. others u p n) ∙ ap (λ j. is_by j (O' p)) e)
          (λ n. cond-false (eqb s r) (watched (w.marked p) (M' p) (w.held s p)) (w.held r p) (ne_eqb s r n) ∙ i.held_is r p ∙ others r p n)
          (cases_eq s r);
      busy_is =
          λ r.
          ⊎_elim
          (λ (e : s ≡ r). updated_at w.unfinished s r (busy x) e ∙ ap (λ y. busy y.stage) (sym (updated_at w.station s r t' e)))
          (λ n. updated_other w.unfinished s r (busy x) n ∙ i.busy_is r ∙ ap (λ y. busy y.stage) (sym (updated_other w.station s r t' n)))
          (cases_eq s r);
      alike = log.alike;
      new_once = log.new_once;
      new_in = log.new_in;
    }
      where
        t : Station K
        t = w.station s

        m : Decision K
        m = decide κ.kind t.key t.stage w.contents w.marked

        x : Stage
        x = settled t.withdrawn m.next

        t' : Station K
        t' = stepped_record t x

        O : ℕ → Owner
        O = i.owner

        O' : ℕ → Owner
        O' = owners_after s m.act O

        T' : ℕ → Content K
        T' = contents_after m.act w.contents

        M' : ℕ → Bool
        M' = marks_after m.act w.marked

        d : Done κ i.core s m
        d = step_core i.core s t.stage refl

        others : (u p : ℕ) → s ≢ u → is_by u (O p) ≡ is_by u (O' p)
        others u p n =
            sym (i.core.owned u p) ∙ ap (λ y. holder N y p) (sym (updated_other (λ r. (w.station r).stage) s u m.next n)) ∙ d.0.owned u p

        log : Noted (noted t.key m.effect w.effects)
        log =
            noting w.effects t.key m.effect i.core.sorted
            (record { alike = i.alike; new_once = i.new_once; new_in = i.new_in })
            d.1
