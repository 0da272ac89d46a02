-- The theorem: the invariant holds after an opening, every turn keeps it, and it gives what is promised.
use Rattle.std.proofs.Common.{◌≡◌, ℕ, ◌<◌, ◌≤◌, Bool, true, false, cond, not, eqb, List, [], ◌∷◌, map, length, sym, refl, ap, ◌∙◌, subst, inl, ⊎_elim, arith}
use lib.ListN.{length-map}
use Rattle.std.proofs.lemmas.Bool.{cases_lt, both_ways}
use Rattle.keys.specs.Laws.{Laws}
use Rattle.protocol.specs.declared.Cell.{Cell}
use Rattle.protocol.specs.declared.Station.{Station}
use Rattle.protocol.specs.Cells.{Content, empty, holds, nth, contents, marks}
use Rattle.protocol.specs.Stages.{Answer, Idle, Standing, resting, homing, under_way, done, standing, busy, is_idle, names_cells}
use Rattle.protocol.specs.Step.{Ordering, before, kind_over, took}
use Rattle.protocol.specs.Calls.{Ok, Err, Refusal, WrongSize, OtherRegister, NoEntry, NoCell, World, bad_size, bad_count, Out, refused_if, idled, blank, idle_records, opening_if, beginning, collecting_at, collecting, withdrawing, stepping, whole_entry}
use Rattle.protocol.specs.Turns.{Turn, begin, step, collect, withdraw, enter, turned_over, turned, Log, no_log, log_at, logged_over, logged, after_turns}
use Rattle.protocol.specs.OneWorker.{table, Alike}
use Rattle.protocol.specs.Safety.{NewOnce, Promise, SafeFrom, Safe}
use Rattle.protocol.proofs.Lawful.{Lawful, lawful, order_refl}
use Rattle.protocol.proofs.Standings.{Means, stage_is}
use Rattle.protocol.proofs.Holding.{holder, holder_busy}
use Rattle.protocol.proofs.State.{State}
use Rattle.protocol.proofs.Invariant.{Owner, free, by, taken, is_by, is_by_self, is_by_true, by_inj, Good, marked_by}
use Rattle.protocol.proofs.Regions.{around}
use Rattle.protocol.proofs.Effects.{given}
use Rattle.protocol.proofs.Places.{contents_blank, marks_blank, nth_map}
use Rattle.protocol.proofs.Checked.{by_check, by_station}
use Rattle.protocol.proofs.Refused.{whole_over, refused_unchanged}
use Rattle.protocol.proofs.Preserved.{Inv}
use Rattle.protocol.proofs.Kept.{record_of, records_of, state, Kept, Goal, begun_kept, stepping_kept, collected_kept, withdrawing_kept, never_no_cell}
use Rattle.protocol.proofs.Whole.{entered_kept}

clash : {K A : Type 0} {x : K} {c : Content K} → c ≡ empty → c ≡ holds x → A
clash a b = let z : ◌≡◌ {A = ℕ} 0 1 = cc in absurd (omega arith)

module _ {K : Type 0} {N : ℕ} (κ : Lawful K N) (filler : K) where
  turn_kept : (w : World K) (g : Log K) (f : Kept κ filler w g) (t : Turn K) → Goal κ filler w g t (turned_over κ.kind w t)
  turn_kept w g f (begin s k) = begun_kept κ filler w g f s k
  turn_kept w g f (step s) = stepping_kept κ filler w g f s
  turn_kept w g f (collect n s) = collected_kept κ filler w g f s n
  turn_kept w g f (withdraw n s) = withdrawing_kept κ filler w g f s n
  turn_kept w g f (enter k) = entered_kept κ filler w g f k

  -- empty cells, no mark, every station idle, nothing logged
  blank_inv : (v : State K) → ((p : ℕ) → v.contents p ≡ empty) → ((p : ℕ) → v.marked p ≡ false) → ((s : ℕ) → (v.station s).stage ≡ Idle)
      → v.effects ≡ [] → ((s : ℕ) → v.unfinished s ≡ false) → ((s p : ℕ) → v.held s p ≡ false) → Inv κ v
  unfolding table NewOnce Alike
  blank_inv v e1 e2 e3 e4 e5 e6 =
      subst
      (λ es.
      Inv κ
      (record { contents = v.contents; marked = v.marked; station = v.station; effects = es; unfinished = v.unfinished; held = v.held }))
      (sym e4) made
    where
      made : Inv κ (record { contents = v.contents; marked = v.marked; station = v.station; effects = []; unfinished = v.unfinished; held = v.held })
      made = record {
        owner = λ p. free;
        core = record {
          edge_low = e1 0;
          edge_high = λ p h. e1 p;
          owned = λ s p. ap (λ x. holder N x p) (e3 s);
          marks = e2;
          good = λ s. subst (λ x. Good κ v.contents v.marked (λ p. empty) (v.station s).key x) (sym (e3 s)) tt;
          agree = λ p. inl (sym (e1 p));
          sorted =
              record {
                asc = λ p q x y lt a b. clash refl a;
                up = λ p q x a b c. clash refl a;
                down = λ p q x a b c. clash refl a;
                low = refl;
                high = λ p h. refl;
              };
        };
        held_is = e6;
        busy_is = λ s. e5 s ∙ sym (ap busy (e3 s));
        alike = tt;
        new_once = tt;
        new_in = λ k h. elim h [ ];
      }

  opened_kept : (number : ℕ) (cs : List (Cell K)) (ts : List (Station K)) → length (map (blank filler) cs) ≡ N
      → Kept κ filler (opening_if false number cs ts filler) no_log
  opened_kept number cs ts size = record {
    inv =
        blank_inv
        (state filler (opening_if false number cs ts filler) no_log) (contents_blank filler cs)
        (marks_blank filler cs) all_idle refl (λ s. refl) (λ s p. refl);
    size = size;
    answers = λ s h. absurd (both_ways (is_idle (records_of filler (idle_records ts) s).stage) h (ap is_idle (all_idle s)));
    named = λ s. ap (names_cells N) (all_idle s);
  }
    where
      record_idle : (b : Bool) (s : ℕ) (o : Content (Station K)) → nth (map idled ts) s ≡ o → (record_of filler b o).stage ≡ Idle
      record_idle true s o e = refl
      record_idle false s empty e = refl
      record_idle false s (holds t) e = nth_map (λ x. x.stage ≡ Idle) idled (λ x. refl) ts s t e

      by_count : (b : Bool) → bad_count (length ts) ≡ b → (s : ℕ) → (records_of filler (cond b ts (map idled ts)) s).stage ≡ Idle
      by_count true e s = ap (λ b. (record_of filler b (nth ts s)).stage) e
      by_count false e s = record_idle (bad_count (length (map idled ts))) s (nth (map idled ts) s) refl

      all_idle : (s : ℕ) → (records_of filler (idle_records ts) s).stage ≡ Idle
      all_idle s = by_count (bad_count (length ts)) refl s

  -- what a collection gives is the answer of the entry last begun there
  collect_gives : (w : World K) (g : Log K) → Kept κ filler w g → (n s : ℕ) (a : Answer) → (collecting N w n s).1 ≡ Ok a → g.answer s ≡ took a
  unfolding collecting
  collect_gives w g f n s a =
      by_check Gives (bad_size N) WrongSize w _ no_answer (λ _.
      by_check Gives (not (eqb n w.number)) OtherRegister w _ no_answer (λ _.
      by_station Gives w s _ no_answer (λ b u e.
      by_check Gives u.withdrawn NoEntry w _ no_answer (λ _.
      given_at u (ap (λ x. record_of filler x (nth w.stations s)) b ∙ ap (record_of filler false) e) (standing u.stage) (stage_is u.stage)))))
    where
      Gives : Out K Answer → Type 0
      Gives o = o.1 ≡ Ok a → g.answer s ≡ took a

      no_answer : {e : Refusal} → Err e ≡ Ok a → g.answer s ≡ took a
      no_answer z = let y : ◌≡◌ {A = ℕ} 0 1 = cc in absurd (omega arith)

      given_at : (u : Station K) → records_of filler w.stations s ≡ u → (y : Standing) → Means u.stage y → Gives (collecting_at w s u y)
      given_at u e resting t z = no_answer z
      given_at u e homing t z = no_answer z
      given_at u e under_way t z = no_answer z
      given_at u e (done b) t z = let at = ap (λ x. x.stage) e ∙ t in f.answers s (ap is_idle at) ∙ ap given at ∙ ap took (let y : b ≡ a = cc in y)

  module _ (w : World K) (g : Log K) (f : Kept κ filler w g) where
    abbrev i : Inv κ (state filler w g)
    i = f.inv

    one_holder : (p : ℕ) → marks w.cells p ≡ true
        → (s : ℕ) × (g.held s p ≡ true) × (g.unfinished s ≡ true) × ((s' : ℕ) → g.held s' p ≡ true → s' ≡ s)
    one_holder p m = go (i.owner p) refl
      where
        go : (o : Owner) → i.owner p ≡ o → (s : ℕ) × (g.held s p ≡ true) × (g.unfinished s ≡ true) × ((s' : ℕ) → g.held s' p ≡ true → s' ≡ s)
        go free e = absurd (both_ways (marks w.cells p) (i.core.marks p ∙ ap taken e) m)
        go (by s) e = (
          s,
          i.held_is s p ∙ ap (is_by s) e ∙ is_by_self s,
          i.busy_is s ∙ holder_busy N (records_of filler w.stations s).stage p (i.core.owned s p ∙ ap (is_by s) e ∙ is_by_self s),
          λ s' h. by_inj (is_by_true s' (i.owner p) (sym (i.held_is s' p) ∙ h)) e,
        )

    -- only a station that shifts leaves cells that differ from the one worker's, and it holds a mark
    still_is : ((p : ℕ) → marks w.cells p ≡ false) → (p : ℕ) → contents w.cells p ≡ table κ.kind g.effects p
    still_is q p = ⊎_elim sym
        (λ h. let a = around κ i.core h.0 p h.1 in
        absurd (⊎_elim
        (λ z. both_ways (marks w.cells a.l) (q a.l) (marked_by κ i.core a.l h.0 (a.closed_region.own_l z)))
        (λ z. both_ways (marks w.cells a.r) (q a.r) (marked_by κ i.core a.r h.0 (a.closed_region.own_r z)))
        a.some_cell))
        (i.core.agree p)

    rising : ((p : ℕ) → marks w.cells p ≡ false) → (p q : ℕ) (x y : K) → p < q → contents w.cells p ≡ holds x → contents w.cells q ≡ holds y
        → κ.kind.order x y ≡ before
    rising none-marked p q x y lt a b = i.core.sorted.asc p q x y lt (sym (still_is none-marked p) ∙ a) (sym (still_is none-marked q) ∙ b)

    once_each : ((p : ℕ) → marks w.cells p ≡ false) → (p q : ℕ) (x : K) → contents w.cells p ≡ holds x → contents w.cells q ≡ holds x → p ≡ q
    once_each none-marked p q x a b =
        ⊎_elim (λ lt. absurd (itself (rising none-marked p q x x lt a b)))
        (λ le. ⊎_elim (λ lt. absurd (itself (rising none-marked q p x x lt b a))) (λ ge. omega arith) (cases_lt q p))
        (cases_lt p q)
      where
        itself : κ.kind.order x x ≡ before → ⊥
        itself e = let s = order_refl κ x in let z : ◌≡◌ {A = ℕ} 0 1 = cc in omega arith

module _ {K : Type 0} {order : K → K → Ordering} {home : K → ℕ → ℕ} (laws : Laws order home) (n : ℕ) (some : 1 ≤ n) (few : n ≤ 65536) (filler : K) where
  abbrev κ : Lawful K n
  κ = lawful laws n some few

  turns_kept : (ts : List (Turn K)) (w : World K) (g : Log K) → Kept κ filler w g
      → Kept κ filler (after_turns order home ts (w, g)).0 (after_turns order home ts (w, g)).1
  unfolding after_turns Goal
  turns_kept [] w g f = f
  turns_kept (t ∷ ts) w g f =
      turns_kept ts (turned order home w t).0 (logged order home w t g)
      (subst
      (λ m.
      Kept κ filler (turned_over (kind_over order home m) w t).0
      (logged_over (kind_over order home m) w t (turned_over (kind_over order home m) w t) g))
      (sym f.size) (turn_kept κ filler w g f t))

  promise : (w : World K) (g : Log K) → Kept κ filler w g → Promise order home n w g
  promise w g f = record {
    new_once = f.inv.new_once;
    condition = λ _ _. record {
      held_once = one_holder κ filler w g f;
      held_marked = λ s p h. marked_by κ f.inv.core p s (is_by_true s (f.inv.owner p) (sym (f.inv.held_is s p) ∙ h));
      alike = f.inv.alike;
      collected =
          subst
          (λ m. (number s : ℕ) (a : Answer) → (collecting m w number s).1 ≡ Ok a → g.answer s ≡ took a)
          (sym f.size) (collect_gives κ filler w g f);
      same_cells = still_is κ filler w g f;
      each_once = once_each κ filler w g f;
      ascending = rising κ filler w g f;
    };
    whole_ends = λ _ _. whole_over κ w f.size;
    never_refused_6 = subst (λ m. (s : ℕ) → (stepping (kind_over order home m) w s).1 ≡ Err NoCell → ⊥) (sym f.size) (never_no_cell κ filler w g f);
    refused_same =
        subst (λ m. (t : Turn K) (e : Refusal) → (turned_over (kind_over order home m) w t).1 ≡ Err e → (turned_over (kind_over order home m) w t).0 ≡ w)
        (sym f.size) (refused_unchanged κ w f.size);
  }

-- a register of no or too many cells refuses every turn
refuses : {K A : Type 0} (w : World K) (b : Bool) (o : Out K A) → b ≡ true → refused_if b WrongSize w o ≡ (w, Err WrongSize)
unfolding refused_if
refuses w b o e = ap (λ x. refused_if x WrongSize w o) e

module _ {K : Type 0} (order : K → K → Ordering) (home : K → ℕ → ℕ) (w : World K) (bad : bad_size (length w.cells) ≡ true) where
  -- every turn is refused
  all_refused : (t : Turn K) → turned order home w t ≡ (w, Err WrongSize)
  unfolding beginning stepping collecting withdrawing whole_entry
  all_refused (begin s k) = refuses w _ _ bad
  all_refused (step s) = refuses w _ _ bad
  all_refused (collect n s) = refuses w _ _ bad
  all_refused (withdraw n s) = refuses w _ _ bad
  all_refused (enter k) = refuses w _ _ bad

  -- and nothing is logged
  refused_log : (t : Turn K) (g : Log K) → logged_over (kind_over order home (length w.cells)) w t (w, Err WrongSize) g ≡ g
  refused_log (begin s k) g = refl
  refused_log (step s) g = go (nth w.stations s)
    where
      go : (y : Content (Station K)) → log_at (kind_over order home (length w.cells)) w s y (w, Err WrongSize) g ≡ g
      go empty = refl
      go (holds t) = refl
  refused_log (collect n s) g = refl
  refused_log (withdraw n s) g = refl
  refused_log (enter k) g = refl

  unchanged : (ts : List (Turn K)) (g : Log K) → after_turns order home ts (w, g) ≡ (w, g)
  unfolding after_turns
  unchanged [] g = refl
  unchanged (t ∷ ts) g =
      ap (λ o. after_turns order home ts (o.0, logged_over (kind_over order home (length w.cells)) w t o g)) (all_refused t)
      ∙ ap (λ h. after_turns order home ts (w, h)) (refused_log t g) ∙ unchanged ts g

  refused_promise : Promise order home (length w.cells) w no_log
  unfolding NewOnce
  refused_promise = record {
    new_once = tt;
    condition = λ some few. absurd (both_ways (bad_size (length w.cells)) (good_size (length w.cells) some few) bad);
    whole_ends = λ some few. absurd (both_ways (bad_size (length w.cells)) (good_size (length w.cells) some few) bad);
    never_refused_6 = λ s e. let z = ap (λ o. o.1) (sym (all_refused (step s))) ∙ e in let y : ◌≡◌ {A = ℕ} 0 1 = cc in omega arith;
    refused_same = λ t e z. ap (λ o. o.0) (all_refused t);
  }
    where
      good_size : (n : ℕ) → 1 ≤ n → n ≤ 65536 → bad_size n ≡ false
      good_size n a b = grind arith

  refused_safe : SafeFrom order home w
  refused_safe ts = subst (λ a. Promise order home (length w.cells) a.0 a.1) (sym (unchanged ts no_log)) refused_promise

sized : (n : ℕ) → bad_size n ≡ false → (1 ≤ n) × (n ≤ 65536)
sized n e = (grind arith, grind arith)

-- whatever the memory holds, a refused turn has changed nothing
pub refused_same : {K : Type 0} {order : K → K → Ordering} {home : K → ℕ → ℕ} → Laws order home → (w : World K) (t : Turn K) (e : Refusal)
    → (turned order home w t).1 ≡ Err e → (turned order home w t).0 ≡ w
refused_same {K} {order} {home} laws w t e z = by_size (bad_size (length w.cells)) refl
  where
    by_size : (b : Bool) → bad_size (length w.cells) ≡ b → (turned order home w t).0 ≡ w
    by_size true bad = ap (λ o. o.0) (all_refused order home w bad t)
    by_size false good =
        let s = sized (length w.cells) good in
        refused_unchanged (lawful laws (length w.cells) s.0 s.1) w refl t e z

pub safe : {K : Type 0} {order : K → K → Ordering} {home : K → ℕ → ℕ} → Laws order home → Safe order home
safe {K} {order} {home} laws number cells stations filler = by_size (bad_size (length cells)) refl
  where
    by_size : (b : Bool) → bad_size (length cells) ≡ b → SafeFrom order home (opening_if b number cells stations filler)
    by_size true e = refused_safe order home (record { number = number; cells = cells; stations = stations }) e
    by_size false e =
        let n = length (map (blank filler) cells) in
        let z = sized n (ap bad_size (length-map cells (blank filler)) ∙ e) in
        λ turns.
        promise laws n z.0 z.1 filler _ _
        (turns_kept laws n z.0 z.1 filler turns (opening_if false number cells stations filler)
        no_log
        (opened_kept (lawful laws n z.0 z.1) filler number cells stations refl))
