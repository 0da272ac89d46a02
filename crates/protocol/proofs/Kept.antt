-- The invariant over the lists of cells and records, kept by beginning, stepping, collecting and withdrawing.
use Rattle.std.proofs.Common.{◌≡◌, ℕ, ◌<◌, Bool, true, false, cond, not, ◌||◌, eqb, ◌≢◌, ◌⊎◌, List, length, set, sym, refl, ap, ◌∙◌, subst, ⊎_elim, arith, length-set}
use Rattle.std.proofs.lemmas.Bool.{cases_eq, both_ways, not-false}
use Rattle.protocol.specs.declared.Station.{Station}
use Rattle.protocol.specs.Refusals.{number_of}
use Rattle.protocol.specs.Cells.{Content, empty, holds, cell, updated, nth, contents, marks}
use Rattle.protocol.specs.Stages.{Stage, Idle, Answered, Standing, resting, homing, under_way, done, standing, busy, is_idle, settled, held_by, holds_mark, names_cells}
use Rattle.protocol.specs.Step.{Effect, nothing, Decision}
use Rattle.protocol.specs.Calls.{Ok, Err, Refusal, WrongSize, OtherRegister, NoStation, NotIdle, NoEntry, NoCell, Progress, World, bad_size, bad_count, Out, refused_if, put_record, fresh, idled, leaving, beginning, collecting_at, collecting, withdrawing_at, withdrawing, stepped_record, stepping_by, decision, stepping}
use Rattle.protocol.specs.Turns.{Turn, begin, step, collect, withdraw, Reply, Log, latest, watched, log_at, logged_over}
use Rattle.protocol.proofs.Lawful.{Lawful}
use Rattle.protocol.proofs.Updates.{updated_same, updated_at, updated_other, updated_all}
use Rattle.protocol.proofs.Standings.{Means, stage_is, idle_is, settled_same, busy_not_idle, finish_is}
use Rattle.protocol.proofs.Holding.{holder_cell}
use Rattle.protocol.proofs.State.{State, with_station, step_by, step_with, stepped}
use Rattle.protocol.proofs.Invariant.{Owner, free, by, taken, is_by, is_by_self}
use Rattle.protocol.proofs.Effects.{given, once}
use Rattle.protocol.proofs.Named.{named_settled, named_kept}
use Rattle.protocol.proofs.Places.{length_after, Acted, acted, contents_inside, nth_same, nth_other}
use Rattle.protocol.proofs.Checked.{by_check, by_station}
use Rattle.protocol.proofs.Preserved.{Inv, rest_inv, leaving_inv, begin_inv, step_inv}

edge_no_cell : (N q : ℕ) → (q ≡ 0) ⊎ (N < q) → cell N q ≡ true → ⊥
edge_no_cell N q h e = grind arith

module _ {K : Type 0} (filler : K) where
  abbrev pub idle_record : Station K
  idle_record = record { key = filler; stage = Idle; withdrawn = false }

  -- the record of a station; one that no call reaches is as good as idle
  abbrev pub record_of : Bool → Content (Station K) → Station K
  record_of true o = idle_record
  record_of false empty = idle_record
  record_of false (holds t) = t

  abbrev pub records_of : List (Station K) → ℕ → Station K
  records_of ts s = record_of (bad_count (length ts)) (nth ts s)

  abbrev pub state : World K → Log K → State K
  state w g =
      record {
        contents = contents w.cells;
        marked = marks w.cells;
        station = records_of w.stations;
        effects = g.effects;
        unfinished = g.unfinished;
        held = g.held;
      }

module _ {K : Type 0} {N : ℕ} (κ : Lawful K N) where
  pub edge_unmarked : (v : State K) → Inv κ v → (q : ℕ) → (q ≡ 0) ⊎ (N < q) → v.marked q ≡ false
  edge_unmarked v i q h = go (i.owner q) refl
    where
      go : (o : Owner) → i.owner q ≡ o → v.marked q ≡ false
      go free e = i.core.marks q ∙ ap taken e
      go (by t) e = absurd (edge_no_cell N q h (holder_cell N (held_by (v.station t).stage) q (i.core.owned t q ∙ ap (is_by t) e ∙ is_by_self t)))

  pub inv_ext : (v v' : State K) → ((p : ℕ) → v'.contents p ≡ v.contents p) → ((p : ℕ) → v'.marked p ≡ v.marked p)
      → ((s : ℕ) → v'.station s ≡ v.station s) → v'.effects ≡ v.effects → ((s : ℕ) → v'.unfinished s ≡ v.unfinished s)
      → ((s p : ℕ) → v'.held s p ≡ v.held s p) → Inv κ v → Inv κ v'
  inv_ext v v' e1 e2 e3 e4 e5 e6 i = subst (Inv κ) (sym same_state) i
    where
      same_state : v' ≡ v
      same_state =
          λ j.
          record {
            contents = λ p. e1 p j;
            marked = λ p. e2 p j;
            station = λ s. e3 s j;
            effects = e4 j;
            unfinished = λ s. e5 s j;
            held = λ s p. e6 s p j;
          }

  pub stepped_is : (v : State K) (s : ℕ) (u : Station K) → v.station s ≡ u → stepped κ.kind v s ≡ step_with κ.kind v s u
  unfolding stepped
  stepped_is v s u e = ap (step_with κ.kind v s) e

  module _ (filler : K) where
    -- the invariant of a register's memory with the log of its run
    pub record Kept (w : World K) (g : Log K) : Type 0 where
      pub inv : Inv κ (state filler w g)
      pub size : length w.cells ≡ N
      pub answers : (s : ℕ) → is_idle (records_of filler w.stations s).stage ≡ false → g.answer s ≡ given (records_of filler w.stations s).stage
      pub named : (s : ℕ) → names_cells N (records_of filler w.stations s).stage ≡ true

    -- the turn t, with outcome o, keeps the invariant
    unfoldable pub Goal : World K → Log K → (t : Turn K) → Out K (Reply t) → Type 0
    Goal w g t o = Kept o.0 (logged_over κ.kind w t o g)

    module _ (w : World K) (g : Log K) (f : Kept w g) where
      module _ (s : ℕ) where
        module _ (b : bad_count (length w.stations) ≡ false) (u : Station K) (e : nth w.stations s ≡ holds u) where
          record_is : records_of filler w.stations s ≡ u
          record_is = ap (λ x. record_of filler x (nth w.stations s)) b ∙ ap (record_of filler false) e

          records_set : (t : Station K) (r : ℕ) → records_of filler (set w.stations s t) r ≡ updated (records_of filler w.stations) s t r
          records_set t r =
              ap (λ n. record_of filler (bad_count n) (nth (set w.stations s t) r)) (length-set w.stations s t)
              ∙ ⊎_elim
              (λ (z : s ≡ r).
              ap (λ x. record_of filler x (nth (set w.stations s t) r)) b
              ∙ ap (λ j. record_of filler false (nth (set w.stations s t) j)) (sym z)
              ∙ ap (record_of filler false) (nth_same w.stations s t u e)
              ∙ sym (updated_at (records_of filler w.stations) s r t z))
              (λ n.
              ap (record_of filler (bad_count (length w.stations))) (nth_other w.stations s t r n)
              ∙ sym (updated_other (records_of filler w.stations) s r t n))
              (cases_eq s r)

          -- what holds of the new record and of the others holds of all
          records_all : (P : ℕ → Station K → Type 0) (t : Station K) → P s t → ((r : ℕ) → s ≢ r → P r (records_of filler w.stations r)) → (r : ℕ)
              → P r (records_of filler (set w.stations s t) r)
          records_all P t here there r = subst (P r) (sym (records_set t r)) (updated_all P (records_of filler w.stations) s t here there r)

          -- a turn that writes the record of s alone
          recorded_kept : (t : Station K) (x : Bool) (un : ℕ → Bool) (an : ℕ → Effect) → Inv κ (with_station (state filler w g) s t x)
              → ((r : ℕ) → un r ≡ updated g.unfinished s x r)
              → (is_idle t.stage ≡ false → an s ≡ given t.stage) → ((r : ℕ) → s ≢ r → an r ≡ g.answer r) → names_cells N t.stage ≡ true
              → Kept (put_record w s t) (record { effects = g.effects; unfinished = un; held = g.held; answer = an })
          recorded_kept t x un an i eu here there nm = record {
            inv =
                inv_ext (with_station (state filler w g) s t x)
                (state filler (put_record w s t) (record { effects = g.effects; unfinished = un; held = g.held; answer = an }))
                (λ p. refl) (λ p. refl) (records_set t) refl eu (λ r p. refl) i;
            size = f.size;
            answers = records_all (λ r y. is_idle y.stage ≡ false → an r ≡ given y.stage) t here (λ r n i. there r n ∙ f.answers r i);
            named = records_all (λ r y. names_cells N y.stage ≡ true) t nm (λ r n. f.named r);
          }

          begin_kept : (k : K) → not (is_idle u.stage) ≡ false → Goal w g (begin s k) (put_record w s (fresh k), Ok (w.number, s))
          unfolding Goal
          begin_kept k h = recorded_kept (fresh k) true (updated g.unfinished s true) (updated g.answer s nothing)
              (begin_inv κ (state filler w g) f.inv s k (ap (λ x. x.stage) record_is ∙ idle_is u.stage h))
              (λ r. refl) (λ _. updated_same g.answer s nothing) (λ r n. updated_other g.answer s r nothing n)
              refl

          open_unfinished : g.unfinished s ≡ busy u.stage
          open_unfinished = f.inv.busy_is s ∙ ap (λ x. busy x.stage) record_is

          answer_is : is_idle u.stage ≡ false → g.answer s ≡ given u.stage
          answer_is i = f.answers s (ap (λ x. is_idle x.stage) record_is ∙ i) ∙ ap (λ x. given x.stage) record_is

          named_is : names_cells N u.stage ≡ true
          named_is = ap (λ x. names_cells N x.stage) (sym record_is) ∙ f.named s

          collect_kept : (n : ℕ) (y : Standing) → Means u.stage y → Goal w g (collect n s) (collecting_at w s u y)
          unfolding Goal
          collect_kept n resting z = f
          collect_kept n homing z = f
          collect_kept n under_way z = f
          collect_kept n (done a) z = recorded_kept (idled u) false g.unfinished g.answer
              (subst
              (λ y. Inv κ (with_station (state filler w g) s (idled y) false)) record_is
              (rest_inv κ (state filler w g) f.inv s (Answered a) (ap (λ y. y.stage) record_is ∙ z) refl))
              (λ r.
              ⊎_elim
              (λ (q : s ≡ r). ap g.unfinished (sym q) ∙ open_unfinished ∙ ap busy z ∙ sym (updated_at g.unfinished s r false q))
              (λ m. sym (updated_other g.unfinished s r false m)) (cases_eq s r))
              (λ h. absurd (both_ways true h refl)) (λ r m. refl) refl

          withdraw_kept : (n : ℕ) (x : Bool) → holds_mark N u.stage ≡ x → Goal w g (withdraw n s) (withdrawing_at w s u x)
          unfolding Goal
          withdraw_kept n true z = recorded_kept (leaving u) (g.unfinished s) (updated g.unfinished s (g.unfinished s)) g.answer
              (subst
              (λ y. Inv κ (with_station (state filler w g) s (leaving y) (g.unfinished s)))
              record_is (leaving_inv κ (state filler w g) f.inv s))
              (λ r. refl) answer_is (λ r m. refl) named_is
          withdraw_kept n false z = recorded_kept (idled u) false (updated g.unfinished s false) g.answer
              (subst
              (λ y. Inv κ (with_station (state filler w g) s (idled y) false)) record_is
              (rest_inv κ (state filler w g) f.inv s u.stage (ap (λ y. y.stage) record_is) z))
              (λ r. refl) (λ i. absurd (both_ways true i refl)) (λ r m. refl) refl

          step_kept : busy u.stage ≡ true → Goal w g (step s) (stepping_by w s u (decision κ.kind w.cells u.key u.stage))
          unfolding Goal
          step_kept h = subst (Kept v) (sym (ap (λ y. log_at κ.kind w s y o g) e)) kept
            where
              m : Decision K
              m = decision κ.kind w.cells u.key u.stage

              x : Stage
              x = settled u.withdrawn m.next

              o : Out K Progress
              o = stepping_by w s u m

              t : Station K
              t = stepped_record u x

              v : World K
              v = o.0

              after_it : Inv κ (step_by (state filler w g) s u m x)
              after_it = subst (Inv κ) (stepped_is (state filler w g) s u record_is) (step_inv κ (state filler w g) f.inv s)

              act_is : Acted m.act w.cells
              act_is =
                  acted m.act w.cells N f.size after_it.core.edge_low after_it.core.edge_high
                  (edge_unmarked (step_by (state filler w g) s u m x) after_it)

              kept : Kept v (log_at κ.kind w s (holds u) o g)
              kept = record {
                inv =
                    inv_ext (step_by (state filler w g) s u m x) (state filler v (log_at κ.kind w s (holds u) o g)) act_is.0 act_is.1 (records_set t) refl
                    (λ q. ap (λ y. updated g.unfinished s y q) (finish_is x (g.unfinished s) (open_unfinished ∙ h)))
                    (λ q p. ap (λ y. cond (eqb s q) (watched (marks w.cells p) y (g.held s p)) (g.held q p)) (act_is.1 p))
                    after_it;
                size = length_after m.act w.cells ∙ f.size;
                answers =
                    records_all (λ r y. is_idle y.stage ≡ false → updated g.answer s (latest m.effect (g.answer s)) r ≡ given y.stage) t
                    (λ i.
                    updated_same g.answer s (latest m.effect (g.answer s))
                    ∙ ap (latest m.effect) (answer_is (busy_not_idle u.stage h))
                    ∙ (once κ.kind u.key u.stage (contents w.cells) (marks w.cells)).1
                    ∙ ap given (sym (settled_same u.withdrawn m.next i)))
                    (λ r n i. updated_other g.answer s r (latest m.effect (g.answer s)) n ∙ f.answers r i);
                named =
                    records_all (λ r y. names_cells N y.stage ≡ true) t
                    (named_settled N u.withdrawn m.next
                    (named_kept κ u.key (contents w.cells) (marks w.cells) (contents_inside w.cells N f.size) u.stage named_is))
                    (λ r n. f.named r);
              }

        -- a refused step is not logged
        step_refused : (e : Refusal) → Goal w g (step s) (w, Err e)
        unfolding Goal
        step_refused e = go (nth w.stations s)
          where
            go : (y : Content (Station K)) → Kept w (log_at κ.kind w s y (w, Err e) g)
            go empty = f
            go (holds t) = f

        pub begun_kept : (k : K) → Goal w g (begin s k) (beginning N w s k)
        unfolding beginning Goal
        begun_kept k =
            by_check (Goal w g (begin s k)) (bad_size N) WrongSize w _ f (λ _.
            by_station (Goal w g (begin s k)) w s _ f (λ b u e.
            by_check (Goal w g (begin s k)) (not (is_idle u.stage)) NotIdle w _ f (λ h. begin_kept b u e k h)))

        pub stepping_kept : Goal w g (step s) (stepping κ.kind w s)
        unfolding stepping
        stepping_kept =
            by_check (Goal w g (step s)) (bad_size N) WrongSize w _ (step_refused WrongSize) (λ _.
            by_station (Goal w g (step s)) w s _ (step_refused NoStation) (λ b u e.
            by_check (Goal w g (step s)) (not (busy u.stage)) NoEntry w _ (step_refused NoEntry) (λ h.
            by_check (Goal w g (step s)) (not (names_cells N u.stage)) NoCell w _ (step_refused NoCell) (λ _.
            step_kept b u e (not-false (busy u.stage) h)))))

        pub collected_kept : (n : ℕ) → Goal w g (collect n s) (collecting N w n s)
        unfolding collecting Goal
        collected_kept n =
            by_check (Goal w g (collect n s)) (bad_size N) WrongSize w _ f (λ _.
            by_check (Goal w g (collect n s)) (not (eqb n w.number)) OtherRegister w _ f (λ _.
            by_station (Goal w g (collect n s)) w s _ f (λ b u e.
            by_check (Goal w g (collect n s)) u.withdrawn NoEntry w _ f (λ _. collect_kept b u e n (standing u.stage) (stage_is u.stage)))))

        pub withdrawing_kept : (n : ℕ) → Goal w g (withdraw n s) (withdrawing N w n s)
        unfolding withdrawing Goal
        withdrawing_kept n =
            by_check (Goal w g (withdraw n s)) (bad_size N) WrongSize w _ f (λ _.
            by_check (Goal w g (withdraw n s)) (not (eqb n w.number)) OtherRegister w _ f (λ _.
            by_station (Goal w g (withdraw n s)) w s _ f (λ b u e.
            by_check (Goal w g (withdraw n s)) (is_idle u.stage || u.withdrawn) NoEntry w _ f (λ _.
            withdraw_kept b u e n (holds_mark N u.stage) refl))))

        -- no record names a cell that is none
        pub never_no_cell : (stepping κ.kind w s).1 ≡ Err NoCell → ⊥
        unfolding stepping refused_if
        never_no_cell =
            by_check Other (bad_size N) WrongSize w _ (by_number WrongSize (omega arith)) (λ _.
            by_station Other w s _ (by_number NoStation (omega arith)) (λ b u e.
            by_check Other (not (busy u.stage)) NoEntry w _ (by_number NoEntry (omega arith)) (λ _.
            subst (λ x. Other (refused_if (not x) NoCell w (stepping_by w s u (decision κ.kind w.cells u.key u.stage)))) (sym (named_is b u e))
            (λ z. let y : ◌≡◌ {A = ℕ} 0 1 = cc in omega arith))))
          where
            Other : Out K Progress → Type 0
            Other o = o.1 ≡ Err NoCell → ⊥

            by_number : (e : Refusal) → number_of e ≢ 6 → Other (w, Err e)
            by_number e n z = n (let y : e ≡ NoCell = cc in ap number_of y)
