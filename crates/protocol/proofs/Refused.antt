-- A refused call has changed nothing. That is plain of every call but a whole entry that a mark bars:
-- both boundaries were just read empty and unmarked, and nobody else has had a turn since, so it can only come home before its first mark.
use Rattle.std.proofs.Common.{◌≡◌, ℕ, zero, suc, ◌<◌, Bool, true, false, not, ◌||◌, eqb, List, length, sym, refl, ap, ◌∙◌, subst, inl, inr, arith}
use Rattle.std.proofs.lemmas.Bool.{both_ways}
use Rattle.protocol.specs.declared.Cell.{Cell}
use Rattle.protocol.specs.declared.Station.{Station}
use Rattle.protocol.specs.Cells.{Content, empty, holds, cell, is_occupied, contents, marks, with_mark, alter_place, cells_after}
use Rattle.protocol.specs.Stages.{Direction, Stage, Idle, Home, Look, Left, Right, FirstMark, SecondMark, GiveBack, Check, Shift, ReleaseLeft, ReleaseRight, Answered, Standing, resting, homing, under_way, done, standing, busy, is_idle, holds_mark, names_cells}
use Rattle.protocol.specs.Step.{before, same, after, Walk, Here, Ended, Onward, Decision, Versus, none, is, is_after, walk_at, beside, copy_due, at_home, at_look, at_left, at_right, at_first, at_second, absent, at_check, copied, release, versus, at_shift}
use Rattle.protocol.specs.Calls.{Ok, Err, Refusal, WrongSize, OtherRegister, NotIdle, NoEntry, NoCell, World, bad_size, Out, beginning, collecting_at, collecting, withdrawing_at, withdrawing, decision, stepping, ends_by, alone, enough, whole_answer, whole_entry_by, whole_entry}
use Rattle.protocol.specs.Turns.{Turn, begin, step, collect, withdraw, enter, turned_over}
use Rattle.protocol.specs.Safety.{EndedStage}
use Rattle.protocol.proofs.Lawful.{Lawful}
use Rattle.protocol.proofs.Places.{marks_elsewhere, contents_mark}
use Rattle.protocol.proofs.Ends.{left_over, Wide, alone_ends}
use Rattle.protocol.proofs.Checked.{by_check, by_station}

module _ {K : Type 0} {N : ℕ} (κ : Lawful K N) (k : K) (cs₀ : List (Cell K)) where
  -- a boundary that can be marked
  abbrev Free : List (Cell K) → ℕ → Type 0
  Free cs p = cell N p ≡ true → (marks cs p ≡ false) × (is_occupied (contents cs p) ≡ false)

  -- what a fresh station knows that had all turns; before its first mark nothing has changed
  abbrev Quiet : List (Cell K) → Stage → Type 0
  Quiet cs Idle = Unit {0}
  Quiet cs Home = cs ≡ cs₀
  Quiet cs (Look p) = cs ≡ cs₀
  Quiet cs (Left p) = (cs ≡ cs₀) × (p < κ.kind.place k)
  Quiet cs (Right l p) = (cs ≡ cs₀) × Free cs l × (l < p)
  Quiet cs (FirstMark l r) = (cs ≡ cs₀) × Free cs l × Free cs r × (l < r)
  Quiet cs (SecondMark l r) = Free cs r
  Quiet cs (GiveBack g) = ⊥
  Quiet cs (Check l r p) = Unit {0}
  Quiet cs (Shift d l r g) = Unit {0}
  Quiet cs (ReleaseLeft l r a) = Unit {0}
  Quiet cs (ReleaseRight r a) = Unit {0}
  Quiet cs (Answered a) = Unit {0}

  module _ (cs : List (Cell K)) where
    abbrev After : Decision K → Type 0
    After m = Quiet (cells_after m.act cs) m.next

    home_quiet : cs ≡ cs₀ → (b : Bool) (v : Versus) → After (at_home k (κ.kind.place k) b v)
    home_quiet q true v = q
    home_quiet q false none = tt
    home_quiet q false (is same) = tt
    home_quiet q false (is after) = q
    home_quiet q false (is before) = q

    look_quiet : cs ≡ cs₀ → (w : Walk) → After (at_look (κ.kind.place k) w)
    look_quiet q Here = tt
    look_quiet q Ended = let low = κ.place_low k in (q, omega arith)
    look_quiet q (Onward p) = q

    left_quiet : (p : ℕ) → Quiet cs (Left p) → (b o : Bool) → marks cs p ≡ b → is_occupied (contents cs p) ≡ o
        → After (at_left (κ.kind.place k) p b o)
    left_quiet p q true o m e = q.0
    left_quiet p q false true m e = (q.0, let lt = q.1 in omega arith)
    left_quiet p q false false m e = (q.0, λ _. (m, e), let lt = q.1 in omega arith)

    right_quiet : (l p : ℕ) → Quiet cs (Right l p) → (b o : Bool) → marks cs p ≡ b → is_occupied (contents cs p) ≡ o → After (at_right l p b o)
    right_quiet l p q true o m e = q.0
    right_quiet l p q false true m e = (q.0, q.1, let lt = q.2 in omega arith)
    right_quiet l p q false false m e = (q.0, q.1, λ _. (m, e), q.2)

    first_quiet : (l r : ℕ) → Quiet cs (FirstMark l r) → (c b o : Bool) → cell N l ≡ c → marks cs l ≡ b → is_occupied (contents cs l) ≡ o
        → After (at_first l r c b o)
    first_quiet l r q false b o z m e = q.2
    first_quiet l r q true true o z m e = absurd (both_ways (marks cs l) (q.1 z).0 m)
    first_quiet l r q true false true z m e = absurd (both_ways (is_occupied (contents cs l)) (q.1 z).1 e)
    first_quiet l r q true false false z m e = λ x.
        let lt = q.3 in
        (marks_elsewhere (with_mark true) l cs r (omega arith) ∙ (q.2 x).0, ap is_occupied (contents_mark true l cs r) ∙ (q.2 x).1)

    second_quiet : (l r : ℕ) → Free cs r → (a c b o : Bool) → cell N r ≡ c → marks cs r ≡ b → is_occupied (contents cs r) ≡ o
        → After (at_second (κ.kind.place k) l r a c b o)
    second_quiet l r q a false b o z m e = tt
    second_quiet l r q a true true o z m e = absurd (both_ways (marks cs r) (q z).0 m)
    second_quiet l r q a true false true z m e = absurd (both_ways (is_occupied (contents cs r)) (q z).1 e)
    second_quiet l r q a true false false z m e = tt

    absent_quiet : (l r : ℕ) (x y b : Bool) → After (absent l r x y b)
    absent_quiet l r false false b = tt
    absent_quiet l r false true b = tt
    absent_quiet l r true false b = tt
    absent_quiet l r true true true = tt
    absent_quiet l r true true false = tt

    check_quiet : (l r : ℕ) (x y b : Bool) (w : Walk) → After (at_check l r x y b w)
    check_quiet l r x y b Here = tt
    check_quiet l r x y b Ended = absent_quiet l r x y b
    check_quiet l r x y b (Onward p) = tt

    copied_quiet : (d : Direction) (l r g : ℕ) (x : K) (b : Bool) → After (copied k d l r g x b)
    copied_quiet d l r g x true = tt
    copied_quiet d l r g x false = tt

    shift_quiet : (d : Direction) (l r g : ℕ) (c : Content K) → After (at_shift κ.kind k d l r g c)
    shift_quiet d l r g empty = tt
    shift_quiet d l r g (holds x) = copied_quiet d l r g x (copy_due d (κ.kind.order x k))

    release_quiet : (p : ℕ) (b : Bool) (x : Stage) → ((ds : List (Cell K)) → Quiet ds x) → After (release p b x)
    release_quiet p true x q = q (alter_place (with_mark false) p cs)
    release_quiet p false x q = q cs

    quiet_step : (x : Stage) → Quiet cs x → After (decision κ.kind cs k x)
    quiet_step Idle q = tt
    quiet_step Home q = home_quiet q (marks cs (κ.kind.place k)) (versus κ.kind k (contents cs (κ.kind.place k)))
    quiet_step (Look p) q = look_quiet q (walk_at (κ.kind.place k) p (versus κ.kind k (contents cs p)))
    quiet_step (Left p) q = left_quiet p q (marks cs p) (is_occupied (contents cs p)) refl refl
    quiet_step (Right l p) q = right_quiet l p q (marks cs p) (is_occupied (contents cs p)) refl refl
    quiet_step (FirstMark l r) q = first_quiet l r q (cell N l) (marks cs l) (is_occupied (contents cs l)) refl refl refl
    quiet_step (SecondMark l r) q = second_quiet l r q (cell N l) (cell N r) (marks cs r) (is_occupied (contents cs r)) refl refl refl
    quiet_step (GiveBack g) q = absurd q
    quiet_step (Check l r p) q =
        check_quiet l r (cell N l) (cell N r)
        (is_after (versus κ.kind k (contents cs (κ.kind.place k)))) (walk_at (κ.kind.place k) p (versus κ.kind k (contents cs p)))
    quiet_step (Shift d l r g) q = shift_quiet d l r g (contents cs (beside d g))
    quiet_step (ReleaseLeft l r a) q = release_quiet l (cell N l) (ReleaseRight r a) (λ _. tt)
    quiet_step (ReleaseRight r a) q = release_quiet r (cell N r) (Answered a) (λ _. tt)
    quiet_step (Answered a) q = tt

  alone_quiet : (n : ℕ) (cs : List (Cell K)) (x : Stage) → Quiet cs x → Quiet (alone κ.kind n k cs x).0 (alone κ.kind n k cs x).1
  unfolding alone
  alone_quiet zero cs x q = q
  alone_quiet (suc n) cs x q =
      let m = decision κ.kind cs k x in
      let q' = quiet_step cs x q in
      by_standing (cells_after m.act cs, m.next) (alone κ.kind n k (cells_after m.act cs) m.next)
      (standing m.next) q' (alone_quiet n (cells_after m.act cs) m.next q')
    where
      by_standing : (a b : List (Cell K) × Stage) (y : Standing) → Quiet a.0 a.1 → Quiet b.0 b.1
          → Quiet (ends_by y a b).0 (ends_by y a b).1
      by_standing a b resting p q = p
      by_standing a b homing p q = p
      by_standing a b under_way p q = q
      by_standing a b (done r) p q = p

module _ {K : Type 0} {N : ℕ} (κ : Lawful K N) (w : World K) (size : length w.cells ≡ N) where
  pub whole_over : (k : K) → EndedStage (alone κ.kind (enough N) k w.cells Home).1
  unfolding Wide left_over
  whole_over k = alone_ends κ k (enough N) w.cells Home size refl tt (omega arith)

  -- if the call is refused, nothing has changed
  abbrev Same : {A : Type 0} → Out K A → Type 0
  Same o = (e : Refusal) → o.1 ≡ Err e → o.0 ≡ w

  accepted : {A : Type 0} {v : World K} {a : A} → Same (v, Ok a)
  accepted e z = let y : ◌≡◌ {A = ℕ} 0 1 = cc in absurd (omega arith)

  collecting_same : (s : ℕ) (t : Station K) (y : Standing) → Same (collecting_at w s t y)
  collecting_same s t resting e z = refl
  collecting_same s t homing e z = refl
  collecting_same s t under_way e z = refl
  collecting_same s t (done a) e z = accepted e z

  withdrawing_same : (s : ℕ) (t : Station K) (b : Bool) → Same (withdrawing_at w s t b)
  withdrawing_same s t true e z = accepted e z
  withdrawing_same s t false e z = accepted e z

  whole_same : (k : K) → Same (whole_entry_by w (alone κ.kind (enough N) k w.cells Home))
  whole_same k e z = by_end (whole_over k)
    where
      o : List (Cell K) × Stage
      o = alone κ.kind (enough N) k w.cells Home

      by_end : EndedStage o.1 → (whole_entry_by w o).0 ≡ w
      by_end (inl h) =
          let q : o.0 ≡ w.cells = subst (Quiet κ k w.cells o.0) h (alone_quiet κ k w.cells (enough N) w.cells Home refl) in
          λ i. record { number = w.number; cells = q i; stations = w.stations }
      by_end (inr h) =
          let y : Ok h.0 ≡ Err e = ap (λ x. whole_answer (standing x)) (sym h.1) ∙ z in
          let n : ◌≡◌ {A = ℕ} 0 1 = cc in absurd (omega arith)

  pub refused_unchanged : (t : Turn K) → Same (turned_over κ.kind w t)
  unfolding beginning stepping collecting withdrawing whole_entry
  refused_unchanged (begin s k) =
      by_check Same (bad_size N) WrongSize w _ (λ e z. refl) (λ _.
      by_station Same w s _ (λ e z. refl) (λ b u q.
      by_check Same (not (is_idle u.stage)) NotIdle w _ (λ e z. refl) (λ _. accepted)))
  refused_unchanged (step s) =
      by_check Same (bad_size N) WrongSize w _ (λ e z. refl) (λ _.
      by_station Same w s _ (λ e z. refl) (λ b u q.
      by_check Same (not (busy u.stage)) NoEntry w _ (λ e z. refl) (λ _.
      by_check Same (not (names_cells N u.stage)) NoCell w _ (λ e z. refl) (λ _. accepted))))
  refused_unchanged (collect n s) =
      by_check Same (bad_size N) WrongSize w _ (λ e z. refl) (λ _.
      by_check Same (not (eqb n w.number)) OtherRegister w _ (λ e z. refl) (λ _.
      by_station Same w s _ (λ e z. refl) (λ b u q.
      by_check Same u.withdrawn NoEntry w _ (λ e z. refl) (λ _. collecting_same s u (standing u.stage)))))
  refused_unchanged (withdraw n s) =
      by_check Same (bad_size N) WrongSize w _ (λ e z. refl) (λ _.
      by_check Same (not (eqb n w.number)) OtherRegister w _ (λ e z. refl) (λ _.
      by_station Same w s _ (λ e z. refl) (λ b u q.
      by_check Same (is_idle u.stage || u.withdrawn) NoEntry w _ (λ e z. refl) (λ _. withdrawing_same s u (holds_mark N u.stage)))))
  refused_unchanged (enter k) = by_check Same (bad_size N) WrongSize w _ (λ e z. refl) (λ _. whole_same k)
