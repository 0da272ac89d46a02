-- A whole entry keeps the invariant: its fresh station has the number after the last.
use Rattle.std.proofs.Common.{◌≡◌, ℕ, zero, suc, ◌≤◌, Bool, true, false, cond, eqb, ◌≢◌, List, length, sym, refl, ap, ◌∙◌, subst, ⊎_elim, arith}
use Rattle.std.proofs.lemmas.Bool.{cases_eq, both_ways, ne_eqb, cond-false}
use Rattle.protocol.specs.declared.Cell.{Cell}
use Rattle.protocol.specs.declared.Station.{Station}
use Rattle.protocol.specs.Cells.{Content, empty, updated, nth, contents, marks, cells_after}
use Rattle.protocol.specs.Stages.{Stage, Idle, Home, Answered, Standing, resting, homing, under_way, done, standing, busy_by, busy, idle_by, is_idle, holds_mark}
use Rattle.protocol.specs.Step.{Effect, Decision}
use Rattle.protocol.specs.Calls.{WrongSize, World, bad_size, bad_count, idled, decision, ends_by, alone, enough, whole_answer, whole_entry}
use Rattle.protocol.specs.Turns.{enter, Log, noted, watched, log_enter}
use Rattle.protocol.proofs.Lawful.{Lawful}
use Rattle.protocol.proofs.Updates.{updated_same, updated_at, updated_other}
use Rattle.protocol.proofs.Standings.{Means, stage_is}
use Rattle.protocol.proofs.Holding.{holder}
use Rattle.protocol.proofs.State.{State, marks_after, with_station, step_by}
use Rattle.protocol.proofs.Effects.{given, once, noted_once}
use Rattle.protocol.proofs.Places.{length_after, Acted, acted, contents_inside, nth_past}
use Rattle.protocol.proofs.Ends.{left_over, Wide, Falls, falls, positive}
use Rattle.protocol.proofs.Checked.{by_check}
use Rattle.protocol.proofs.Preserved.{updated_twice, Inv, rest_inv, rekey_inv, begin_inv, step_inv}
use Rattle.protocol.proofs.Kept.{idle_record, record_of, records_of, state, edge_unmarked, inv_ext, stepped_is, Kept, Goal}

module _ {K : Type 0} {N : ℕ} (κ : Lawful K N) (filler : K) (w : World K) (g : Log K) (f : Kept κ filler w g) (k : K) where
  abbrev own_number : ℕ
  own_number = length w.stations

  abbrev fresh_at : Stage → Station K
  fresh_at x = record { key = k; stage = x; withdrawn = false }

  abbrev mid : List (Cell K) → Stage → (ℕ → ℕ → Bool) → State K
  mid cs x hd = record {
    contents = contents cs;
    marked = marks cs;
    station = updated (records_of filler w.stations) own_number (fresh_at x);
    effects = noted k (given x) g.effects;
    unfinished = updated g.unfinished own_number (busy x);
    held = hd;
  }

  -- in the middle of a whole entry
  record Mid (cs : List (Cell K)) (x : Stage) : Type 0 where
    hd : ℕ → ℕ → Bool
    inv : Inv κ (mid cs x hd)
    others : (s p : ℕ) → own_number ≢ s → hd s p ≡ g.held s p
    size : length cs ≡ N

  own_idle : records_of filler w.stations own_number ≡ idle_record filler
  own_idle = go (bad_count (length w.stations)) (nth w.stations own_number) (nth_past w.stations own_number (omega arith))
    where
      go : (b : Bool) (o : Content (Station K)) → o ≡ empty → record_of filler b o ≡ idle_record filler
      go true o e = refl
      go false o e = ap (record_of filler false) e

  mid_start : Mid w.cells Home
  mid_start =
      record {
        hd = g.held;
        inv = begin_inv κ (state filler w g) f.inv own_number k (ap (λ x. x.stage) own_idle);
        others = λ s p n. refl;
        size = f.size;
      }

  mid_step : (cs : List (Cell K)) (x : Stage) → Mid cs x → Mid (cells_after (decision κ.kind cs k x).act cs) (decision κ.kind cs k x).next
  mid_step cs x d = record {
    hd = hd';
    inv = inv_ext κ (step_by v own_number (fresh_at x) m m.next) (mid (cells_after m.act cs) m.next hd') act_is.0 act_is.1
        (λ r. ap (λ z. z r) (sym (updated_twice (records_of filler w.stations) own_number (fresh_at x) (fresh_at m.next))))
        (sym (noted_once k g.effects m.effect (given x) (given m.next) (once κ.kind k x (contents cs) (marks cs))))
        (λ r. ap (λ z. z r) (sym (updated_twice g.unfinished own_number (busy x) (busy m.next))))
        (λ r p. refl) after_it;
    others =
        λ s p n.
        cond-false (eqb own_number s)
        (watched (marks cs p) (marks_after m.act (marks cs) p) (d.hd own_number p))
        (d.hd s p) (ne_eqb own_number s n)
        ∙ d.others s p n;
    size = length_after m.act cs ∙ d.size;
  }
    where
      m : Decision K
      m = decision κ.kind cs k x

      v : State K
      v = mid cs x d.hd

      hd' : ℕ → ℕ → Bool
      hd' = λ s' p. cond (eqb own_number s') (watched (marks cs p) (marks_after m.act (marks cs) p) (d.hd own_number p)) (d.hd s' p)

      after_it : Inv κ (step_by v own_number (fresh_at x) m m.next)
      after_it =
          subst (Inv κ)
          (stepped_is κ v own_number (fresh_at x) (updated_same (records_of filler w.stations) own_number (fresh_at x)))
          (step_inv κ v d.inv own_number)

      act_is : Acted m.act cs
      act_is =
          acted m.act cs N d.size after_it.core.edge_low after_it.core.edge_high
          (edge_unmarked κ (step_by v own_number (fresh_at x) m m.next) after_it)

  idle_held : (v : State K) → Inv κ v → (s : ℕ) → (v.station s).stage ≡ Idle → (p : ℕ) → v.held s p ≡ false
  idle_held v i s e p = i.held_is s p ∙ sym (i.core.owned s p) ∙ ap (λ x. holder N x p) e

  abbrev entered_cells : List (Cell K) → World K
  entered_cells cs = record { number = w.number; cells = cs; stations = w.stations }

  abbrev entered_log : Effect → Log K
  entered_log e = record { effects = noted k e g.effects; unfinished = g.unfinished; held = g.held; answer = g.answer }

  -- where the fresh station holds no mark it may be forgotten
  mid_end : (cs : List (Cell K)) (x : Stage) → Mid cs x → holds_mark N x ≡ false → Kept κ filler (entered_cells cs) (entered_log (given x))
  mid_end cs x d h = record {
    inv = inv_ext κ v₂ (state filler (entered_cells cs) (entered_log (given x))) (λ p. refl) (λ p. refl)
        (λ r.
        ⊎_elim
        (λ (z : own_number ≡ r). ap (records_of filler w.stations) (sym z) ∙ own_idle ∙ sym (updated_at v₁.station own_number r (idle_record filler) z))
        (λ n.
        sym
        (updated_other v₁.station own_number r (idle_record filler) n
        ∙ updated_other v.station own_number r (idled (v.station own_number)) n
        ∙ updated_other (records_of filler w.stations) own_number r (fresh_at x) n))
        (cases_eq own_number r))
        refl
        (λ r.
        ⊎_elim
        (λ (z : own_number ≡ r).
        ap g.unfinished (sym z)
        ∙ f.inv.busy_is own_number
        ∙ ap (λ y. busy y.stage) own_idle
        ∙ sym (updated_at v₁.unfinished own_number r false z))
        (λ n.
        sym
        (updated_other v₁.unfinished own_number r false n
        ∙ updated_other v.unfinished own_number r false n
        ∙ updated_other g.unfinished own_number r (busy x) n))
        (cases_eq own_number r))
        (λ s p.
        ⊎_elim
        (λ (z : own_number ≡ s).
        ap (λ y. g.held y p) (sym z)
        ∙ idle_held (state filler w g) f.inv own_number (ap (λ y. y.stage) own_idle) p
        ∙ sym
        (ap (λ y. d.hd y p) (sym z)
        ∙ idle_held v₂ i₂ own_number (ap (λ y. y.stage) (updated_same v₁.station own_number (idle_record filler))) p))
        (λ n. sym (d.others s p n)) (cases_eq own_number s))
        i₂;
    size = d.size;
    answers = f.answers;
    named = f.named;
  }
    where
      v : State K
      v = mid cs x d.hd

      v₁ : State K
      v₁ = with_station v own_number (idled (v.station own_number)) false

      v₂ : State K
      v₂ = with_station v₁ own_number (idle_record filler) false

      i₁ : Inv κ v₁
      i₁ = rest_inv κ v d.inv own_number x (ap (λ y. y.stage) (updated_same (records_of filler w.stations) own_number (fresh_at x))) h

      i₂ : Inv κ v₂
      i₂ = rekey_inv κ v₁ i₁ own_number filler (ap (λ y. y.stage) (updated_same v.station own_number (idled (v.station own_number))))

  abbrev EndedKept : List (Cell K) × Stage → Type 0
  EndedKept o = Kept κ filler (entered_cells o.0) (log_enter k (whole_answer (standing o.1)) g)

  -- after a step: it has ended, or it goes on
  ends_kept : (cs : List (Cell K)) (x : Stage) → Mid cs x → is_idle x ≡ false → (o : List (Cell K) × Stage) → (busy x ≡ true → EndedKept o)
      → (y : Standing) → Means x y → standing x ≡ y → EndedKept (ends_by y (cs, x) o)
  ends_kept cs x d h o i resting t e = absurd (both_ways (is_idle x) h (ap idle_by e))
  ends_kept cs x d h o i homing t e = subst (λ z. EndedKept (cs, z)) (sym t) (mid_end cs Home (subst (Mid cs) t d) refl)
  ends_kept cs x d h o i under_way t e = i (ap busy_by e)
  ends_kept cs x d h o i (done a) t e = subst (λ z. EndedKept (cs, z)) (sym t) (mid_end cs (Answered a) (subst (Mid cs) t d) refl)

  alone_kept : (n : ℕ) (cs : List (Cell K)) (x : Stage) → Mid cs x → busy x ≡ true → Wide N x → left_over N (κ.kind.place k) x ≤ n
      → EndedKept (alone κ.kind n k cs x)
  unfolding alone Falls
  alone_kept zero cs x d b q le = let z = positive κ k x b in absurd (omega arith)
  alone_kept (suc n) cs x d b q le =
      let m = decision κ.kind cs k x in
      let cs' = cells_after m.act cs in
      let o = alone κ.kind n k cs' m.next in
      let d' = mid_step cs x d in
      ⊎_elim (λ e. subst (λ y. EndedKept (ends_by (standing y) (cs', y) o)) (sym e) (mid_end cs' Home (subst (Mid cs') e d') refl))
      (λ h.
      ends_kept cs' m.next d' h.2 o
      (λ b'. alone_kept n cs' m.next d' b' h.0 (omega arith)) (standing m.next)
      (stage_is m.next) refl)
      (falls κ k (contents cs) (marks cs) (contents_inside cs N d.size) x b q)

  pub entered_kept : Goal κ filler w g (enter k) (whole_entry κ.kind w k)
  unfolding whole_entry Goal Wide left_over
  entered_kept =
      by_check (λ o. Kept κ filler o.0 (log_enter k o.1 g)) (bad_size N) WrongSize w _ f
      (λ _. alone_kept (enough N) w.cells Home mid_start refl tt (omega arith))
