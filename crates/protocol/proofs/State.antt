-- A register with its log as functions of place and station: the form in which the proofs speak of it.
use Rattle.std.proofs.Common.{ℕ, Bool, true, false, cond, eqb, List}
use Rattle.protocol.specs.declared.Station.{Station}
use Rattle.protocol.specs.Cells.{Content, holds, Act, Rest, Mark, Unmark, Write, updated}
use Rattle.protocol.specs.Stages.{Answer, Stage, busy, settled}
use Rattle.protocol.specs.Step.{Kind, Decision, decide}
use Rattle.protocol.specs.Calls.{stepped_record}
use Rattle.protocol.specs.Turns.{noted, watched}

pub record State (K : Type 0) : Type 0 where
  pub contents : ℕ → Content K
  pub marked : ℕ → Bool
  pub station : ℕ → Station K
  pub effects : List (K × Answer)
  pub unfinished : ℕ → Bool
  pub held : ℕ → ℕ → Bool

module _ {K : Type 0} where
  abbrev pub contents_after : Act K → (ℕ → Content K) → ℕ → Content K
  contents_after Rest T = T
  contents_after (Mark p) T = T
  contents_after (Unmark p) T = T
  contents_after (Write p k) T = updated T p (holds k)

  abbrev pub marks_after : Act K → (ℕ → Bool) → ℕ → Bool
  marks_after Rest M = M
  marks_after (Mark p) M = updated M p true
  marks_after (Unmark p) M = updated M p false
  marks_after (Write p k) M = M

  -- station s gets the record t, and its entry is unfinished or not
  abbrev pub with_station : State K → ℕ → Station K → Bool → State K
  with_station w s t u =
      record {
        contents =
            w.contents;
        marked = w.marked;
        station = updated w.station s t;
        effects = w.effects;
        unfinished = updated w.unfinished s u;
        held = w.held;
      }

  abbrev pub step_by : State K → ℕ → Station K → Decision K → Stage → State K
  step_by w s t m x = record {
    contents = contents_after m.act w.contents;
    marked = marks_after m.act w.marked;
    station = updated w.station s (stepped_record t x);
    effects = noted t.key m.effect w.effects;
    unfinished = updated w.unfinished s (busy x);
    held = λ s' p. cond (eqb s s') (watched (w.marked p) (marks_after m.act w.marked p) (w.held s p)) (w.held s' p);
  }

-- the step of station s with the record t, whatever its stage
abbrev pub step_with : {K : Type 0} {N : ℕ} → Kind K N → State K → ℕ → Station K → State K
step_with κ w s t =
    let m = decide κ t.key t.stage w.contents w.marked in
    step_by w s t m (settled t.withdrawn m.next)

unfoldable pub stepped : {K : Type 0} {N : ℕ} → Kind K N → State K → ℕ → State K
stepped κ w s = step_with κ w s (w.station s)
