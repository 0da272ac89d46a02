-- A run is a list of turns. Its log is read off what can be seen: the effects of steps, the replies, and the marks before and after a step.
use Rattle.std.specs.Prelude.{ℕ, Bool, true, false, cond, List, [], ◌∷◌, length, ◌==◌}
use Rattle.protocol.specs.declared.Station.{Station}
use Rattle.protocol.specs.declared.Progress.TheVariants as progress
use Rattle.protocol.specs.declared.Departure.TheVariants as departure
use Rattle.protocol.specs.Cells.{Content, empty, holds, updated, nth, marks}
use Rattle.protocol.specs.Stages.{Answer}
use Rattle.protocol.specs.Step.{Ordering, Kind, kind_over, Effect, nothing, took}
use Rattle.protocol.specs.Calls.{Result, Ok, Err, Refusal, Progress, Departure, World, Out, SlipNumbers, beginning, collecting, withdrawing, decision, stepping, whole_entry}

-- a call with what it is given: a station's number, a key, a slip's two numbers
pub data Turn (K : Type 0) : Type 0 where
  begin : ℕ → K → Turn K
  step : ℕ → Turn K
  collect : ℕ → ℕ → Turn K
  withdraw : ℕ → ℕ → Turn K
  enter : K → Turn K

module _ {K : Type 0} where
  -- what the call answers where it is not refused
  abbrev pub Reply : Turn K → Type 0
  Reply (begin s k) = SlipNumbers
  Reply (step s) = Progress
  Reply (collect n s) = Answer
  Reply (withdraw n s) = Departure
  Reply (enter k) = Answer

  abbrev pub turned_over : {N : ℕ} → Kind K N → World K → (t : Turn K) → Out K (Reply t)
  turned_over {N} κ w (begin s k) = beginning N w s k
  turned_over {N} κ w (step s) = stepping κ w s
  turned_over {N} κ w (collect n s) = collecting N w n s
  turned_over {N} κ w (withdraw n s) = withdrawing N w n s
  turned_over {N} κ w (enter k) = whole_entry κ w k

-- every call of a register, for a kind of key with this comparison and this home
abbrev pub turned : {K : Type 0} → (K → K → Ordering) → (K → ℕ → ℕ) → World K → (t : Turn K) → Out K (Reply t)
turned order home w t = turned_over (kind_over order home (length w.cells)) w t

-- The entry last begun at a station is known by the station's number; a whole entry is over within its turn.
pub record Log (K : Type 0) : Type 0 where
  -- each effect with its key, the latest first
  pub effects : List (K × Answer)
  -- is the entry unfinished?
  pub unfinished : ℕ → Bool
  -- does it hold the cell at that place?
  pub held : ℕ → ℕ → Bool
  -- its answer, once it has taken effect
  pub answer : ℕ → Effect

abbrev pub no_log : {K : Type 0} → Log K
no_log = record { effects = []; unfinished = λ s. false; held = λ s p. false; answer = λ s. nothing }

abbrev pub noted : {K : Type 0} → K → Effect → List (K × Answer) → List (K × Answer)
noted k nothing es = es
noted k (took a) es = (k, a) ∷ es

-- the answer after an effect
abbrev pub latest : Effect → Effect → Effect
latest nothing old = old
latest (took a) old = took a

-- an entry is unfinished until its step says ANSWERED or IDLE, or its withdrawal GONE
abbrev pub after_progress : Progress → Bool → Bool
after_progress progress.GoesOn old = old
after_progress progress.Answered old = false
after_progress progress.Idle old = false

abbrev pub after_departure : Departure → Bool → Bool
after_departure departure.Gone old = false
after_departure departure.GoesOn old = old

-- an entry holds a cell from its step that marks it to its step that unmarks it: was it marked, is it now, was it held?
abbrev pub watched : Bool → Bool → Bool → Bool
watched false true old = true
watched true false old = false
watched false false old = old
watched true true old = old

module _ {K : Type 0} where
  -- the log after a turn, from the reply and, at a step, the record before it and the marks before and after it
  abbrev pub log_begin : ℕ → Result SlipNumbers Refusal → Log K → Log K
  log_begin s (Err e) g = g
  log_begin s (Ok n) g = record { effects = g.effects; unfinished = updated g.unfinished s true; held = g.held; answer = updated g.answer s nothing }

  abbrev pub log_step : ℕ → (ℕ → Bool) → (ℕ → Bool) → K → Effect → Result Progress Refusal → Log K → Log K
  log_step s M M' k e (Err x) g = g
  log_step s M M' k e (Ok x) g = record {
    effects = noted k e g.effects;
    unfinished = updated g.unfinished s (after_progress x (g.unfinished s));
    held = λ s' p. cond (s == s') (watched (M p) (M' p) (g.held s p)) (g.held s' p);
    answer = updated g.answer s (latest e (g.answer s));
  }

  abbrev pub log_withdraw : ℕ → Result Departure Refusal → Log K → Log K
  log_withdraw s (Err e) g = g
  log_withdraw s (Ok x) g = record { effects = g.effects; unfinished = updated g.unfinished s (after_departure x (g.unfinished s)); held = g.held; answer = g.answer }

  abbrev pub log_enter : K → Result Answer Refusal → Log K → Log K
  log_enter k (Err e) g = g
  log_enter k (Ok a) g = record { effects = (k, a) ∷ g.effects; unfinished = g.unfinished; held = g.held; answer = g.answer }

  abbrev pub log_at : {N : ℕ} → Kind K N → World K → ℕ → Content (Station K) → Out K Progress → Log K → Log K
  log_at κ w s empty o g = g
  log_at κ w s (holds t) o g = log_step s (marks w.cells) (marks o.0.cells) t.key (decision κ w.cells t.key t.stage).effect o.1 g

  abbrev pub logged_over : {N : ℕ} → Kind K N → World K → (t : Turn K) → Out K (Reply t) → Log K → Log K
  logged_over κ w (begin s k) o g = log_begin s o.1 g
  logged_over κ w (step s) o g = log_at κ w s (nth w.stations s) o g
  logged_over κ w (collect n s) o g = g
  logged_over κ w (withdraw n s) o g = log_withdraw s o.1 g
  logged_over κ w (enter k) o g = log_enter k o.1 g

module _ {K : Type 0} (order : K → K → Ordering) (home : K → ℕ → ℕ) where
  abbrev pub logged : World K → Turn K → Log K → Log K
  logged w t g = logged_over (kind_over order home (length w.cells)) w t (turned order home w t) g

  -- the memory and the log after these turns
  unfoldable pub after_turns : List (Turn K) → World K × Log K → World K × Log K
  after_turns [] a = a
  after_turns (t ∷ ts) a = after_turns ts ((turned order home a.0 t).0, logged a.0 t a.1)
