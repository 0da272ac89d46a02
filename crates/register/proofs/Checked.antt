-- Each call is its checks, from top to bottom, and then what it does with the record.
use Rattle.std.proofs.Common.{◌≡◌, ℕ, Bool, true, false, cond, not, List, length, set, IsErrAnd, refl, sym, ap, ◌∙◌, arith}
use Rattle.std.proofs.lemmas.Bool.{both_ways}
use Rattle.std.proofs.lemmas.Result.{err_from_is_err_and}
use Rattle.protocol.specs.declared.Cell.{Cell}
use Rattle.protocol.specs.declared.Station.{Station}
use Rattle.protocol.specs.declared.Stage.{Stage}
use Rattle.protocol.specs.declared.Progress.{Progress}
use Rattle.protocol.specs.declared.Answer.{Answer}
use Rattle.protocol.specs.declared.Refusal.{Refusal}
use Rattle.protocol.specs.declared.Refusal.TheVariants.{WrongSize, NoStation, NoCell}
use Rattle.protocol.specs.Cells.{Content, empty, holds, nth}
use Rattle.protocol.specs.Stages.{Standing, resting, homing, under_way, done, settled, names_cells}
use Rattle.protocol.specs.Step.{Kind}
use Rattle.protocol.specs.Calls.{Result, Ok, Err, World, Out, bad_size, bad_count, refused_if, for_record, at_station, put_record, idled, collecting_at, says, stepped_record, stepping_by, decision}
use Rattle.stages.specs.declared.Entry.{Entry}
use Rattle.stages.specs.Turning.{Turned, turned_down, step_made, turning}
use Rattle.register.specs.Checks.{refused_when, seated, seat, answer_by}
use Rattle.register.specs.Memory.{world}

-- the refusal that a `?` hands on
pub handed_on : {K A : Type 0} (w : World K) (r : Result A Refusal) (e : Refusal) → IsErrAnd r (λ x. x ≡ e) → ◌≡◌ {A = World K × Result A Refusal} (w, r) (w, Err e)
handed_on w r e h = let p = err_from_is_err_and r h in ap (λ x. (w, x)) (p.1 ∙ ap Err p.2)

-- a check that does not refuse
pub not_so : (b : Bool) (e : Refusal) → Ok tt ≡ refused_when b e → false ≡ b
not_so true e h = let z : ◌≡◌ {A = ℕ} 0 1 = cc in absurd (omega arith)
not_so false e h = refl

module _ {K A : Type 0} (w : World K) where
  -- the refusal of a check, or what follows it
  abbrev after : {B : Type 0} → Result B Refusal → (B → Out K A) → Out K A
  after (Err e) f = (w, Err e)
  after (Ok b) f = f b

  check_is : (b : Bool) (e : Refusal) (o : Out K A) → refused_if b e w o ≡ after (refused_when b e) (λ _. o)
  unfolding refused_if
  check_is true e o = refl
  check_is false e o = refl

  pub stopped : (b : Bool) (e : Refusal) (o : Out K A) (x : Refusal) → Err x ≡ refused_when b e → (w, Err x) ≡ refused_if b e w o
  stopped b e o x h = ap (λ r. after r (λ _. o)) h ∙ sym (check_is b e o)

  pub passed : (b : Bool) (e : Refusal) (o : Out K A) → Ok tt ≡ refused_when b e → o ≡ refused_if b e w o
  passed b e o h = ap (λ r. after r (λ _. o)) h ∙ sym (check_is b e o)

  pub refused : (b : Bool) (e : Refusal) (o : Out K A) → true ≡ b → (w, Err e) ≡ refused_if b e w o
  unfolding refused_if
  refused b e o h = ap (λ c. refused_if c e w o) h

  pub goes_on : (b : Bool) (e : Refusal) (o : Out K A) → false ≡ b → o ≡ refused_if b e w o
  unfolding refused_if
  goes_on b e o h = ap (λ c. refused_if c e w o) h

  seat_is : (s : ℕ) (f : Station K → Out K A) → at_station w s f ≡ after (seat w.stations s) f
  unfolding refused_if for_record
  seat_is s f = go (bad_count (length w.stations)) (nth w.stations s)
    where
      go : (b : Bool) (o : Content (Station K)) → refused_if b NoStation w (for_record w o f) ≡ after (cond b (Err NoStation) (seated o)) f
      go true o = refl
      go false empty = refl
      go false (holds t) = refl

  pub no_station : (s : ℕ) (f : Station K → Out K A) (x : Refusal) → Err x ≡ seat w.stations s → (w, Err x) ≡ at_station w s f
  no_station s f x h = ap (λ r. after r f) h ∙ sym (seat_is s f)

  pub with_record : (s : ℕ) (f : Station K → Out K A) (t : Station K) → Ok t ≡ seat w.stations s → f t ≡ at_station w s f
  with_record s f t h = ap (λ r. after r f) h ∙ sym (seat_is s f)

-- an entry that is not answered yet is not collected
module _ {K : Type 0} (w : World K) (s : ℕ) (t : Station K) where
  abbrev by_answer : Result Answer Refusal → Out K Answer
  by_answer (Err e) = (w, Err e)
  by_answer (Ok a) = (put_record w s (idled t), Ok a)

  answer_is : (y : Standing) → by_answer (answer_by y) ≡ collecting_at w s t y
  answer_is resting = refl
  answer_is homing = refl
  answer_is under_way = refl
  answer_is (done a) = refl

  pub not_answered : (y : Standing) (e : Refusal) → Err e ≡ answer_by y → (w, Err e) ≡ collecting_at w s t y
  not_answered y e h = ap by_answer h ∙ answer_is y

  pub answered : (y : Standing) (a : Answer) → Ok a ≡ answer_by y → (put_record w s (idled t), Ok a) ≡ collecting_at w s t y
  answered y a h = ap by_answer h ∙ answer_is y

-- the step of an entry at the end of a station's checks
module _ {K : Type 0} {N : ℕ} (κ : Kind K N) (w : World K) (s : ℕ) (t : Station K) where
  abbrev entry_of : Entry K
  entry_of = record { key = t.key; stage = t.stage }

  -- what a station's step comes to, from what the turn of its entry comes to
  abbrev by_turn : Turned K → Out K Progress
  by_turn (cs, e, Err x) = (world w.number cs w.stations, Err x)
  by_turn (cs, e, Ok u) = let y = settled t.withdrawn e.stage in (world w.number cs (set w.stations s (stepped_record t y)), Ok (says y))

  abbrev made : Out K Progress
  made = stepping_by w s t (decision κ w.cells t.key t.stage)

  turn_is : (b c : Bool) → false ≡ b
      → by_turn (cond b (turned_down w.cells entry_of WrongSize) (cond c (step_made w.cells entry_of (decision κ w.cells t.key t.stage)) (turned_down w.cells entry_of NoCell)))
      ≡ refused_if (not c) NoCell w made
  unfolding refused_if
  turn_is true c h = absurd (both_ways true (sym h) refl)
  turn_is false true h = refl
  turn_is false false h = refl

  module _ (good : false ≡ bad_size N) where
    pub turned_to : (o : Turned K) → o ≡ turning κ w.cells entry_of → by_turn o ≡ refused_if (not (names_cells N t.stage)) NoCell w made
    turned_to o h = ap by_turn h ∙ turn_is (bad_size N) (names_cells N t.stage) good

    -- what the code has put together is the step
    pub stepped : (cs : List (Cell K)) (e : Entry K) → (cs, e, Ok tt) ≡ turning κ w.cells entry_of → (y : Stage) (b : Bool) (p : Progress)
        → y ≡ settled t.withdrawn e.stage → b ≡ (stepped_record t y).withdrawn → p ≡ says y
        → ◌≡◌ {A = Out K Progress} (world w.number cs (set w.stations s (record { key = t.key; stage = y; withdrawn = b })), Ok p)
        (refused_if (not (names_cells N t.stage)) NoCell w made)
    stepped cs e h y b p e1 e2 e3 =
        let put : Stage → Bool → Progress → Out K Progress =
        λ x v q. (world w.number cs (set w.stations s (record { key = t.key; stage = x; withdrawn = v })), Ok q) in
        ap (λ v. put y v p) e2 ∙ ap (put y (stepped_record t y).withdrawn) e3 ∙ ap (λ x. put x (stepped_record t x).withdrawn (says x)) e1 ∙ turned_to (cs, e, Ok tt) h
