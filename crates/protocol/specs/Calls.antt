-- Each call of a register, as a function of its memory. The checks run from top to bottom, and a refusal changes nothing.
use Rattle.std.specs.Prelude.{ℕ, zero, suc, ◌+◌, ◌*◌, Bool, true, false, cond, not, ◌&&◌, ◌||◌, List, map, length, ◌==◌, nat_lt, slice_set}
pub use Rattle.std.specs.declared.result.Result.{Result}
pub use Rattle.std.specs.declared.result.Result.TheVariants.{Ok, Err}
pub use Rattle.protocol.specs.declared.Refusal.{Refusal}
pub use Rattle.protocol.specs.declared.Refusal.TheVariants.{WrongSize, OtherRegister, NoStation, NotIdle, NoEntry, NoCell, NotAnswered, Barred}
pub use Rattle.protocol.specs.declared.Progress.{Progress}
pub use Rattle.protocol.specs.declared.Departure.{Departure}
use Rattle.protocol.specs.declared.Cell.{Cell}
use Rattle.protocol.specs.declared.Station.{Station}
use Rattle.protocol.specs.declared.Progress.TheVariants as progress
use Rattle.protocol.specs.declared.Departure.TheVariants as departure
use Rattle.protocol.specs.Cells.{Content, empty, holds, Act, nth, content_at, contents, marks, cells_after}
use Rattle.protocol.specs.Stages.{Answer, Stage, Idle, Home, Standing, resting, homing, under_way, done, standing, busy, is_idle, settled, holds_mark, names_cells}
use Rattle.protocol.specs.Step.{Kind, Decision, decide}

-- a register's number, its cells and its station records
pub record World (K : Type 0) : Type 0 where
  pub number : ℕ
  pub cells : List (Cell K)
  pub stations : List (Station K)

-- 1: 0 cells or more than 65,536
abbrev pub bad_size : ℕ → Bool
bad_size N = N == 0 || nat_lt 65536 N

-- 3: no stations or more than 64
abbrev pub bad_count : ℕ → Bool
bad_count n = n == 0 || nat_lt 64 n

-- what a call leaves, and what it answers
abbrev pub Out : Type 0 → Type 0 → Type 0
Out K A = World K × Result A Refusal

module _ {K : Type 0} where
  -- one check of a call: if it fails, the call is refused and changes nothing
  unfoldable pub refused_if : {A : Type 0} → Bool → Refusal → World K → Out K A → Out K A
  refused_if true e w o = (w, Err e)
  refused_if false e w o = o

  unfoldable pub for_record : {A : Type 0} → World K → Content (Station K) → (Station K → Out K A) → Out K A
  for_record w empty f = (w, Err NoStation)
  for_record w (holds t) f = f t

  -- the check for station s, and what follows with its record
  abbrev pub at_station : {A : Type 0} → World K → ℕ → (Station K → Out K A) → Out K A
  at_station w s f = refused_if (bad_count (length w.stations)) NoStation w (for_record w (nth w.stations s) f)

  -- the record of station s is written
  abbrev pub put_record : World K → ℕ → Station K → World K
  put_record w s t = record { number = w.number; cells = w.cells; stations = slice_set w.stations s t }

  abbrev pub fresh : K → Station K
  fresh k = record { key = k; stage = Home; withdrawn = false }

  -- an idle station keeps its last key
  abbrev pub idled : Station K → Station K
  idled t = record { key = t.key; stage = Idle; withdrawn = false }

  abbrev pub leaving : Station K → Station K
  leaving t = record { key = t.key; stage = t.stage; withdrawn = true }

-- OPENING
module _ {K : Type 0} where
  -- every cell is emptied and unmarked, and the filler written there
  abbrev pub blank : K → Cell K → Cell K
  blank filler c = record { key = filler; occupied = false; marked = false }

  -- every station becomes idle, but with no station records or more than 64 no record is written
  abbrev pub idle_records : List (Station K) → List (Station K)
  idle_records ts = cond (bad_count (length ts)) ts (map idled ts)

  -- over 0 cells or more than 65,536 nothing is written
  abbrev pub opening_if : Bool → ℕ → List (Cell K) → List (Station K) → K → World K
  opening_if true number cs ts filler = record { number = number; cells = cs; stations = ts }
  opening_if false number cs ts filler = record { number = number; cells = map (blank filler) cs; stations = idle_records ts }

  abbrev pub opening : ℕ → List (Cell K) → List (Station K) → K → World K
  opening number cs ts filler = opening_if (bad_size (length cs)) number cs ts filler

-- BEGINNING, of N cells: the station starts at home, and the slip has the register's number and the station's
abbrev pub SlipNumbers : Type 0
SlipNumbers = ℕ × ℕ

unfoldable pub beginning : {K : Type 0} → ℕ → World K → ℕ → K → Out K SlipNumbers
beginning N w s k =
    refused_if (bad_size N) WrongSize w
    (at_station w s
    (λ t. refused_if (not (is_idle t.stage)) NotIdle w
    (put_record w s (fresh k), Ok (w.number, s))))

-- COLLECTING: an answered entry gives its answer, and its station becomes idle
abbrev pub collecting_at : {K : Type 0} → World K → ℕ → Station K → Standing → Out K Answer
collecting_at w s t resting = (w, Err NoEntry)
collecting_at w s t homing = (w, Err NotAnswered)
collecting_at w s t under_way = (w, Err NotAnswered)
collecting_at w s t (done a) = (put_record w s (idled t), Ok a)

unfoldable pub collecting : {K : Type 0} → ℕ → World K → ℕ → ℕ → Out K Answer
collecting N w number s =
    refused_if (bad_size N) WrongSize w
    (refused_if (not (number == w.number)) OtherRegister w
    (at_station w s
    (λ t. refused_if t.withdrawn NoEntry w
    (collecting_at w s t (standing t.stage)))))

-- WITHDRAWING: an entry that holds a mark is stepped on, any other is gone
abbrev pub withdrawing_at : {K : Type 0} → World K → ℕ → Station K → Bool → Out K Departure
withdrawing_at w s t true = (put_record w s (leaving t), Ok departure.GoesOn)
withdrawing_at w s t false = (put_record w s (idled t), Ok departure.Gone)

unfoldable pub withdrawing : {K : Type 0} → ℕ → World K → ℕ → ℕ → Out K Departure
withdrawing N w number s =
    refused_if (bad_size N) WrongSize w
    (refused_if (not (number == w.number)) OtherRegister w
    (at_station w s
    (λ t. refused_if (is_idle t.stage || t.withdrawn) NoEntry w
    (withdrawing_at w s t (holds_mark N t.stage)))))

-- STEPPING: ANSWERED, IDLE or else GOES ON, by the stage that the step has led to
abbrev pub says_by : Standing → Progress
says_by resting = progress.Idle
says_by homing = progress.GoesOn
says_by under_way = progress.GoesOn
says_by (done a) = progress.Answered

abbrev pub says : Stage → Progress
says x = says_by (standing x)

-- the record of a station whose step has led to stage x; becoming idle ends the withdrawal
abbrev pub stepped_record : {K : Type 0} → Station K → Stage → Station K
stepped_record t x = record { key = t.key; stage = x; withdrawn = t.withdrawn && busy x }

abbrev pub stepping_to : {K : Type 0} → World K → ℕ → Station K → Act K → Stage → Out K Progress
stepping_to w s t a x =
    (record { number = w.number; cells = cells_after a w.cells; stations = slice_set w.stations s (stepped_record t x) }, Ok (says x))

abbrev pub stepping_by : {K : Type 0} → World K → ℕ → Station K → Decision K → Out K Progress
stepping_by w s t m = stepping_to w s t m.act (settled t.withdrawn m.next)

-- the step of a station with key k at stage x, over these cells
abbrev pub decision : {K : Type 0} {N : ℕ} → Kind K N → List (Cell K) → K → Stage → Decision K
decision κ cs k x = decide κ k x (contents cs) (marks cs)

unfoldable pub stepping : {K : Type 0} {N : ℕ} → Kind K N → World K → ℕ → Out K Progress
stepping {K} {N} κ w s =
    refused_if (bad_size N) WrongSize w
    (at_station w s
    (λ t. refused_if (not (busy t.stage)) NoEntry w
    (refused_if (not (names_cells N t.stage)) NoCell w
    (stepping_by w s t (decision κ w.cells t.key t.stage)))))

-- WHOLE ENTRY: a fresh station's steps in one call; they end where one stays at home, returns to it or is answered
abbrev pub ends_by : {A : Type 0} → Standing → A → A → A
ends_by resting stop more = stop
ends_by homing stop more = stop
ends_by under_way stop more = more
ends_by (done a) stop more = stop

-- at most n steps: the cells, and the stage that they have led to
unfoldable pub alone : {K : Type 0} {N : ℕ} → Kind K N → ℕ → K → List (Cell K) → Stage → List (Cell K) × Stage
alone κ zero k cs x = (cs, x)
alone κ (suc n) k cs x =
    let m = decision κ cs k x in
    let cs' = cells_after m.act cs in
    ends_by (standing m.next) (cs', m.next) (alone κ n k cs' m.next)

-- so many are always enough for N cells
abbrev pub enough : ℕ → ℕ
enough N = 5 * N + 20

abbrev pub whole_answer : Standing → Result Answer Refusal
whole_answer resting = Err Barred
whole_answer homing = Err Barred
whole_answer under_way = Err Barred
whole_answer (done a) = Ok a

abbrev pub whole_entry_by : {K : Type 0} → World K → List (Cell K) × Stage → Out K Answer
whole_entry_by w o = (record { number = w.number; cells = o.0; stations = w.stations }, whole_answer (standing o.1))

unfoldable pub whole_entry : {K : Type 0} {N : ℕ} → Kind K N → World K → K → Out K Answer
whole_entry {K} {N} κ w k = refused_if (bad_size N) WrongSize w (whole_entry_by w (alone κ (enough N) k w.cells Home))

-- THE QUESTION: the key of an occupied cell; none for an empty one, from N on, and where the register has 0 cells or more than 65,536
abbrev pub question : {K : Type 0} → World K → ℕ → Content K
question w i = cond (bad_size (length w.cells)) empty (content_at w.cells i)
