-- The worked examples of the rules, over trays.
use Rattle.std.specs.Prelude.{◌≡◌, ℕ, zero, suc, true, false, List, [], ◌∷◌, length}
use Rattle.keys.specs.Kinds.{tray_order, tray_home}
use Rattle.keys.specs.declared.Tray.{Tray}
use Rattle.protocol.specs.declared.Cell.{Cell}
use Rattle.protocol.specs.declared.Station.{Station}
use Rattle.protocol.specs.declared.Progress.TheVariants as progress
use Rattle.protocol.specs.declared.Departure.TheVariants as departure
use Rattle.protocol.specs.Cells.{Content, empty, holds, nth}
use Rattle.protocol.specs.Stages.{Answer, Inserted, Found, Full, Home, GiveBack}
use Rattle.protocol.specs.Step.{kind_over}
use Rattle.protocol.specs.Calls.{Result, Ok, Err, Refusal, WrongSize, OtherRegister, NoStation, NotIdle, NoEntry, NoCell, NotAnswered, Barred, Progress, World, opening, question}
use Rattle.protocol.specs.Turns.{Turn, begin, step, collect, withdraw, enter, turned}
use Rattle.protocol.specs.OneWorker.{one_worker}

-- a tray by its number
abbrev pub tray : ℕ → Tray
tray k = record { number = k }

abbrev pub number_in : Content Tray → Content ℕ
number_in empty = empty
number_in (holds t) = holds t.number

-- memory before an opening may hold anything
abbrev pub old_cells : ℕ → List (Cell Tray)
old_cells zero = []
old_cells (suc n) = record { key = tray 7; occupied = true; marked = true } ∷ old_cells n

abbrev pub old_station : Station Tray
old_station = record { key = tray 7; stage = Home; withdrawn = true }

-- a register of n cells with two stations, just opened
abbrev pub register : ℕ → World Tray
register n = opening 5 (old_cells n) (old_station ∷ old_station ∷ []) (tray 0)

abbrev pub does : World Tray → Turn Tray → World Tray
does w t = (turned tray_order tray_home w t).0

-- what n cells from number i on hold, by the question
abbrev pub asked : World Tray → ℕ → ℕ → List (Content ℕ)
asked w i zero = []
asked w i (suc n) = number_in (question w i) ∷ asked w (suc i) n

abbrev pub row : World Tray → List (Content ℕ)
row w = asked w 0 (length w.cells)

-- whole entries, one after another: what they leave and what they answer
unfoldable pub entering : World Tray → List ℕ → World Tray
entering w [] = w
entering w (k ∷ ks) = entering (does w (enter (tray k))) ks

unfoldable pub answers : World Tray → List ℕ → List (Result Answer Refusal)
answers w [] = []
answers w (k ∷ ks) = (turned tray_order tray_home w (enter (tray k))).1 ∷ answers (does w (enter (tray k))) ks

-- so many steps of a station: what they leave and what they say
unfoldable pub steps : World Tray → ℕ → ℕ → World Tray
steps w s zero = w
steps w s (suc n) = steps (does w (step s)) s n

unfoldable pub sayings : World Tray → ℕ → ℕ → List (Result Progress Refusal)
sayings w s zero = []
sayings w s (suc n) = (turned tray_order tray_home w (step s)).1 ∷ sayings (does w (step s)) s n

-- so many times the same, and then the rest
abbrev pub times : {A : Type 0} → ℕ → A → List A → List A
times zero a rest = rest
times (suc n) a rest = a ∷ times n a rest

-- the method for one worker on n empty cells: what it leaves at the places from p on, and what it answers
unfoldable pub worked : ℕ → (ℕ → Content Tray) → List ℕ → ℕ → Content Tray
worked n S [] = S
worked n S (k ∷ ks) = worked n (one_worker (kind_over tray_order tray_home n) S (tray k)).0 ks

unfoldable pub worker_answers : ℕ → (ℕ → Content Tray) → List ℕ → List Answer
worker_answers n S [] = []
worker_answers n S (k ∷ ks) = (one_worker (kind_over tray_order tray_home n) S (tray k)).1 ∷ worker_answers n (one_worker (kind_over tray_order tray_home n) S (tray k)).0 ks

abbrev pub places : (ℕ → Content Tray) → ℕ → ℕ → List (Content ℕ)
places S p zero = []
places S p (suc n) = number_in (S p) ∷ places S (suc p) n

abbrev pub no_keys : ℕ → Content Tray
no_keys p = empty

-- of 3 cells, with 500 held, station 0 begins 400
abbrev pub begun_400 : World Tray
begun_400 = does (does (register 3) (enter (tray 500))) (begin 0 (tray 400))

-- and after its sixth step station 1 begins 100
abbrev pub begun_100 : World Tray
begun_100 = does (steps begun_400 0 6) (begin 1 (tray 100))

-- withdrawn after its sixth step, when it holds a mark
abbrev pub withdrawn_400 : World Tray
withdrawn_400 = does (steps begun_400 0 6) (withdraw 5 0)

-- station 1 begins 400 too, and the two step by turns, so many times
unfoldable pub by_turns : World Tray → ℕ → World Tray
by_turns w zero = w
by_turns w (suc n) = by_turns (does (does w (step 0)) (step 1)) n

abbrev pub raced_400 : World Tray
raced_400 = by_turns (does begun_400 (begin 1 (tray 400))) 20

-- it has marked the left boundary when 900 takes the right one; then it is withdrawn
abbrev pub overtaken_400 : World Tray
overtaken_400 = does (does (steps begun_400 0 5) (enter (tray 900))) (withdraw 5 0)

-- a record that no opened register has
abbrev pub wrong_record : World Tray
wrong_record = record { number = 5; cells = old_cells 3; stations = record { key = tray 7; stage = GiveBack 3; withdrawn = false } ∷ [] }

pub record Examples : Type 0 where
  -- ten cells and eight trays, by one worker and by whole entries
  pub ten_worker : places (worked 10 no_keys (145 ∷ 293 ∷ 297 ∷ 458 ∷ 553 ∷ 526 ∷ 841 ∷ 931 ∷ [])) 1 10
      ≡ (holds 145 ∷ holds 293 ∷ holds 297 ∷ empty ∷ holds 458 ∷ holds 526 ∷ holds 553 ∷ empty ∷ holds 841 ∷ holds 931 ∷ [])
  pub ten : row (entering (register 10) (145 ∷ 293 ∷ 297 ∷ 458 ∷ 553 ∷ 526 ∷ 841 ∷ 931 ∷ []))
      ≡ (holds 145 ∷ holds 293 ∷ holds 297 ∷ empty ∷ holds 458 ∷ holds 526 ∷ holds 553 ∷ empty ∷ holds 841 ∷ holds 931 ∷ [])
  -- two cells: two trays fill them, a third finds them full, and the second is found again
  pub two_worker : worker_answers 2 no_keys (100 ∷ 200 ∷ 300 ∷ 200 ∷ []) ≡ (Inserted ∷ Inserted ∷ Full ∷ Found ∷ [])
  pub two : answers (register 2) (100 ∷ 200 ∷ 300 ∷ 200 ∷ []) ≡ (Ok Inserted ∷ Ok Inserted ∷ Ok Full ∷ Ok Found ∷ [])
  pub two_cells : row (entering (register 2) (100 ∷ 200 ∷ [])) ≡ (holds 100 ∷ holds 200 ∷ [])
  -- three cells: what the first tray, the second and the third leave
  pub three_1 : row (entering (register 3) (500 ∷ [])) ≡ (empty ∷ holds 500 ∷ empty ∷ [])
  pub three_2 : row (entering (register 3) (500 ∷ 400 ∷ [])) ≡ (empty ∷ holds 400 ∷ holds 500 ∷ [])
  pub three_3 : row (entering (register 3) (500 ∷ 400 ∷ 450 ∷ [])) ≡ (holds 400 ∷ holds 450 ∷ holds 500 ∷ [])
  -- three cells, 500 held: a station alone enters 400 in 12 steps, and no 13th is accepted
  pub twelve : sayings begun_400 0 13 ≡ times 11 (Ok progress.GoesOn) (Ok progress.Answered ∷ Err NoEntry ∷ [])
  pub twelve_collected : (turned tray_order tray_home (steps begun_400 0 12) (collect 5 0)).1 ≡ Ok Inserted
  pub twelve_cells : row (steps begun_400 0 12) ≡ (empty ∷ holds 400 ∷ holds 500 ∷ [])
  -- two stations enter 400 by turns: it is new for one of them, and the other finds it
  pub race_inserted : (turned tray_order tray_home raced_400 (collect 5 0)).1 ≡ Ok Inserted
  pub race_found : (turned tray_order tray_home raced_400 (collect 5 1)).1 ≡ Ok Found
  pub race_cells : row raced_400 ≡ (empty ∷ holds 400 ∷ holds 500 ∷ [])
  -- after its sixth step, 100 at another station stays at home
  pub home_said : (turned tray_order tray_home begun_100 (step 1)).1 ≡ Ok progress.GoesOn
  pub home_stays : nth (does begun_100 (step 1)).stations 1 ≡ holds (record { key = tray 100; stage = Home; withdrawn = false })
  -- withdrawn then, the station goes on, and becomes idle where it would be answered; its key is new all the same
  pub withdrawn_said : (turned tray_order tray_home (steps begun_400 0 6) (withdraw 5 0)).1 ≡ Ok departure.GoesOn
  pub withdrawn_steps : sayings withdrawn_400 0 6 ≡ times 5 (Ok progress.GoesOn) (Ok progress.Idle ∷ [])
  pub withdrawn_cells : row (steps withdrawn_400 0 6) ≡ (empty ∷ holds 400 ∷ holds 500 ∷ [])
  -- withdrawn with the right boundary lost, it gives the left one back, and becomes idle where it would return to home
  pub overtaken_steps : sayings overtaken_400 0 3 ≡ (Ok progress.GoesOn ∷ Ok progress.Idle ∷ Err NoEntry ∷ [])
  pub overtaken_cells : row (steps overtaken_400 0 2) ≡ (empty ∷ holds 500 ∷ holds 900 ∷ [])
  -- withdrawn at home it is gone at once
  pub gone_said : (turned tray_order tray_home begun_400 (withdraw 5 0)).1 ≡ Ok departure.Gone
  -- each refusal once
  pub refused_1 : (turned tray_order tray_home (register 0) (enter (tray 100))).1 ≡ Err WrongSize
  pub refused_2 : (turned tray_order tray_home (steps begun_400 0 12) (collect 4 0)).1 ≡ Err OtherRegister
  pub refused_3 : (turned tray_order tray_home begun_400 (step 2)).1 ≡ Err NoStation
  pub refused_4 : (turned tray_order tray_home begun_400 (begin 0 (tray 450))).1 ≡ Err NotIdle
  pub refused_5 : (turned tray_order tray_home (does (steps begun_400 0 12) (collect 5 0)) (collect 5 0)).1 ≡ Err NoEntry
  pub refused_6 : (turned tray_order tray_home wrong_record (step 0)).1 ≡ Err NoCell
  pub refused_7 : (turned tray_order tray_home begun_400 (collect 5 0)).1 ≡ Err NotAnswered
  pub refused_8 : (turned tray_order tray_home begun_100 (enter (tray 100))).1 ≡ Err Barred
