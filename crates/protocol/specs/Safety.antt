-- What holds of a register after any turns, and the theorem.
use Rattle.std.specs.Prelude.{◌≡◌, ℕ, ◌<◌, ◌≤◌, true, false, ◌⊎◌, List, [], ◌∷◌, length, ◌≢◌}
use Rattle.protocol.specs.declared.Cell.{Cell}
use Rattle.protocol.specs.declared.Station.{Station}
use Rattle.protocol.specs.Cells.{holds, contents, marks}
use Rattle.protocol.specs.Stages.{Answer, Inserted, Stage, Home, Answered}
use Rattle.protocol.specs.Step.{Ordering, before, kind_over, took}
use Rattle.protocol.specs.Calls.{Ok, Err, Refusal, NoCell, World, opening, alone, enough}
use Rattle.protocol.specs.Turns.{Turn, step, collect, turned, Log, no_log, after_turns}
use Rattle.protocol.specs.OneWorker.{table, Alike}

module _ {K : Type 0} where
  -- k was new at one of these effects
  pub data WasNew (k : K) : List (K × Answer) → Type 0 where
    now_new : {es : List (K × Answer)} {a : Answer} → a ≡ Inserted → WasNew k ((k, a) ∷ es)
    earlier : {e : K × Answer} {es : List (K × Answer)} → WasNew k es → WasNew k (e ∷ es)

  -- no key is new twice
  unfoldable pub NewOnce : List (K × Answer) → Type 0
  NewOnce [] = Unit {0}
  NewOnce (e ∷ es) = NewOnce es × (e.1 ≡ Inserted → WasNew e.0 es → ⊥)

-- no cell is marked
abbrev pub NoMark : {K : Type 0} → World K → Type 0
NoMark w = (p : ℕ) → marks w.cells p ≡ false

-- a fresh station has come home again or is answered
abbrev pub EndedStage : Stage → Type 0
EndedStage x = (x ≡ Home) ⊎ ((a : Answer) × (x ≡ Answered a))

module _ {K : Type 0} (order : K → K → Ordering) (home : K → ℕ → ℕ) where
  -- the condition, of a register of n cells, 1 to 65,536
  pub record Condition (n : ℕ) (w : World K) (g : Log K) : Type 0 where
    -- a. a marked cell is held by one entry alone, which is unfinished; a held cell is marked
    pub held_once : (p : ℕ) → marks w.cells p ≡ true
        → (s : ℕ) × (g.held s p ≡ true) × (g.unfinished s ≡ true) × ((s' : ℕ) → g.held s' p ≡ true → s' ≡ s)
    pub held_marked : (s p : ℕ) → g.held s p ≡ true → marks w.cells p ≡ true
    -- b. the effects, in their order, are answered alike by the method for one worker, begun on as many empty cells;
    --    and an accepted collection gives the answer of the entry last begun at its station
    pub alike : Alike (kind_over order home n) g.effects
    pub collected : (number s : ℕ) (a : Answer) → (turned order home w (collect number s)).1 ≡ Ok a → g.answer s ≡ took a
    -- c. if no cell is marked, the cells are those that one worker leaves, each key once, ascending
    pub same_cells : NoMark w → (p : ℕ) → contents w.cells p ≡ table (kind_over order home n) g.effects p
    pub each_once : NoMark w → (p q : ℕ) (x : K) → contents w.cells p ≡ holds x → contents w.cells q ≡ holds x → p ≡ q
    pub ascending : NoMark w → (p q : ℕ) (x y : K) → p < q → contents w.cells p ≡ holds x → contents w.cells q ≡ holds y
        → order x y ≡ before

  -- what is promised after every turn
  pub record Promise (n : ℕ) (w : World K) (g : Log K) : Type 0 where
    pub new_once : NewOnce g.effects
    pub condition : 1 ≤ n → n ≤ 65536 → Condition n w g
    -- no record of an opened register names a cell that is none
    pub never_refused_6 : (s : ℕ) → (turned order home w (step s)).1 ≢ Err NoCell
    -- a whole entry's steps are over before they are enough: that they are limited decides nothing
    pub whole_ends : 1 ≤ n → n ≤ 65536 → (k : K) → EndedStage (alone (kind_over order home n) (enough n) k w.cells Home).1
    -- a refused turn has changed nothing; of a whole entry that a mark bars this says that its steps have not
    pub refused_same : (t : Turn K) (e : Refusal) → (turned order home w t).1 ≡ Err e → (turned order home w t).0 ≡ w

  -- after every list of turns from here
  abbrev pub SafeFrom : World K → Type 0
  SafeFrom w = (turns : List (Turn K)) → let run = after_turns order home turns (w, no_log) in Promise (length w.cells) run.0 run.1

  -- the theorem: from every opening, whatever the memory held
  abbrev pub Safe : Type 0
  Safe = (number : ℕ) (cells : List (Cell K)) (stations : List (Station K)) (filler : K) → SafeFrom (opening number cells stations filler)
