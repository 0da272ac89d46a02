-- One step of a station: from its key, its stage and what it reads, one act on one cell, the next stage, and the effect.
use Rattle.std.specs.Prelude.{ℕ, suc, pred, Bool, true, false, cond, nat_le}
pub use Rattle.std.specs.declared.cmp.Ordering.{Ordering}
pub use Rattle.std.specs.declared.cmp.Ordering.TheVariants.{Less as before, Equal as same, Greater as after}
pub use Rattle.protocol.specs.declared.Walk.{Walk}
pub use Rattle.protocol.specs.declared.Walk.TheVariants.{Here, Ended, Onward}
use Rattle.protocol.specs.Cells.{Content, empty, holds, Act, Rest, Mark, Unmark, Write, cell, is_occupied}
use Rattle.protocol.specs.Stages.{Answer, Inserted, Found, Full, Direction, Leftward, Rightward, Stage, Idle, Home, Look, Left, Right, FirstMark, SecondMark, GiveBack, Check, Shift, ReleaseLeft, ReleaseRight, Answered}

-- what a kind of key says over N cells: how a first key stands to a second, and the place of a key's home
pub record Kind (K : Type 0) (N : ℕ) : Type 0 where
  pub order : K → K → Ordering
  pub place : K → ℕ

-- cell i has place i + 1
abbrev pub kind_over : {K : Type 0} → (K → K → Ordering) → (K → ℕ → ℕ) → (n : ℕ) → Kind K n
kind_over order home n = record { order = order; place = λ k. suc (home k n) }

-- an entry takes effect at the home, look, check or shift step that gives its answer
pub data Effect : Type 0 where
  nothing : Effect
  took : Answer → Effect

-- what a step comes to: one act on one cell, the next stage, and the effect
pub record Decision (K : Type 0) : Type 0 where
  pub act : Act K
  pub next : Stage
  pub effect : Effect

-- what the content of a place is to the key being entered
pub data Versus : Type 0 where
  none : Versus
  is : Ordering → Versus

abbrev pub is_after : Versus → Bool
is_after none = false
is_after (is before) = false
is_after (is same) = false
is_after (is after) = true

-- The walk of look and check, at place p, with home at h: K itself; the end, which is an edge, an empty cell or the far side; or one place on.
-- The far side is a key before K on a leftward walk and a key after K on a rightward one.
abbrev pub walk_at : ℕ → ℕ → Versus → Walk
walk_at h p none = Ended
walk_at h p (is same) = Here
walk_at h p (is after) = cond (nat_le p h) (Onward (pred p)) Ended
walk_at h p (is before) = cond (nat_le h p) (Onward (suc p)) Ended

-- The shift, with its gap at cell g: the place beside the gap on the side it moves to.
abbrev pub beside : Direction → ℕ → ℕ
beside Leftward g = g
beside Rightward g = suc (suc g)

-- from r, a key after K is copied into the gap; from l, a key before K
abbrev pub copy_due : Direction → Ordering → Bool
copy_due Leftward before = false
copy_due Leftward same = false
copy_due Leftward after = true
copy_due Rightward before = true
copy_due Rightward same = false
copy_due Rightward after = false

-- and the gap moves to where it stood
abbrev pub gap_after : Direction → ℕ → ℕ
gap_after Leftward g = pred g
gap_after Rightward g = suc g

module _ {K : Type 0} where
  abbrev pub decided : Act K → Stage → Effect → Decision K
  decided a x e = record { act = a; next = x; effect = e }

  abbrev pub goes_to : Stage → Decision K
  goes_to x = decided Rest x nothing

  -- HOME reads h: is it marked, and what is its key to k? Marked: it stays. Empty: k is written, answered INSERTED. k itself: answered FOUND.
  -- Otherwise look, starting left of h if its key is after k, else right.
  abbrev pub at_home : K → ℕ → Bool → Versus → Decision K
  at_home k h true v = goes_to Home
  at_home k h false none = decided (Write h k) (Answered Inserted) (took Inserted)
  at_home k h false (is same) = decided Rest (Answered Found) (took Found)
  at_home k h false (is after) = goes_to (Look (pred h))
  at_home k h false (is before) = goes_to (Look (suc h))

  -- LOOK ignores marks. k: answered FOUND. Edge, empty cell or far side: left, at h - 1. Otherwise one place on.
  abbrev pub at_look : ℕ → Walk → Decision K
  at_look h Here = decided Rest (Answered Found) (took Found)
  at_look h Ended = goes_to (Left (pred h))
  at_look h (Onward p) = goes_to (Look p)

  -- LEFT at p: is it marked, is it occupied? Marked, occupied or not: home. Occupied: one further left.
  -- Empty, or the edge: that is l; next is right, at h + 1.
  abbrev pub at_left : ℕ → ℕ → Bool → Bool → Decision K
  at_left h p true o = goes_to Home
  at_left h p false true = goes_to (Left (pred p))
  at_left h p false false = goes_to (Right p (suc h))

  -- RIGHT mirrors left and finds r; next is first mark.
  abbrev pub at_right : ℕ → ℕ → Bool → Bool → Decision K
  at_right l p true o = goes_to Home
  at_right l p false true = goes_to (Right l (suc p))
  at_right l p false false = goes_to (FirstMark l p)

  -- FIRST MARK: is l a cell, is it marked, is it occupied?
  -- If l is the edge, or empty and unmarked (then it is marked), second mark. Otherwise home.
  abbrev pub at_first : ℕ → ℕ → Bool → Bool → Bool → Decision K
  at_first l r false m o = goes_to (SecondMark l r)
  at_first l r true true o = goes_to Home
  at_first l r true false true = goes_to Home
  at_first l r true false false = decided (Mark l) (SecondMark l r) nothing

  -- give back if l is a cell, else home
  abbrev pub give_up : ℕ → Bool → Decision K
  give_up l true = goes_to (GiveBack (pred l))
  give_up l false = goes_to Home

  -- SECOND MARK: is l a cell; is r a cell, is it marked, is it occupied?
  -- If r is the edge, or empty and unmarked (then it is marked), check at h. Otherwise give back if l is a cell, else home.
  abbrev pub at_second : ℕ → ℕ → ℕ → Bool → Bool → Bool → Bool → Decision K
  at_second h l r lc false m o = goes_to (Check l r h)
  at_second h l r lc true true o = give_up l lc
  at_second h l r lc true false true = give_up l lc
  at_second h l r lc true false false = decided (Mark r) (Check l r h) nothing

  -- The end of the check's walk: is l a cell, is r a cell, is the key at home after k?
  -- Release left, with FULL, if both boundaries are edges; else shift. The gap starts at r if r is a cell and either the key at home is after k or l is the edge; otherwise at l.
  abbrev pub absent : ℕ → ℕ → Bool → Bool → Bool → Decision K
  absent l r false false b = decided Rest (ReleaseLeft l r Full) (took Full)
  absent l r false true b = goes_to (Shift Leftward l r (pred r))
  absent l r true false b = goes_to (Shift Rightward l r (pred l))
  absent l r true true true = goes_to (Shift Leftward l r (pred r))
  absent l r true true false = goes_to (Shift Rightward l r (pred l))

  -- CHECK walks as look does, from h on. k: release left, with FOUND.
  abbrev pub at_check : ℕ → ℕ → Bool → Bool → Bool → Walk → Decision K
  at_check l r lc rc b Here = decided Rest (ReleaseLeft l r Found) (took Found)
  at_check l r lc rc b Ended = absent l r lc rc b
  at_check l r lc rc b (Onward p) = goes_to (Check l r p)

  -- SHIFT copies one key, x, which stands beside the gap. When no copy is due it writes k; then release left, with INSERTED.
  abbrev pub written : K → ℕ → ℕ → ℕ → Decision K
  written k l r g = decided (Write (suc g) k) (ReleaseLeft l r Inserted) (took Inserted)

  abbrev pub copied : K → Direction → ℕ → ℕ → ℕ → K → Bool → Decision K
  copied k d l r g x true = decided (Write (suc g) x) (Shift d l r (gap_after d g)) nothing
  copied k d l r g x false = written k l r g

  -- RELEASE LEFT, then RELEASE RIGHT, unmark the boundary if it is a cell.
  abbrev pub release : ℕ → Bool → Stage → Decision K
  release p true x = decided (Unmark p) x nothing
  release p false x = goes_to x

module _ {K : Type 0} {N : ℕ} (κ : Kind K N) where
  abbrev pub versus : K → Content K → Versus
  versus k empty = none
  versus k (holds x) = is (κ.order x k)

  abbrev pub at_shift : K → Direction → ℕ → ℕ → ℕ → Content K → Decision K
  at_shift k d l r g empty = written k l r g
  at_shift k d l r g (holds x) = copied k d l r g x (copy_due d (κ.order x k))

  -- One step does what the present stage says: the step of a station with key k, from the contents T and the marks M of the places.
  -- GIVE BACK unmarks l; then home. An idle or answered station has no step: the call refuses it.
  abbrev pub decide : K → Stage → (ℕ → Content K) → (ℕ → Bool) → Decision K
  decide k Idle T M = goes_to Idle
  decide k Home T M = at_home k (κ.place k) (M (κ.place k)) (versus k (T (κ.place k)))
  decide k (Look p) T M = at_look (κ.place k) (walk_at (κ.place k) p (versus k (T p)))
  decide k (Left p) T M = at_left (κ.place k) p (M p) (is_occupied (T p))
  decide k (Right l p) T M = at_right l p (M p) (is_occupied (T p))
  decide k (FirstMark l r) T M = at_first l r (cell N l) (M l) (is_occupied (T l))
  decide k (SecondMark l r) T M = at_second (κ.place k) l r (cell N l) (cell N r) (M r) (is_occupied (T r))
  decide k (GiveBack c) T M = decided (Unmark (suc c)) Home nothing
  decide k (Check l r p) T M = at_check l r (cell N l) (cell N r) (is_after (versus k (T (κ.place k)))) (walk_at (κ.place k) p (versus k (T p)))
  decide k (Shift d l r g) T M = at_shift k d l r g (T (beside d g))
  decide k (ReleaseLeft l r a) T M = release l (cell N l) (ReleaseRight r a)
  decide k (ReleaseRight r a) T M = release r (cell N r) (Answered a)
  decide k (Answered a) T M = goes_to (Answered a)
