-- The method for one worker, on a table that has a key or none at each place. It is the measure of every run's answers.
use Rattle.std.specs.Prelude.{◌≡◌, ℕ, zero, suc, Bool, true, false, cond, ◌&&◌, ◌||◌, List, [], ◌∷◌, ◌==◌, nat_le}
use Rattle.protocol.specs.Cells.{Content, empty, holds, is_occupied, updated}
use Rattle.protocol.specs.Stages.{Answer, Inserted, Found, Full}
use Rattle.protocol.specs.Step.{Ordering, before, same, after, Kind}

-- what the worker leaves, and the answer
abbrev pub Outcome : Type 0 → Type 0
Outcome K = (ℕ → Content K) × Answer

abbrev pub is_less : Ordering → Bool
is_less before = true
is_less same = false
is_less after = false

abbrev pub is_equal : Ordering → Bool
is_equal before = false
is_equal same = true
is_equal after = false

abbrev pub is_greater : Ordering → Bool
is_greater before = false
is_greater same = false
is_greater after = true

module _ {K : Type 0} where
  -- are the cells at places 1 to n all occupied?
  unfoldable pub all_occupied : ℕ → (ℕ → Content K) → Bool
  all_occupied zero S = true
  all_occupied (suc n) S = is_occupied (S (suc n)) && all_occupied n S

  -- the nearest empty place left of p; the edge, 0, is empty
  unfoldable pub empty_left : (ℕ → Content K) → ℕ → ℕ
  empty_left S zero = zero
  empty_left S (suc p) = cond (is_occupied (S p)) (empty_left S p) p

  -- the nearest empty place from p on, at most n further
  unfoldable pub empty_right : (ℕ → Content K) → ℕ → ℕ → ℕ
  empty_right S zero p = p
  empty_right S (suc n) p = cond (is_occupied (S p)) (empty_right S n (suc p)) p

module _ {K : Type 0} {N : ℕ} (κ : Kind K N) where
  -- does the place hold a key before k, k itself, or a key after k?
  abbrev pub lower : K → Content K → Bool
  lower k empty = false
  lower k (holds x) = is_less (κ.order x k)

  abbrev pub equal : K → Content K → Bool
  equal k empty = false
  equal k (holds x) = is_equal (κ.order x k)

  abbrev pub higher : K → Content K → Bool
  higher k empty = false
  higher k (holds x) = is_greater (κ.order x k)

  -- does one of the cells at places 1 to n hold k?
  unfoldable pub has : ℕ → (ℕ → Content K) → K → Bool
  has zero S k = false
  has (suc n) S k = equal k (S (suc n)) || has n S k

  -- from r: while the cell left of the gap holds a key after k, that key is copied into the gap and the gap moves there; then k is written
  unfoldable pub slide_left : (ℕ → Content K) → K → ℕ → ℕ → Content K
  slide_left S k zero = S
  slide_left S k (suc g) = cond (higher k (S g)) (slide_left (updated S (suc g) (S g)) k g) (updated S (suc g) (holds k))

  -- from l: the same rightwards, with keys before k; n bounds the number of copies
  unfoldable pub slide_right : ℕ → (ℕ → Content K) → K → ℕ → ℕ → Content K
  slide_right zero S k g = updated S g (holds k)
  slide_right (suc n) S k g = cond (lower k (S (suc g))) (slide_right n (updated S g (S (suc g))) k (suc g)) (updated S g (holds k))

  -- the gap starts at r if r is a cell and either the key at home is after k or l is the edge; otherwise at l
  abbrev pub starts_right : (ℕ → Content K) → K → ℕ → ℕ → Bool
  starts_right S k l r = nat_le r N && (higher k (S (κ.place k)) || l == 0)

  abbrev pub from_side : Bool → (ℕ → Content K) → K → ℕ → ℕ → Outcome K
  from_side true S k l r = (slide_left S k r, Inserted)
  from_side false S k l r = (slide_right N S k l, Inserted)

  abbrev pub between : (ℕ → Content K) → K → ℕ → ℕ → Outcome K
  between S k l r = from_side (starts_right S k l r) S k l r

  -- all cells occupied: FULL
  abbrev pub unless_full : Bool → (ℕ → Content K) → K → Outcome K
  unless_full true S k = (S, Full)
  unless_full false S k = between S k (empty_left S (κ.place k)) (empty_right S N (κ.place k))

  -- an occupied cell holds k: FOUND
  abbrev pub unless_found : Bool → (ℕ → Content K) → K → Outcome K
  unless_found true S k = (S, Found)
  unless_found false S k = unless_full (all_occupied N S) S k

  -- home is empty: k is written there, INSERTED
  abbrev pub unless_home : Bool → (ℕ → Content K) → K → Outcome K
  unless_home false S k = (updated S (κ.place k) (holds k), Inserted)
  unless_home true S k = unless_found (has N S k) S k

  unfoldable pub one_worker : (ℕ → Content K) → K → Outcome K
  one_worker S k = unless_home (is_occupied (S (κ.place k))) S k

  -- what one worker leaves after these entries, the latest first, begun on empty cells
  unfoldable pub table : List (K × Answer) → ℕ → Content K
  table [] = λ p. empty
  table (e ∷ es) = (one_worker (table es) e.0).0

  -- one worker answers each of these entries alike
  unfoldable pub Alike : List (K × Answer) → Type 0
  Alike [] = Unit {0}
  Alike (e ∷ es) = Alike es × ((one_worker (table es) e.0).1 ≡ e.1)
