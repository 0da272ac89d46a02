-- A step names no cell that is none: so no step of an opened register is refused for it.
use Rattle.std.proofs.Common.{◌≡◌, ℕ, suc, pred, ◌+◌, ◌<◌, ◌≤◌, Bool, true, false, cond, ◌&&◌, ltb, leb, refl, arith}
use Rattle.std.proofs.lemmas.Bool.{lt-ltb, ltb-true, and_parts, and_from}
use Rattle.protocol.specs.Cells.{Content, empty, holds, cell, is_occupied}
use Rattle.protocol.specs.Stages.{Direction, Leftward, Rightward, Stage, Idle, Home, Look, Left, Right, FirstMark, SecondMark, GiveBack, Check, Shift, ReleaseLeft, ReleaseRight, Answered, Standing, resting, homing, under_way, done, standing, settled_by, settled, is_place, names_cells}
use Rattle.protocol.specs.Step.{before, same, after, Walk, Here, Ended, Onward, Versus, none, is, is_after, walk_at, beside, copy_due, gap_after, at_home, at_look, at_left, at_right, at_first, give_up, at_second, absent, at_check, copied, release, versus, at_shift, decide}
use Rattle.protocol.proofs.Lawful.{Lawful, versus_occupied}
use Rattle.protocol.proofs.Updates.{holds_occupied}
use Rattle.protocol.proofs.Holding.{cell_parts}

module _ (N : ℕ) where
  one : (p : ℕ) → p < N + 2 → is_place N p ≡ true
  one p h = lt-ltb p (N + 2) h

  two : (l r : ℕ) → l < N + 2 → r < N + 2 → (is_place N l && is_place N r) ≡ true
  two l r a b = and_from (is_place N l) (is_place N r) (one l a) (one r b)

  three : (l r p : ℕ) → l < N + 2 → r < N + 2 → p < N + 2 → (is_place N l && (is_place N r && is_place N p)) ≡ true
  three l r p a b c = and_from (is_place N l) (is_place N r && is_place N p) (one l a) (two r p b c)

  gapped : (l r g : ℕ) → l < N + 2 → r < N + 2 → g < N → (is_place N l && (is_place N r && ltb g N)) ≡ true
  gapped l r g a b c = and_from (is_place N l) (is_place N r && ltb g N) (one l a) (and_from (is_place N r) (ltb g N) (one r b) (lt-ltb g N c))

  of_one : (p : ℕ) → is_place N p ≡ true → p < N + 2
  of_one p e = ltb-true p (N + 2) e

  of_two : (l r : ℕ) → (is_place N l && is_place N r) ≡ true → (l < N + 2) × (r < N + 2)
  of_two l r e = let h = and_parts (is_place N l) (is_place N r) e in (of_one l h.0, of_one r h.1)

  of_three : (l r p : ℕ) → (is_place N l && (is_place N r && is_place N p)) ≡ true → (l < N + 2) × (r < N + 2) × (p < N + 2)
  of_three l r p e = let h = and_parts (is_place N l) (is_place N r && is_place N p) e in let i = of_two r p h.1 in (of_one l h.0, i.0, i.1)

  of_gap : (l r g : ℕ) → (is_place N l && (is_place N r && ltb g N)) ≡ true → (l < N + 2) × (r < N + 2) × (g < N)
  of_gap l r g e =
      let h = and_parts (is_place N l) (is_place N r && ltb g N) e in let i = and_parts (is_place N r) (ltb g N) h.1 in
      (of_one l h.0, of_one r i.0, ltb-true g N i.1)

-- a withdrawn station that becomes idle names none
pub named_settled : (N : ℕ) (b : Bool) (x : Stage) → names_cells N x ≡ true → names_cells N (settled b x) ≡ true
named_settled N false x h = h
named_settled N true x h = go (standing x)
  where
    go : (y : Standing) → names_cells N (settled_by true y x) ≡ true
    go resting = refl
    go homing = refl
    go under_way = h
    go (done a) = refl

module _ {K : Type 0} {N : ℕ} (κ : Lawful K N) (k : K) (T : ℕ → Content K) (M : ℕ → Bool) (inside : (p : ℕ) → is_occupied (T p) ≡ true → (0 < p) × (p ≤ N)) where
  Named : Stage → Type 0
  Named x = names_cells N x ≡ true

  high : κ.kind.place k ≤ N
  high = κ.place_high k

  home_named : (b : Bool) (v : Versus) → Named (at_home k (κ.kind.place k) b v).next
  unfolding Named
  home_named true v = refl
  home_named false none = refl
  home_named false (is same) = refl
  home_named false (is after) = one N (pred (κ.kind.place k)) (omega (arith, high))
  home_named false (is before) = one N (suc (κ.kind.place k)) (omega (arith, high))

  walk_named : (p : ℕ) → p < N + 2 → (v : Versus) → versus κ.kind k (T p) ≡ v → (q : ℕ) → walk_at (κ.kind.place k) p v ≡ Onward q → q < N + 2
  walk_named p lt none e q w = let z : ◌≡◌ {A = ℕ} 0 1 = cc in absurd (omega arith)
  walk_named p lt (is same) e q w = let z : ◌≡◌ {A = ℕ} 0 1 = cc in absurd (omega arith)
  walk_named p lt (is after) e q w = by_test (leb p (κ.kind.place k)) w
    where
      by_test : (b : Bool) → cond b (Onward (pred p)) Ended ≡ Onward q → q < N + 2
      by_test true w = let z : pred p ≡ q = cc in omega arith
      by_test false w = let z : ◌≡◌ {A = ℕ} 0 1 = cc in absurd (omega arith)
  walk_named p lt (is before) e q w = by_test (leb (κ.kind.place k) p) w
    where
      by_test : (b : Bool) → cond b (Onward (suc p)) Ended ≡ Onward q → q < N + 2
      by_test true w = let z : suc p ≡ q = cc in let i = inside p (versus_occupied κ k (T p) before e) in omega arith
      by_test false w = let z : ◌≡◌ {A = ℕ} 0 1 = cc in absurd (omega arith)

  look_named : (w : Walk) → ((q : ℕ) → w ≡ Onward q → q < N + 2) → Named (at_look {K = K} (κ.kind.place k) w).next
  unfolding Named
  look_named Here f = refl
  look_named Ended f = one N (pred (κ.kind.place k)) (omega (arith, high))
  look_named (Onward q) f = one N q (f q refl)

  left_named : (p : ℕ) → p < N + 2 → (b o : Bool) → Named (at_left {K = K} (κ.kind.place k) p b o).next
  unfolding Named
  left_named p lt true o = refl
  left_named p lt false true = one N (pred p) (omega arith)
  left_named p lt false false = two N p (suc (κ.kind.place k)) lt (omega (arith, high))

  right_named : (l p : ℕ) → l < N + 2 → p < N + 2 → (b o : Bool) → is_occupied (T p) ≡ o → Named (at_right {K = K} l p b o).next
  unfolding Named
  right_named l p a lt true o e = refl
  right_named l p a lt false true e = let i = inside p e in two N l (suc p) a (omega arith)
  right_named l p a lt false false e = two N l p a lt

  first_named : (l r : ℕ) → Named (FirstMark l r) → (c b o : Bool) → Named (at_first {K = K} l r c b o).next
  unfolding Named
  first_named l r h false b o = h
  first_named l r h true true o = refl
  first_named l r h true false true = refl
  first_named l r h true false false = h

  give_named : (l : ℕ) (c : Bool) → cell N l ≡ c → Named (give_up {K = K} l c).next
  unfolding Named
  give_named l true e = let i = cell_parts N l e in lt-ltb (pred l) N (omega arith)
  give_named l false e = refl

  second_named : (l r : ℕ) → l < N + 2 → r < N + 2 → (c b o : Bool) → Named (at_second {K = K} (κ.kind.place k) l r (cell N l) c b o).next
  unfolding Named
  second_named l r x y false b o = three N l r (κ.kind.place k) x y (omega (arith, high))
  second_named l r x y true true o = give_named l (cell N l) refl
  second_named l r x y true false true = give_named l (cell N l) refl
  second_named l r x y true false false = three N l r (κ.kind.place k) x y (omega (arith, high))

  -- the gap starts at a cell
  absent_named : (l r : ℕ) → l < N + 2 → r < N + 2 → (x y b : Bool) → cell N l ≡ x → cell N r ≡ y → Named (absent {K = K} l r x y b).next
  unfolding Named
  absent_named l r i j false false b e f = two N l r i j
  absent_named l r i j false true b e f = let z = cell_parts N r f in gapped N l r (pred r) i j (omega arith)
  absent_named l r i j true false b e f = let z = cell_parts N l e in gapped N l r (pred l) i j (omega arith)
  absent_named l r i j true true true e f = let z = cell_parts N r f in gapped N l r (pred r) i j (omega arith)
  absent_named l r i j true true false e f = let z = cell_parts N l e in gapped N l r (pred l) i j (omega arith)

  check_named : (l r : ℕ) → l < N + 2 → r < N + 2 → (b : Bool) (w : Walk) → ((q : ℕ) → w ≡ Onward q → q < N + 2)
      → Named (at_check {K = K} l r (cell N l) (cell N r) b w).next
  unfolding Named
  check_named l r x y b Here f = two N l r x y
  check_named l r x y b Ended f = absent_named l r x y (cell N l) (cell N r) b refl refl
  check_named l r x y b (Onward q) f = three N l r q x y (f q refl)

  gap_named : (d : Direction) (g : ℕ) → g < N → is_occupied (T (beside d g)) ≡ true → gap_after d g < N
  gap_named Leftward g lt o = let z : pred g < N = omega arith in z
  gap_named Rightward g lt o = let i = inside (suc (suc g)) o in let z : suc g < N = omega arith in z

  shift_named : (d : Direction) (l r g : ℕ) → l < N + 2 → r < N + 2 → g < N → (c : Content K) → T (beside d g) ≡ c
      → Named (at_shift κ.kind k d l r g c).next
  unfolding Named
  shift_named d l r g x y z empty e = two N l r x y
  shift_named d l r g x y z (holds i) e = by_due (copy_due d (κ.kind.order i k))
    where
      by_due : (b : Bool) → Named (copied k d l r g i b).next
      by_due true = gapped N l r (gap_after d g) x y (gap_named d g z (holds_occupied e))
      by_due false = two N l r x y

  release_named : (p : ℕ) (c : Bool) (y : Stage) → Named y → Named (release {K = K} p c y).next
  release_named p true y h = h
  release_named p false y h = h

  pub named_kept : (x : Stage) → names_cells N x ≡ true → names_cells N (decide κ.kind k x T M).next ≡ true
  unfolding Named
  named_kept Idle h = refl
  named_kept Home h = home_named (M (κ.kind.place k)) (versus κ.kind k (T (κ.kind.place k)))
  named_kept (Look p) h =
      look_named (walk_at (κ.kind.place k) p (versus κ.kind k (T p))) (walk_named p (of_one N p h) (versus κ.kind k (T p)) refl)
  named_kept (Left p) h = left_named p (of_one N p h) (M p) (is_occupied (T p))
  named_kept (Right l p) h = let i = of_two N l p h in right_named l p i.0 i.1 (M p) (is_occupied (T p)) refl
  named_kept (FirstMark l r) h = first_named l r h (cell N l) (M l) (is_occupied (T l))
  named_kept (SecondMark l r) h = let i = of_two N l r h in second_named l r i.0 i.1 (cell N r) (M r) (is_occupied (T r))
  named_kept (GiveBack g) h = refl
  named_kept (Check l r p) h =
      let i = of_three N l r p h in
      check_named l r i.0 i.1 (is_after (versus κ.kind k (T (κ.kind.place k))))
      (walk_at (κ.kind.place k) p (versus κ.kind k (T p))) (walk_named p i.2 (versus κ.kind k (T p)) refl)
  named_kept (Shift d l r g) h = let i = of_gap N l r g h in shift_named d l r g i.0 i.1 i.2 (T (beside d g)) refl
  named_kept (ReleaseLeft l r a) h = let i = of_two N l r h in release_named l (cell N l) (ReleaseRight r a) (one N r i.1)
  named_kept (ReleaseRight r a) h = release_named r (cell N r) (Answered a) refl
  named_kept (Answered a) h = refl
