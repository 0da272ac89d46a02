-- A station alone ends, or comes home, within 5 N + 20 steps: a whole entry never runs out of them.
use Rattle.std.proofs.Common.{◌≡◌, ℕ, zero, suc, pred, ◌+◌, ◌-◌, ◌*◌, ◌<◌, ◌≤◌, Bool, true, false, cond, ltb, leb, ◌⊎◌, List, length, refl, ap, ◌∙◌, subst, inl, inr, ⊎_elim, arith}
use Rattle.std.proofs.lemmas.Bool.{cases_lt, both_ways, cond-true, cond-false, lt-ltb, le-ltb, leb-true}
use Rattle.protocol.specs.declared.Cell.{Cell}
use Rattle.protocol.specs.Cells.{Content, empty, holds, cell, is_occupied, contents, marks, cells_after}
use Rattle.protocol.specs.Stages.{Answer, Inserted, Direction, Leftward, Rightward, Stage, Idle, Home, Look, Left, Right, FirstMark, SecondMark, GiveBack, Check, Shift, ReleaseLeft, ReleaseRight, Answered, Standing, resting, homing, under_way, done, standing, busy_by, busy, idle_by, is_idle}
use Rattle.protocol.specs.Step.{before, same, after, Walk, Here, Ended, Onward, Versus, none, is, is_after, walk_at, beside, copy_due, at_home, at_look, at_left, at_right, at_first, give_up, at_second, absent, at_check, copied, release, versus, at_shift, decide}
use Rattle.protocol.specs.Calls.{decision, ends_by, alone}
use Rattle.protocol.specs.Safety.{EndedStage}
use Rattle.protocol.proofs.Lawful.{Lawful, versus_occupied}
use Rattle.protocol.proofs.Updates.{holds_occupied}
use Rattle.protocol.proofs.Standings.{Means, stage_is}
use Rattle.protocol.proofs.Places.{length_after, contents_inside}

-- how far a walk from home has yet to go at p
unfoldable pub dist : ℕ → ℕ → ℕ → ℕ
dist N h p = cond (ltb p h) p (cond (ltb h p) (suc N - p) (N + 2))

dist_left : (N h p : ℕ) → p < h → dist N h p ≡ p
unfolding dist
dist_left N h p lt = cond-true (ltb p h) p (cond (ltb h p) (suc N - p) (N + 2)) (lt-ltb p h lt)

dist_right : (N h p : ℕ) → h < p → dist N h p ≡ suc N - p
unfolding dist
dist_right N h p lt =
    cond-false (ltb p h) p (cond (ltb h p) (suc N - p) (N + 2)) (le-ltb p h (omega arith)) ∙ cond-true (ltb h p) (suc N - p) (N + 2) (lt-ltb h p lt)

dist_home : (N h p : ℕ) → h ≡ p → dist N h p ≡ N + 2
unfolding dist
dist_home N h p e =
    cond-false (ltb p h) p (cond (ltb h p) (suc N - p) (N + 2)) (le-ltb p h (omega arith))
    ∙ cond-false (ltb h p) (suc N - p) (N + 2) (le-ltb h p (omega arith))

-- steps left at most
unfoldable pub left_over : ℕ → ℕ → Stage → ℕ
left_over N h Idle = 0
left_over N h Home = 5 * N + 20
left_over N h (Look p) = 4 * N + 17 + dist N h p
left_over N h (Left p) = 3 * N + 14 + p
left_over N h (Right l p) = 2 * N + 11 + (suc N - p)
left_over N h (FirstMark l r) = 2 * N + 10
left_over N h (SecondMark l r) = 2 * N + 9
left_over N h (GiveBack g) = 1
left_over N h (Check l r p) = N + 6 + dist N h p
left_over N h (Shift Leftward l r g) = g + 4
left_over N h (Shift Rightward l r g) = (N - g) + 3
left_over N h (ReleaseLeft l r a) = 2
left_over N h (ReleaseRight r a) = 1
left_over N h (Answered a) = 0

-- places that a station alone comes to
unfoldable pub Wide : ℕ → Stage → Type 0
Wide N Idle = Unit {0}
Wide N Home = Unit {0}
Wide N (Look p) = Unit {0}
Wide N (Left p) = p ≤ N
Wide N (Right l p) = p ≤ suc N
Wide N (FirstMark l r) = r ≤ suc N
Wide N (SecondMark l r) = r ≤ suc N
Wide N (GiveBack g) = Unit {0}
Wide N (Check l r p) = r ≤ suc N
Wide N (Shift d l r g) = Unit {0}
Wide N (ReleaseLeft l r a) = Unit {0}
Wide N (ReleaseRight r a) = Unit {0}
Wide N (Answered a) = Unit {0}

module _ {K : Type 0} {N : ℕ} (κ : Lawful K N) (k : K) where
  -- the step ends at home, or less is left
  unfoldable pub Falls : Stage → Stage → Type 0
  Falls x y = (y ≡ Home) ⊎ (Wide N y × (left_over N (κ.kind.place k) y < left_over N (κ.kind.place k) x) × (is_idle y ≡ false))

  module _ (T : ℕ → Content K) (M : ℕ → Bool) (inside : (p : ℕ) → is_occupied (T p) ≡ true → (0 < p) × (p ≤ N)) where
    home_falls : (b : Bool) (v : Versus) → versus κ.kind k (T (κ.kind.place k)) ≡ v → Falls Home (at_home k (κ.kind.place k) b v).next
    unfolding Falls Wide left_over
    home_falls true v e = inl refl
    home_falls false none e = inr (tt, omega arith, refl)
    home_falls false (is same) e = inr (tt, omega arith, refl)
    home_falls false (is after) e =
        let a = κ.place_low k in
        let b = κ.place_high k in let d = dist_left N (κ.kind.place k) (pred (κ.kind.place k)) (omega arith) in inr (tt, omega arith, refl)
    home_falls false (is before) e =
        let b = κ.place_high k in let d = dist_right N (κ.kind.place k) (suc (κ.kind.place k)) (omega arith) in inr (tt, omega arith, refl)

    -- a walk that goes on comes nearer
    nearer_left : (p : ℕ) → versus κ.kind k (T p) ≡ is after → p ≤ κ.kind.place k
        → dist N (κ.kind.place k) (pred p) < dist N (κ.kind.place k) p
    nearer_left p v le =
        let i = inside p (versus_occupied κ k (T p) after v) in let b = κ.place_high k in
        let d = dist_left N (κ.kind.place k) (pred p) (omega arith) in
        ⊎_elim
        (λ (a : p < κ.kind.place k). let e = dist_left N (κ.kind.place k) p a in omega arith)
        (λ a. let e = dist_home N (κ.kind.place k) p (omega arith) in omega arith)
        (cases_lt p (κ.kind.place k))

    nearer_right : (p : ℕ) → versus κ.kind k (T p) ≡ is before → κ.kind.place k ≤ p
        → dist N (κ.kind.place k) (suc p) < dist N (κ.kind.place k) p
    nearer_right p v le =
        let i = inside p (versus_occupied κ k (T p) before v) in
        let d = dist_right N (κ.kind.place k) (suc p) (omega arith) in
        ⊎_elim
        (λ (a : κ.kind.place k < p). let e = dist_right N (κ.kind.place k) p a in omega arith)
        (λ a. let e = dist_home N (κ.kind.place k) p (omega arith) in omega arith)
        (cases_lt (κ.kind.place k) p)

    walk_falls : (p : ℕ) (v : Versus) → versus κ.kind k (T p) ≡ v → (q : ℕ) → walk_at (κ.kind.place k) p v ≡ Onward q
        → dist N (κ.kind.place k) q < dist N (κ.kind.place k) p
    walk_falls p none e q w = let z : ◌≡◌ {A = ℕ} 0 1 = cc in absurd (omega arith)
    walk_falls p (is same) e q w = let z : ◌≡◌ {A = ℕ} 0 1 = cc in absurd (omega arith)
    walk_falls p (is after) e q w = by_test (leb p (κ.kind.place k)) refl w
      where
        by_test : (b : Bool) → leb p (κ.kind.place k) ≡ b → cond b (Onward (pred p)) Ended ≡ Onward q
            → dist N (κ.kind.place k) q < dist N (κ.kind.place k) p
        by_test true t w =
            subst
            (λ y. dist N (κ.kind.place k) y < dist N (κ.kind.place k) p) (let z : pred p ≡ q = cc in z)
            (nearer_left p e (leb-true p (κ.kind.place k) t))
        by_test false t w = let z : ◌≡◌ {A = ℕ} 0 1 = cc in absurd (omega arith)
    walk_falls p (is before) e q w = by_test (leb (κ.kind.place k) p) refl w
      where
        by_test : (b : Bool) → leb (κ.kind.place k) p ≡ b → cond b (Onward (suc p)) Ended ≡ Onward q
            → dist N (κ.kind.place k) q < dist N (κ.kind.place k) p
        by_test true t w =
            subst
            (λ y. dist N (κ.kind.place k) y < dist N (κ.kind.place k) p) (let z : suc p ≡ q = cc in z)
            (nearer_right p e (leb-true (κ.kind.place k) p t))
        by_test false t w = let z : ◌≡◌ {A = ℕ} 0 1 = cc in absurd (omega arith)

    look_falls : (p : ℕ) (w : Walk) → ((q : ℕ) → w ≡ Onward q → dist N (κ.kind.place k) q < dist N (κ.kind.place k) p)
        → Falls (Look p) (at_look {K = K} (κ.kind.place k) w).next
    unfolding Falls Wide left_over
    look_falls p Here f = inr (tt, omega arith, refl)
    look_falls p Ended f = let b = κ.place_high k in inr (omega arith, omega arith, refl)
    look_falls p (Onward q) f = let d = f q refl in inr (tt, omega arith, refl)

    left_falls : (p : ℕ) → p ≤ N → (b o : Bool) → is_occupied (T p) ≡ o → Falls (Left p) (at_left {K = K} (κ.kind.place k) p b o).next
    unfolding Falls Wide left_over
    left_falls p le true o e = inl refl
    left_falls p le false true e = let i = inside p e in inr (omega arith, omega arith, refl)
    left_falls p le false false e = let b = κ.place_high k in inr (omega arith, omega arith, refl)

    right_falls : (l p : ℕ) → p ≤ suc N → (b o : Bool) → is_occupied (T p) ≡ o → Falls (Right l p) (at_right {K = K} l p b o).next
    unfolding Falls Wide left_over
    right_falls l p le true o e = inl refl
    right_falls l p le false true e = let i = inside p e in inr (omega arith, omega arith, refl)
    right_falls l p le false false e = inr (le, omega arith, refl)

    first_falls : (l r : ℕ) → r ≤ suc N → (c b o : Bool) → Falls (FirstMark l r) (at_first {K = K} l r c b o).next
    unfolding Falls Wide left_over
    first_falls l r le false b o = inr (le, omega arith, refl)
    first_falls l r le true true o = inl refl
    first_falls l r le true false true = inl refl
    first_falls l r le true false false = inr (le, omega arith, refl)

    give_falls : (l r : ℕ) (c : Bool) → Falls (SecondMark l r) (give_up {K = K} l c).next
    unfolding Falls Wide left_over
    give_falls l r true = inr (tt, omega arith, refl)
    give_falls l r false = inl refl

    second_falls : (l r : ℕ) → r ≤ suc N → (a c b o : Bool) → Falls (SecondMark l r) (at_second {K = K} (κ.kind.place k) l r a c b o).next
    unfolding Falls Wide left_over
    second_falls l r le a false b o = let d = dist_home N (κ.kind.place k) (κ.kind.place k) refl in inr (le, omega arith, refl)
    second_falls l r le a true true o = give_falls l r a
    second_falls l r le a true false true = give_falls l r a
    second_falls l r le a true false false = let d = dist_home N (κ.kind.place k) (κ.kind.place k) refl in inr (le, omega arith, refl)

    absent_falls : (l r p : ℕ) → r ≤ suc N → (x y b : Bool) → Falls (Check l r p) (absent {K = K} l r x y b).next
    unfolding Falls Wide left_over
    absent_falls l r p le false false b = inr (tt, omega arith, refl)
    absent_falls l r p le false true b = inr (tt, omega arith, refl)
    absent_falls l r p le true false b = inr (tt, omega arith, refl)
    absent_falls l r p le true true true = inr (tt, omega arith, refl)
    absent_falls l r p le true true false = inr (tt, omega arith, refl)

    check_falls : (l r p : ℕ) → r ≤ suc N → (x y b : Bool) (w : Walk)
        → ((q : ℕ) → w ≡ Onward q → dist N (κ.kind.place k) q < dist N (κ.kind.place k) p)
        → Falls (Check l r p) (at_check {K = K} l r x y b w).next
    unfolding Falls Wide left_over
    check_falls l r p le x y b Here f = inr (tt, omega arith, refl)
    check_falls l r p le x y b Ended f = absent_falls l r p le x y b
    check_falls l r p le x y b (Onward q) f = let d = f q refl in inr (le, omega arith, refl)

    copied_falls : (d : Direction) (l r g : ℕ) (x : K) → is_occupied (T (beside d g)) ≡ true → (b : Bool)
        → Falls (Shift d l r g) (copied k d l r g x b).next
    unfolding Falls Wide left_over
    copied_falls Leftward l r g x o true = let i = inside g o in let z : pred g + 4 < g + 4 = omega arith in inr (tt, z, refl)
    copied_falls Leftward l r g x o false = inr (tt, omega arith, refl)
    copied_falls Rightward l r g x o true = let i = inside (suc (suc g)) o in let z : (N - suc g) + 3 < (N - g) + 3 = omega arith in inr (tt, z, refl)
    copied_falls Rightward l r g x o false = inr (tt, omega arith, refl)

    settles_falls : (d : Direction) (l r g : ℕ) → Falls (Shift d l r g) (ReleaseLeft l r Inserted)
    unfolding Falls Wide left_over
    settles_falls Leftward l r g = inr (tt, omega arith, refl)
    settles_falls Rightward l r g = inr (tt, omega arith, refl)

    shift_falls : (d : Direction) (l r g : ℕ) (c : Content K) → T (beside d g) ≡ c → Falls (Shift d l r g) (at_shift κ.kind k d l r g c).next
    shift_falls d l r g empty e = settles_falls d l r g
    shift_falls d l r g (holds x) e = copied_falls d l r g x (holds_occupied e) (copy_due d (κ.kind.order x k))

    release_left_falls : (l r : ℕ) (a : Answer) (c : Bool) → Falls (ReleaseLeft l r a) (release {K = K} l c (ReleaseRight r a)).next
    unfolding Falls Wide left_over
    release_left_falls l r a true = inr (tt, omega arith, refl)
    release_left_falls l r a false = inr (tt, omega arith, refl)

    release_right_falls : (r : ℕ) (a : Answer) (c : Bool) → Falls (ReleaseRight r a) (release {K = K} r c (Answered a)).next
    unfolding Falls Wide left_over
    release_right_falls r a true = inr (tt, omega arith, refl)
    release_right_falls r a false = inr (tt, omega arith, refl)

    pub falls : (x : Stage) → busy x ≡ true → Wide N x → Falls x (decide κ.kind k x T M).next
    unfolding Wide Falls
    falls Idle b w = absurd (both_ways false refl b)
    falls Home b w = home_falls (M (κ.kind.place k)) (versus κ.kind k (T (κ.kind.place k))) refl
    falls (Look p) b w = look_falls p (walk_at (κ.kind.place k) p (versus κ.kind k (T p))) (walk_falls p (versus κ.kind k (T p)) refl)
    falls (Left p) b w = left_falls p w (M p) (is_occupied (T p)) refl
    falls (Right l p) b w = right_falls l p w (M p) (is_occupied (T p)) refl
    falls (FirstMark l r) b w = first_falls l r w (cell N l) (M l) (is_occupied (T l))
    falls (SecondMark l r) b w = second_falls l r w (cell N l) (cell N r) (M r) (is_occupied (T r))
    falls (GiveBack g) b w = inl refl
    falls (Check l r p) b w =
        check_falls l r p w (cell N l) (cell N r) (is_after (versus κ.kind k (T (κ.kind.place k))))
        (walk_at (κ.kind.place k) p (versus κ.kind k (T p))) (walk_falls p (versus κ.kind k (T p)) refl)
    falls (Shift d l r g) b w = shift_falls d l r g (T (beside d g)) refl
    falls (ReleaseLeft l r a) b w = release_left_falls l r a (cell N l)
    falls (ReleaseRight r a) b w = release_right_falls r a (cell N r)
    falls (Answered a) b w = absurd (both_ways false refl b)

  pub positive : (x : Stage) → busy x ≡ true → 0 < left_over N (κ.kind.place k) x
  unfolding left_over
  positive Idle b = absurd (both_ways false refl b)
  positive Home b = omega arith
  positive (Look p) b = omega arith
  positive (Left p) b = omega arith
  positive (Right l p) b = omega arith
  positive (FirstMark l r) b = omega arith
  positive (SecondMark l r) b = omega arith
  positive (GiveBack g) b = omega arith
  positive (Check l r p) b = omega arith
  positive (Shift Leftward l r g) b = omega arith
  positive (Shift Rightward l r g) b = omega arith
  positive (ReleaseLeft l r a) b = omega arith
  positive (ReleaseRight r a) b = omega arith
  positive (Answered a) b = absurd (both_ways false refl b)

  -- so its steps are over before their number is
  pub alone_ends : (n : ℕ) (cs : List (Cell K)) (x : Stage) → length cs ≡ N → busy x ≡ true → Wide N x → left_over N (κ.kind.place k) x ≤ n
      → EndedStage (alone κ.kind n k cs x).1
  unfolding alone Falls
  alone_ends zero cs x size b w le = let z = positive x b in absurd (omega arith)
  alone_ends (suc n) cs x size b w le =
      let m = decision κ.kind cs k x in
      let after_it = cells_after m.act cs in
      ⊎_elim
      (λ e. inl (ap (λ y. (ends_by (standing y) (after_it, m.next) (alone κ.kind n k after_it m.next)).1) e ∙ e))
      (λ f. by_standing after_it m.next (alone κ.kind n k after_it m.next) (standing m.next) (stage_is m.next) refl f.2
      (λ u. alone_ends n after_it m.next (length_after m.act cs ∙ size) u f.0 (omega arith)))
      (falls (contents cs) (marks cs) (contents_inside cs N size) x b w)
    where
      by_standing : (cs : List (Cell K)) (x : Stage) (o : List (Cell K) × Stage) (y : Standing) → Means x y → standing x ≡ y → is_idle x ≡ false
          → (busy x ≡ true → EndedStage o.1) → EndedStage (ends_by y (cs, x) o).1
      by_standing cs x o resting t e i h = absurd (both_ways (is_idle x) i (ap idle_by e))
      by_standing cs x o homing t e i h = inl t
      by_standing cs x o under_way t e i h = h (ap busy_by e)
      by_standing cs x o (done a) t e i h = inr (a, t)
