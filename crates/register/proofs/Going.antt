-- The loop of a whole entry: what it has come to, and that it ends.
use Rattle.std.proofs.Common.{◌≡◌, ℕ, zero, suc, ◌<◌, ◌≤◌, true, false, List, length, Ordering, sym, refl, ap, ◌∙◌, subst, ⊎_elim, arith}
use Rattle.std.proofs.lemmas.Bool.{both_ways, cond-true, cond-false}
use Rattle.keys.specs.Laws.{Laws}
use Rattle.protocol.specs.declared.Cell.{Cell}
use Rattle.protocol.specs.declared.Answer.{Answer}
use Rattle.protocol.specs.declared.Stage.{Stage}
use Rattle.protocol.specs.declared.Stage.TheVariants.{Idle, Home, Look, Left, Right, FirstMark, SecondMark, GiveBack, Check, Shift, ReleaseLeft, ReleaseRight, Answered}
use Rattle.protocol.specs.declared.Station.{Station}
use Rattle.protocol.specs.declared.Refusal.{Refusal}
use Rattle.protocol.specs.declared.Refusal.TheVariants.{WrongSize, NoCell, Barred}
use Rattle.protocol.specs.Cells.{contents, marks, cells_after}
use Rattle.protocol.specs.Stages.{Standing, resting, homing, under_way, done, standing, busy_by, busy, is_idle, names_cells}
use Rattle.protocol.specs.Step.{Kind, kind_over, Decision}
use Rattle.protocol.specs.Calls.{Result, Ok, Err, World, bad_size, refused_if, decision, ends_by, alone, enough, whole_answer, whole_entry_by, whole_entry}
use Rattle.protocol.proofs.Lawful.{Lawful, lawful}
use Rattle.protocol.proofs.Places.{length_after, contents_inside}
use Rattle.protocol.proofs.Ends.{left_over, Wide, Falls, falls, positive}
use Rattle.protocol.proofs.Named.{named_kept}
use Rattle.stages.specs.declared.Entry.{Entry}
use Rattle.stages.specs.Turning.{turned_down, step_made, turning}
use Rattle.register.specs.Memory.{world}

sized : (n : ℕ) → false ≡ bad_size n → (1 ≤ n) × (n ≤ 65536)
sized n e = (grind arith, grind arith)

-- a whole entry, from what its steps have come to
module _ {K : Type 0} {N : ℕ} (κ : Kind K N) (w : World K) (k : K) where
  entered : bad_size N ≡ false → (o : List (Cell K) × Stage) → o ≡ alone κ (enough N) k w.cells Home → whole_entry_by w o ≡ whole_entry κ w k
  unfolding whole_entry refused_if
  entered e o h =
      ap (whole_entry_by w) h ∙ sym (ap (λ b. refused_if b WrongSize w (whole_entry_by w (alone κ (enough N) k w.cells Home))) e)

-- where a step does not end the entry, both go on alike
ends_alike : {A : Type 0} (x : Stage) (y : Standing) → standing x ≡ y → (o p q : A) → (busy x ≡ true → p ≡ q) → ends_by y o p ≡ ends_by y o q
ends_alike x resting e o p q f = refl
ends_alike x homing e o p q f = refl
ends_alike x under_way e o p q f = f (ap busy_by e)
ends_alike x (done a) e o p q f = refl

module _ {K : Type 0} {N : ℕ} (κ : Lawful K N) (k : K) where
  abbrev steps_left_of : Stage → ℕ
  steps_left_of x = left_over N (κ.kind.place k) x

  fallen : (cs : List (Cell K)) → length cs ≡ N → (x : Stage) → busy x ≡ true → Wide N x → Falls κ k x (decision κ.kind cs k x).next
  fallen cs size x b w = falls κ k (contents cs) (marks cs) (contents_inside cs N size) x b w

  -- how many steps are allowed does not matter, once they are enough
  same_alone : (m n : ℕ) (cs : List (Cell K)) (x : Stage) → length cs ≡ N → busy x ≡ true → Wide N x → steps_left_of x ≤ m → steps_left_of x ≤ n
      → alone κ.kind m k cs x ≡ alone κ.kind n k cs x
  unfolding alone Falls
  same_alone zero n cs x size b w a c = let z = positive κ k x b in absurd (omega arith)
  same_alone (suc m) zero cs x size b w a c = let z = positive κ k x b in absurd (omega arith)
  same_alone (suc m) (suc n) cs x size b w a c =
      let d = decision κ.kind cs k x in
      let cs' = cells_after d.act cs in
      let p = alone κ.kind m k cs' d.next in
      let q = alone κ.kind n k cs' d.next in
      ⊎_elim (λ e. ap (λ y. ends_by (standing y) (cs', y) p) e ∙ sym (ap (λ y. ends_by (standing y) (cs', y) q) e))
      (λ h.
      ends_alike d.next (standing d.next) refl (cs', d.next) p q
      (λ b'. same_alone m n cs' d.next (length_after d.act cs ∙ size) b' h.0 (omega arith) (omega arith)))
      (fallen cs size x b w)

-- a stage at which the entry is not over
goes_on : {A : Type 0} (x : Stage) → is_idle x ≡ false → (x ≡ Home → ⊥) → ((a : Answer) → x ≡ Answered a → ⊥) → (o p : A)
    → (busy x ≡ true) × (ends_by (standing x) o p ≡ p)
goes_on Idle n h a o p = absurd (both_ways true n refl)
goes_on Home n h a o p = absurd (h refl)
goes_on (Look q) n h a o p = (refl, refl)
goes_on (Left q) n h a o p = (refl, refl)
goes_on (Right l q) n h a o p = (refl, refl)
goes_on (FirstMark l r) n h a o p = (refl, refl)
goes_on (SecondMark l r) n h a o p = (refl, refl)
goes_on (GiveBack c) n h a o p = (refl, refl)
goes_on (Check l r q) n h a o p = (refl, refl)
goes_on (Shift d l r g) n h a o p = (refl, refl)
goes_on (ReleaseLeft l r b) n h a o p = (refl, refl)
goes_on (ReleaseRight r b) n h a o p = (refl, refl)
goes_on (Answered b) n h a o p = absurd (a b refl)

module _ {K : Type 0} (order : K → K → Ordering) (home : K → ℕ → ℕ) (k : K) (cs₀ : List (Cell K)) where
  abbrev size₀ : ℕ
  size₀ = length cs₀

  abbrev pub steps_left : Entry K → ℕ
  steps_left e = left_over size₀ (suc (home k size₀)) e.stage

  abbrev outcome : ℕ → List (Cell K) → Stage → List (Cell K) × Stage
  outcome n cs x = alone (kind_over order home size₀) n k cs x

  -- after some steps of a whole entry
  pub record Going (cs : List (Cell K)) (e : Entry K) : Type 0 where
    pub own : e.key ≡ k
    pub size : length cs ≡ size₀
    pub runs : busy e.stage ≡ true
    pub wide : Wide size₀ e.stage
    pub named : names_cells size₀ e.stage ≡ true
    pub same : outcome (enough size₀) cs₀ Home ≡ outcome (steps_left e) cs e.stage

  module _ (laws : Laws order home) (good : false ≡ bad_size size₀) where
    abbrev κ : Lawful K size₀
    κ = lawful laws size₀ (sized size₀ good).0 (sized size₀ good).1

    pub going_start : Going cs₀ (record { key = k; stage = Home })
    unfolding Wide left_over
    going_start = record { own = refl; size = refl; runs = refl; wide = tt; named = refl; same = refl }

    -- a turn of it is not refused
    turn_made : (cs : List (Cell K)) (e : Entry K) → Going cs e
        → turning (kind_over order home (length cs)) cs e ≡ step_made cs e (decision (kind_over order home (length cs)) cs e.key e.stage)
    turn_made cs e i =
        cond-false (bad_size (length cs)) (turned_down cs e WrongSize) _ (ap bad_size i.size ∙ sym good)
        ∙ cond-true (names_cells (length cs) e.stage) _ (turned_down cs e NoCell) (ap (λ n. names_cells n e.stage) i.size ∙ i.named)

    module _ (cs : List (Cell K)) (e : Entry K) (i : Going cs e) (cs' : List (Cell K)) (e' : Entry K) (r : Result (Unit {0}) Refusal)
        (turn_is : (cs', e', r) ≡ turning (kind_over order home (length cs)) cs e) where
      pub never_refused : (x : Refusal) → r ≡ Err x → ⊥
      never_refused x z =
          let ok : r ≡ Ok tt = ap (λ o. o.2) (turn_is ∙ turn_made cs e i) in
          let no : ◌≡◌ {A = ℕ} 0 1 = cc in
          omega arith

      entry_is : e' ≡ record { key = e.key; stage = (decision (kind_over order home (length cs)) cs e.key e.stage).next }
      entry_is = ap (λ o. o.1) (turn_is ∙ turn_made cs e i)

      cells_are : cs' ≡ cells_after (decision (kind_over order home (length cs)) cs e.key e.stage).act cs
      cells_are = ap (λ o. o.0) (turn_is ∙ turn_made cs e i)

      abbrev step_of : Decision K
      step_of = decision (kind_over order home size₀) cs k e.stage

      step_is : decision (kind_over order home (length cs)) cs e.key e.stage ≡ step_of
      step_is =
          ap (λ n. decision (kind_over order home n) cs e.key e.stage) i.size
          ∙ ap (λ x. decision (kind_over order home size₀) cs x e.stage) i.own

      stage_is : e'.stage ≡ step_of.next
      stage_is = ap (λ x. x.stage) entry_is ∙ ap (λ d. d.next) step_is

      cells_is : cs' ≡ cells_after step_of.act cs
      cells_is = cells_are ∙ ap (λ d. cells_after d.act cs) step_is

      -- one step more
      went : outcome (enough size₀) cs₀ Home ≡ ends_by (standing e'.stage) (cs', e'.stage) (outcome (steps_left e) cs' e'.stage)
      unfolding alone
      went =
          i.same
          ∙ same_alone κ k (steps_left e) (suc (steps_left e)) cs e.stage i.size i.runs i.wide (omega arith) (omega arith)
          ∙ sym
          (ap (λ c. ends_by (standing e'.stage) (c, e'.stage) (outcome (steps_left e) c e'.stage)) cells_is
          ∙ ap (λ x. ends_by (standing x) (cells_after step_of.act cs, x) (outcome (steps_left e) (cells_after step_of.act cs) x)) stage_is)

      abbrev pub Whole : Result Answer Refusal → Type 0
      Whole answer = (number : ℕ) (ts : List (Station K)) → (world number cs' ts, answer) ≡ whole_entry (kind_over order home size₀) (world number cs₀ ts) k

      over : (x : Stage) → e'.stage ≡ x → (p : ends_by (standing x) (cs', x) (outcome (steps_left e) cs' e'.stage) ≡ (cs', x)) → Whole (whole_answer (standing x))
      over x h p number ts =
          entered (kind_over order home size₀) (world number cs₀ ts) k (sym good) (cs', x)
          (sym (went ∙ ap (λ y. ends_by (standing y) (cs', y) (outcome (steps_left e) cs' e'.stage)) h ∙ p))

      pub came_home : e'.stage ≡ Home → Whole (Err Barred)
      came_home h = over Home h refl

      pub was_answered : (a : Answer) → e'.stage ≡ Answered a → Whole (Ok a)
      was_answered a h = over (Answered a) h refl

      pub going_on : (e'.stage ≡ Home → ⊥) → ((a : Answer) → e'.stage ≡ Answered a → ⊥) → Going cs' e' × (steps_left e' < steps_left e)
      unfolding Falls
      going_on h a = ⊎_elim (λ z. absurd (h (stage_is ∙ z)))
          (λ z.
          let w : Wide size₀ e'.stage = subst (Wide size₀) (sym stage_is) z.0 in
          let lt : steps_left e' < steps_left e = subst (λ x. left_over size₀ (suc (home k size₀)) x < steps_left e) (sym stage_is) z.1 in
          let more = goes_on e'.stage (ap is_idle stage_is ∙ z.2) h a (cs', e'.stage) (outcome (steps_left e) cs' e'.stage) in
          let sized : length cs' ≡ size₀ = ap length cells_is ∙ length_after step_of.act cs ∙ i.size in (
            record {
              own = ap (λ x. x.key) entry_is ∙ i.own;
              size = sized;
              runs = more.0;
              wide = w;
              named =
                  ap (names_cells size₀) stage_is
                  ∙ named_kept κ k (contents cs) (marks cs) (contents_inside cs size₀ i.size) e.stage i.named;
              same =
                  went ∙ more.1
                  ∙ same_alone κ k (steps_left e) (steps_left e') cs' e'.stage sized more.0 w (omega arith) (omega arith);
            },
            lt,
          ))
          (fallen κ k cs i.size e.stage i.runs i.wide)
