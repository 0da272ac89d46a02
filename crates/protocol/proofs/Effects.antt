-- An entry gets its answer once, at its effect, and its stage carries it from then on.
use Rattle.std.proofs.Common.{◌≡◌, ℕ, Bool, true, false, ◌⊎◌, List, refl, ap, inl, inr, ⊎_elim, arith}
use Rattle.protocol.specs.Cells.{Content, empty, holds, cell, is_occupied}
use Rattle.protocol.specs.Stages.{Answer, Direction, Stage, Idle, Home, Look, Left, Right, FirstMark, SecondMark, GiveBack, Check, Shift, ReleaseLeft, ReleaseRight, Answered}
use Rattle.protocol.specs.Step.{before, same, after, Walk, Here, Ended, Onward, Kind, Effect, nothing, took, Decision, Versus, none, is, is_after, walk_at, beside, copy_due, at_home, at_look, at_left, at_right, at_first, give_up, at_second, absent, at_check, copied, release, versus, at_shift, decide}
use Rattle.protocol.specs.Turns.{noted, latest}

abbrev pub given : Stage → Effect
given Idle = nothing
given Home = nothing
given (Look p) = nothing
given (Left p) = nothing
given (Right l p) = nothing
given (FirstMark l r) = nothing
given (SecondMark l r) = nothing
given (GiveBack g) = nothing
given (Check l r p) = nothing
given (Shift d l r g) = nothing
given (ReleaseLeft l r a) = took a
given (ReleaseRight r a) = took a
given (Answered a) = took a

-- no answer yet, or no effect; and the answer after the step is the effect's, if any
abbrev Once : Effect → Effect → Effect → Type 0
Once e old new = ((old ≡ nothing) ⊎ (e ≡ nothing)) × (latest e old ≡ new)

module _ {K : Type 0} {N : ℕ} (κ : Kind K N) where
  abbrev KeepsAnswer : Stage → Decision K → Type 0
  KeepsAnswer x m = Once m.effect (given x) (given m.next)

  -- at a stage without an answer the effect alone counts
  home_once : (k : K) (h : ℕ) (b : Bool) (v : Versus) → KeepsAnswer Home (at_home k h b v)
  home_once k h true v = (inl refl, refl)
  home_once k h false none = (inl refl, refl)
  home_once k h false (is same) = (inl refl, refl)
  home_once k h false (is after) = (inl refl, refl)
  home_once k h false (is before) = (inl refl, refl)

  look_once : (h p : ℕ) (w : Walk) → KeepsAnswer (Look p) (at_look h w)
  look_once h p Here = (inl refl, refl)
  look_once h p Ended = (inl refl, refl)
  look_once h p (Onward q) = (inl refl, refl)

  left_once : (h p : ℕ) (b o : Bool) → KeepsAnswer (Left p) (at_left h p b o)
  left_once h p true o = (inl refl, refl)
  left_once h p false true = (inl refl, refl)
  left_once h p false false = (inl refl, refl)

  right_once : (l p : ℕ) (b o : Bool) → KeepsAnswer (Right l p) (at_right l p b o)
  right_once l p true o = (inl refl, refl)
  right_once l p false true = (inl refl, refl)
  right_once l p false false = (inl refl, refl)

  first_once : (l r : ℕ) (c b o : Bool) → KeepsAnswer (FirstMark l r) (at_first l r c b o)
  first_once l r false b o = (inl refl, refl)
  first_once l r true true o = (inl refl, refl)
  first_once l r true false true = (inl refl, refl)
  first_once l r true false false = (inl refl, refl)

  give_once : (l r : ℕ) (c : Bool) → KeepsAnswer (SecondMark l r) (give_up l c)
  give_once l r true = (inl refl, refl)
  give_once l r false = (inl refl, refl)

  second_once : (h l r : ℕ) (a c b o : Bool) → KeepsAnswer (SecondMark l r) (at_second h l r a c b o)
  second_once h l r a false b o = (inl refl, refl)
  second_once h l r a true true o = give_once l r a
  second_once h l r a true false true = give_once l r a
  second_once h l r a true false false = (inl refl, refl)

  absent_once : (l r p : ℕ) (x y b : Bool) → KeepsAnswer (Check l r p) (absent l r x y b)
  absent_once l r p false false b = (inl refl, refl)
  absent_once l r p false true b = (inl refl, refl)
  absent_once l r p true false b = (inl refl, refl)
  absent_once l r p true true true = (inl refl, refl)
  absent_once l r p true true false = (inl refl, refl)

  check_once : (l r p : ℕ) (x y b : Bool) (w : Walk) → KeepsAnswer (Check l r p) (at_check l r x y b w)
  check_once l r p x y b Here = (inl refl, refl)
  check_once l r p x y b Ended = absent_once l r p x y b
  check_once l r p x y b (Onward q) = (inl refl, refl)

  copied_once : (k : K) (d : Direction) (l r g : ℕ) (x : K) (b : Bool) → KeepsAnswer (Shift d l r g) (copied k d l r g x b)
  copied_once k d l r g x true = (inl refl, refl)
  copied_once k d l r g x false = (inl refl, refl)

  release_once : (x y : Stage) → given x ≡ given y → (p : ℕ) (c : Bool) → KeepsAnswer x (release p c y)
  release_once x y e p true = (inr refl, e)
  release_once x y e p false = (inr refl, e)

  shift_once : (k : K) (d : Direction) (l r g : ℕ) (c : Content K) → KeepsAnswer (Shift d l r g) (at_shift κ k d l r g c)
  shift_once k d l r g empty = (inl refl, refl)
  shift_once k d l r g (holds x) = copied_once k d l r g x (copy_due d (κ.order x k))

  pub once : (k : K) (x : Stage) (T : ℕ → Content K) (M : ℕ → Bool) → KeepsAnswer x (decide κ k x T M)
  once k Idle T M = (inl refl, refl)
  once k Home T M = home_once k (κ.place k) (M (κ.place k)) (versus κ k (T (κ.place k)))
  once k (Look p) T M = look_once (κ.place k) p (walk_at (κ.place k) p (versus κ k (T p)))
  once k (Left p) T M = left_once (κ.place k) p (M p) (is_occupied (T p))
  once k (Right l p) T M = right_once l p (M p) (is_occupied (T p))
  once k (FirstMark l r) T M = first_once l r (cell N l) (M l) (is_occupied (T l))
  once k (SecondMark l r) T M = second_once (κ.place k) l r (cell N l) (cell N r) (M r) (is_occupied (T r))
  once k (GiveBack g) T M = (inl refl, refl)
  once k (Check l r p) T M =
      check_once l r p (cell N l) (cell N r) (is_after (versus κ k (T (κ.place k)))) (walk_at (κ.place k) p (versus κ k (T p)))
  once k (Shift d l r g) T M = shift_once k d l r g (T (beside d g))
  once k (ReleaseLeft l r a) T M = release_once (ReleaseLeft l r a) (ReleaseRight r a) refl l (cell N l)
  once k (ReleaseRight r a) T M = release_once (ReleaseRight r a) (Answered a) refl r (cell N r)
  once k (Answered a) T M = (inr refl, refl)

pub noted_once : {K : Type 0} (k : K) (es : List (K × Answer)) (e old new : Effect) → Once e old new → noted k e (noted k old es) ≡ noted k new es
noted_once k es nothing old new o = ap (λ x. noted k x es) o.1
noted_once k es (took a) nothing new o = ap (λ x. noted k x es) o.1
noted_once k es (took a) (took b) new o =
    ⊎_elim (λ e. let z : ◌≡◌ {A = ℕ} 0 1 = cc in absurd (omega arith)) (λ e. let z : ◌≡◌ {A = ℕ} 0 1 = cc in absurd (omega arith)) o.0
