-- What a stage's standing says of the stage.
use Rattle.std.proofs.Common.{◌≡◌, Bool, true, false, not, sym, refl}
use Rattle.std.proofs.lemmas.Bool.{both_ways}
use Rattle.protocol.specs.Stages.{Stage, Idle, Home, Look, Left, Right, FirstMark, SecondMark, GiveBack, Check, Shift, ReleaseLeft, ReleaseRight, Answered, Standing, resting, homing, under_way, done, standing, busy_by, busy, idle_by, is_idle, settled_by, settled}
use Rattle.protocol.specs.Calls.{says_by, says}
use Rattle.protocol.specs.Turns.{after_progress}

abbrev pub Means : Stage → Standing → Type 0
Means x resting = x ≡ Idle
Means x homing = x ≡ Home
Means x under_way = Unit {0}
Means x (done a) = x ≡ Answered a

pub stage_is : (x : Stage) → Means x (standing x)
stage_is Idle = refl
stage_is Home = refl
stage_is (Look p) = tt
stage_is (Left p) = tt
stage_is (Right l p) = tt
stage_is (FirstMark l r) = tt
stage_is (SecondMark l r) = tt
stage_is (GiveBack g) = tt
stage_is (Check l r p) = tt
stage_is (Shift d l r g) = tt
stage_is (ReleaseLeft l r a) = tt
stage_is (ReleaseRight r a) = tt
stage_is (Answered a) = refl

pub idle_is : (x : Stage) → not (is_idle x) ≡ false → x ≡ Idle
idle_is x e = go (standing x) (stage_is x) e
  where
    go : (y : Standing) → Means x y → not (idle_by y) ≡ false → x ≡ Idle
    go resting t e = t
    go homing t e = absurd (both_ways true e refl)
    go under_way t e = absurd (both_ways true e refl)
    go (done a) t e = absurd (both_ways true e refl)

-- a withdrawn station that does not become idle keeps its stage
pub settled_same : (b : Bool) (x : Stage) → is_idle (settled b x) ≡ false → settled b x ≡ x
settled_same false x e = refl
settled_same true x e = go (standing x) e
  where
    go : (y : Standing) → is_idle (settled_by true y x) ≡ false → settled_by true y x ≡ x
    go resting e = absurd (both_ways true e refl)
    go homing e = absurd (both_ways true e refl)
    go under_way e = refl
    go (done a) e = absurd (both_ways true e refl)

pub busy_not_idle : (x : Stage) → busy x ≡ true → is_idle x ≡ false
busy_not_idle x e = go (standing x) e
  where
    go : (y : Standing) → busy_by y ≡ true → idle_by y ≡ false
    go resting e = sym e
    go homing e = refl
    go under_way e = refl
    go (done a) e = refl

-- what a step says of an unfinished entry
pub finish_is : (x : Stage) (old : Bool) → old ≡ true → after_progress (says x) old ≡ busy x
finish_is x old e = go (standing x)
  where
    go : (y : Standing) → after_progress (says_by y) old ≡ busy_by y
    go resting = refl
    go homing = e
    go under_way = e
    go (done a) = refl
