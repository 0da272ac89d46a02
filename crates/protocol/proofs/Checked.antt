-- Calls whose checks may refuse them.
use Rattle.std.proofs.Common.{◌≡◌, ℕ, Bool, true, false, length, refl}
use Rattle.protocol.specs.declared.Station.{Station}
use Rattle.protocol.specs.Cells.{Content, empty, holds, nth}
use Rattle.protocol.specs.Calls.{Err, Refusal, NoStation, World, bad_count, Out, refused_if, for_record, at_station}

-- what holds of the refusal, and of what follows the check, holds of the call
pub by_check : {K A : Type 0} (P : Out K A → Type 0) (b : Bool) (e : Refusal) (w : World K) (o : Out K A) → P (w, Err e) → (b ≡ false → P o)
    → P (refused_if b e w o)
unfolding refused_if
by_check P true e w o x y = x
by_check P false e w o x y = y refl

pub by_station : {K A : Type 0} (P : Out K A → Type 0) (w : World K) (s : ℕ) (f : Station K → Out K A) → P (w, Err NoStation)
    → (bad_count (length w.stations) ≡ false → (u : Station K) → nth w.stations s ≡ holds u → P (f u)) → P (at_station w s f)
unfolding for_record
by_station P w s f x y =
    by_check P (bad_count (length w.stations)) NoStation w (for_record w (nth w.stations s) f) x (λ b. go (nth w.stations s) refl b)
  where
    go : (o : Content (Station _)) → nth w.stations s ≡ o → bad_count (length w.stations) ≡ false → P (for_record w o f)
    go empty e b = x
    go (holds u) e b = y b u e
