-- Every slip in hand can be spent: each order keeps that so.
use Rattle.std.proofs.Common.{◌≡◌, ℕ, zero, suc, ◌+◌, ◌<◌, ◌≤◌, Bool, true, false, ◌&&◌, eqb, ◌≢◌, ◌⊎◌, List, [], ◌∷◌, length, get_or, set, Some, None, Ok, Err, Option, Result, sym, refl, ap, ◌∙◌, subst, inl, inr, arith, length-set, get_or-set_other, set-set}
use lib.Seq.{set-get_or}
use Rattle.std.proofs.lemmas.Bool.Decides.{nat_tests}
use Rattle.std.proofs.lemmas.Bool.{cases_eq}
use Rattle.keys.specs.declared.Tray.{Tray}
use Rattle.keys.specs.Kinds.{tray_order, tray_home}
use Rattle.protocol.specs.declared.Answer.{Answer}
use Rattle.protocol.specs.declared.Departure.{Departure}
use Rattle.protocol.specs.declared.Progress.{Progress}
use Rattle.protocol.specs.declared.Refusal.{Refusal}
use Rattle.protocol.specs.Step.{kind_over}
use Rattle.protocol.specs.Calls.{World, Out, SlipNumbers}
use Rattle.protocol.specs.Turns.{begin, step, collect, withdraw, enter, turned}
use Rattle.register.specs.declared.Slip.{Slip}
use Rattle.register.specs.declared.Refused.{Refused}
use Rattle.register.specs.Memory.{hands_out, hands_back}
use Rattle.register.specs.Slips.{spendable}
use Rattle.register.proofs.Holders as holders
use Rattle.register.proofs.Holders.{Open, open_spendable, spendable_open, Elsewhere, open_elsewhere, stepped_open, Back}
use Rattle.script.specs.declared.replies.Reply.{Reply}
use Rattle.script.specs.declared.replies.Reply.TheVariants.{Begun, Stepped, Told, Withdrawn, Refused as RefusedWith, NoSlip, Shown, Nothing, Faulty}
use Rattle.script.specs.Hands.{held_at, Held, one_if, slips_left}
use Rattle.script.specs.Sessions.{After, reply, without_slip, withdrawn_by, withdrawn}

both_true : (a b : Bool) → (a && b) ≡ true → (a ≡ true) × (b ≡ true)
both_true true b e = (refl, e)
both_true false b e = let z : ◌≡◌ {A = ℕ} 0 1 = cc in absurd (omega arith)

-- what a slip in hand comes to
held_open : (w : World Tray) (s : ℕ) (x : Slip) → held_at w s (Some x) ≡ true → (x.station ≡ s) × Open w x.register x.station
held_open w s x h =
    let p = both_true (eqb x.station s) (spendable w x.register x.station) h in
    let t : eqb x.station s ≡ true = p.0 in
    (grind (arith, nat_tests), spendable_open w x.register x.station p.1)

open_held : (w : World Tray) (s : ℕ) (x : Slip) → x.station ≡ s → Open w x.register x.station → held_at w s (Some x) ≡ true
open_held w s x e g =
    let t : eqb x.station s ≡ true = grind (arith, nat_tests) in
    rw (t, open_spendable w x.register x.station g) refl

-- where a turn leaves every open slip open
kept_one : (w w' : World Tray) (s : ℕ) (o : Option Slip) → ((number : ℕ) → Open w number s → Open w' number s) → held_at w s o ≡ true → held_at w' s o ≡ true
kept_one w w' s None keep h = refl
kept_one w w' s (Some x) keep h =
    let p = held_open w s x h in
    open_held w' s x p.0 (subst (Open w' x.register) (sym p.0) (keep x.register (subst (Open w x.register) p.0 p.1)))

kept : (w w' : World Tray) (slips : List (Option Slip)) → ((number s : ℕ) → Open w number s → Open w' number s) → Held w slips → Held w' slips
kept w w' slips keep h s = kept_one w w' s (get_or slips s None) (λ number. keep number s) (h s)

-- where a turn of station s leaves those of the others open, and station s has another slip in hand, or none
set_reads : (slips : List (Option Slip)) (s : ℕ) (o : Option Slip) → (get_or (set slips s o) s None ≡ o) ⊎ (get_or (set slips s o) s None ≡ None)
set_reads [] s o = inr refl
set_reads (x ∷ xs) zero o = inl refl
set_reads (x ∷ xs) (suc s) o = set_reads xs s o

changed : (w w' : World Tray) (slips slips' : List (Option Slip)) (s : ℕ) (o : Option Slip) → slips' ≡ set slips s o → Elsewhere s w w' → held_at w' s o ≡ true → Held w slips → Held w' slips'
changed w w' slips slips' s o is e own h = subst (Held w') (sym is) (λ j. at j (cases_eq s j))
  where
    own_place : (get_or (set slips s o) s None ≡ o) ⊎ (get_or (set slips s o) s None ≡ None) → held_at w' s (get_or (set slips s o) s None) ≡ true
    own_place (inl q) = subst (λ v. held_at w' s v ≡ true) (sym q) own
    own_place (inr q) = subst (λ v. held_at w' s v ≡ true) (sym q) refl

    at : (j : ℕ) → (s ≡ j) ⊎ (s ≢ j) → held_at w' j (get_or (set slips s o) j None) ≡ true
    at j (inl q) = subst (λ i. held_at w' i (get_or (set slips s o) i None) ≡ true) q (own_place (set_reads slips s o))
    at j (inr n) =
        let ne : j ≢ s = λ q. n (sym q) in
        subst (λ v. held_at w' j v ≡ true) (sym (get_or-set_other slips s j o None ne)) (kept_one w w' j (get_or slips j None) (λ number. open_elsewhere s j number w w' e n) (h j))

-- there are as many places as before
pub as_many : (slips slips' : List (Option Slip)) (s n : ℕ) (o : Option Slip) → slips' ≡ set slips s o → length slips ≡ n → length slips' ≡ n
as_many slips slips' s n o is l = ap length is ∙ length-set slips s o ∙ l

module _ (w w' : World Tray) (slips : List (Option Slip)) (h : Held w slips) where
  -- a step of any station, and a whole entry
  pub held_stepped : (s : ℕ) (r : Result Progress Refusal) → (w', r) ≡ turned tray_order tray_home w (step s) → Held w' slips
  held_stepped s r q = kept w w' slips keep h
    where
      memory : w' ≡ (turned tray_order tray_home w (step s)).0
      memory = ap (λ (o : Out Tray Progress). o.0) q

      keep : (number j : ℕ) → Open w number j → Open w' number j
      keep number j g = at (cases_eq s j)
        where
          at : (s ≡ j) ⊎ (s ≢ j) → Open w' number j
          at (inl e) =
              subst (Open w' number) e
              (stepped_open (kind_over tray_order tray_home (length w.cells)) w w' number s r refl (subst (Open w number) (sym e) g) q)
          at (inr n) =
              subst (λ (v : World Tray). Open v number j) (sym memory)
              (open_elsewhere s j number w (turned tray_order tray_home w (step s)).0
              (holders.stepped_elsewhere (kind_over tray_order tray_home (length w.cells)) w s) n g)

  pub held_entered : (k : Tray) (r : Result Answer Refusal) → (w', r) ≡ turned tray_order tray_home w (enter k) → Held w' slips
  held_entered k r q =
      let memory : w' ≡ (turned tray_order tray_home w (enter k)).0 = ap (λ (o : Out Tray Answer). o.0) q in
      kept w w' slips (λ number j g. subst (λ (v : World Tray). Open v number j) (sym memory) (holders.entered_open (kind_over tray_order tray_home (length w.cells)) w k number j g)) h

  -- a beginning: its place is empty, and its slip can be spent
  module _ (s : ℕ) (k : Tray) where
    begins : (x : Slip) → (w', Ok x) ≡ hands_out (turned tray_order tray_home w (begin s k)) → (w', Ok (x.register, x.station)) ≡ turned tray_order tray_home w (begin s k)
    begins x q =
        holders.handed_out w' _ x _ (ap (λ (v : World Tray × Result Slip Refusal). v.0) q) (ap (λ (v : World Tray × Result Slip Refusal). v.1) q)

    pub begun_within : (x : Slip) → (w', Ok x) ≡ hands_out (turned tray_order tray_home w (begin s k)) → s < length w.stations
    begun_within x q = holders.begun_within w w' s k (x.register, x.station) (begins x q)

    pub begun_empty : (x : Slip) → (w', Ok x) ≡ hands_out (turned tray_order tray_home w (begin s k)) → get_or slips s None ≡ None
    begun_empty x q = at (get_or slips s None) (h s)
      where
        at : (o : Option Slip) → held_at w s o ≡ true → o ≡ None
        at None e = refl
        at (Some y) e =
            let p = held_open w s y e in
            absurd (holders.begun_idle w w' s k (x.register, x.station) y.register (begins x q) (subst (Open w y.register) p.0 p.1))

    pub held_begun : (x : Slip) (slips' : List (Option Slip)) → (w', Ok x) ≡ hands_out (turned tray_order tray_home w (begin s k)) → slips' ≡ set slips s (Some x) → Held w' slips'
    held_begun x slips' q is =
        let n : SlipNumbers = (x.register, x.station) in
        let memory : w' ≡ (turned tray_order tray_home w (begin s k)).0 = ap (λ (o : Out Tray SlipNumbers). o.0) (begins x q) in
        changed w w' slips slips' s (Some x) is (subst (Elsewhere s w) (sym memory) (holders.begun_elsewhere (length w.cells) w s k))
        (open_held w' s x (holders.begun_station w w' s k n (begins x q)) (holders.begun_open w w' s k n (begins x q))) h

    pub held_not_begun : (e : Refusal) → (w', Err e) ≡ hands_out (turned tray_order tray_home w (begin s k)) → Held w' slips
    held_not_begun e q =
        let r = holders.none_handed_out w' _ e _ (ap (λ (v : World Tray × Result Slip Refusal). v.0) q) (ap (λ (v : World Tray × Result Slip Refusal). v.1) q) in
        subst (λ (v : World Tray). Held v slips) (sym (holders.begin_refused (length w.cells) w w' s k e r)) h

  -- a collection or a withdrawal with the slip in hand at station s
  module _ (s : ℕ) (x : Slip) (in_hand : Some x ≡ get_or slips s None) where
    own : (x.station ≡ s) × Open w x.register x.station
    own = held_open w s x (subst (λ o. held_at w s o ≡ true) (sym in_hand) (h s))

    pub held_collected : (a : Result Answer Refused) (slips' : List (Option Slip)) → (w', a) ≡ hands_back x (turned tray_order tray_home w (collect x.register x.station)) → slips' ≡ set slips s None → Held w' slips'
    held_collected a slips' q is =
        let memory : w' ≡ (turned tray_order tray_home w (collect x.register x.station)).0 = ap (λ (v : World Tray × Result Answer Refused). v.0) q in
        let e : Elsewhere x.station w w' = subst (Elsewhere x.station w) (sym memory) (holders.collected_elsewhere (length w.cells) w x.register x.station) in
        changed w w' slips slips' s None is (subst (λ i. Elsewhere i w w') own.0 e) refl h

    pub held_withdrawn : (a : Result Departure Refused) (slips' : List (Option Slip)) → (w', a) ≡ hands_back x (turned tray_order tray_home w (withdraw x.register x.station)) → slips' ≡ set slips s None → Held w' slips'
    held_withdrawn a slips' q is =
        let memory : w' ≡ (turned tray_order tray_home w (withdraw x.register x.station)).0 = ap (λ (v : World Tray × Result Departure Refused). v.0) q in
        let e : Elsewhere x.station w w' = subst (Elsewhere x.station w) (sym memory) (holders.withdrawn_elsewhere (length w.cells) w x.register x.station) in
        changed w w' slips slips' s None is (subst (λ i. Elsewhere i w w') own.0 e) refl h

    -- a slip in hand is not refused by withdrawing
    pub never_refused : (b : Refused) → (w', Err b) ≡ hands_back x (turned tray_order tray_home w (withdraw x.register x.station)) → ⊥
    never_refused b q =
        let r = holders.handed_back w' _ x b _ (ap (λ (v : World Tray × Result Departure Refused). v.0) q) (ap (λ (v : World Tray × Result Departure Refused). v.1) q) in
        holders.withdraw_open w w' x.register x.station b.refusal own.1 r.answer

-- The slips in hand after one was taken out: where there was none, where it came back.
pub taken_none : (slips : List (Option Slip)) (s : ℕ) → None ≡ get_or slips s None → set slips s None ≡ slips
taken_none slips s e = ap (λ (o : Option Slip). set slips s o) e ∙ set-get_or slips s None

emptied : (slips : List (Option Slip)) (s : ℕ) → get_or (set slips s None) s None ≡ None
emptied [] s = refl
emptied (x ∷ xs) zero = refl
emptied (x ∷ xs) (suc s) = emptied xs s

within : (slips : List (Option Slip)) (s : ℕ) (x : Slip) → Some x ≡ get_or slips s None → s < length slips
within [] s x e = let z : ◌≡◌ {A = ℕ} 0 1 = cc in absurd (omega arith)
within (y ∷ ys) zero x e = omega arith
within (y ∷ ys) (suc s) x e = let l = within ys s x e in omega (arith, l)

laid_back : (slips : List (Option Slip)) (s : ℕ) (x y : Slip) → Some x ≡ get_or slips s None → y ≡ x → set (set slips s None) s (Some y) ≡ slips
laid_back slips s x y e q =
    set-set slips s None (Some y) ∙ ap (λ (z : Slip). set slips s (Some z)) q ∙ ap (λ (o : Option Slip). set slips s o) e ∙ set-get_or slips s None

module _ (w : World Tray) (slips : List (Option Slip)) (s : ℕ) where
  -- no slip of that station is in hand
  -- a refused collection: the same slip is in hand again
  module _ (w' : World Tray) (picked slips' : List (Option Slip)) (x : Slip) (b : Refused) (in_hand : Some x ≡ get_or slips s None)
      (q : (w', Err b) ≡ hands_back x (turned tray_order tray_home w (collect x.register x.station))) (is : picked ≡ set slips s None) (laid : slips' ≡ set picked s (Some b.slip)) where
    given_back : Back w' x b (turned tray_order tray_home w (collect x.register x.station))
    given_back =
        holders.handed_back w' _ x b _ (ap (λ (v : World Tray × Result Answer Refused). v.0) q) (ap (λ (v : World Tray × Result Answer Refused). v.1) q)

    same_slips : slips' ≡ slips
    same_slips = laid ∙ ap (λ (hs : List (Option Slip)). set hs s (Some b.slip)) is ∙ laid_back slips s x b.slip in_hand given_back.slip_is

    pub held_not_collected : Held w slips → Held w' slips'
    held_not_collected h =
        let same : w' ≡ w = holders.collect_refused (length w.cells) w w' x.register x.station b.refusal given_back.answer in
        subst (Held w') (sym same_slips) (subst (λ (v : World Tray). Held v slips) (sym same) h)

-- The slip in hand at station s is withdrawn: none is left there, and there was one unless the reply says so.
abbrev counted : Reply → ℕ
counted NoSlip = 0
counted Begun = 1
counted (Stepped p) = 1
counted (Told a) = 1
counted (Withdrawn d) = 1
counted (RefusedWith e) = 1
counted Shown = 1
counted Nothing = 1
counted (Faulty f) = 1

pub some_count : (r : Reply) → (r ≡ NoSlip → ⊥) → 1 ≡ counted r
some_count NoSlip n = absurd (n refl)
some_count Begun n = refl
some_count (Stepped p) n = refl
some_count (Told a) n = refl
some_count (Withdrawn d) n = refl
some_count (RefusedWith e) n = refl
some_count Shown n = refl
some_count Nothing n = refl
some_count (Faulty f) n = refl

spent : (w : World Tray) (slips : List (Option Slip)) (s : ℕ) → Held w slips
    → ((withdrawn w slips s).1 ≡ set slips s None) × (counted (withdrawn w slips s).2 ≡ one_if (get_or slips s None))
spent w slips s h = at (get_or slips s None) refl
  where
    by_result : (x : Slip) → Some x ≡ get_or slips s None → (r : Result Departure Refusal) → r ≡ (turned tray_order tray_home w (withdraw x.register x.station)).1
        → (without_slip slips s r ≡ set slips s None) × (counted (reply Withdrawn r) ≡ 1)
    by_result x e (Ok d) q = (refl, refl)
    by_result x e (Err f) q =
        let g = held_open w s x (subst (λ o. held_at w s o ≡ true) (sym e) (h s)) in
        let o : Out Tray Departure = turned tray_order tray_home w (withdraw x.register x.station) in
        absurd (holders.withdraw_open w o.0 x.register x.station f g.1 (ap (λ (v : Result Departure Refusal). (o.0, v)) q))

    at : (o : Option Slip) → get_or slips s None ≡ o → ((withdrawn_by w slips s o).1 ≡ set slips s None) × (counted (withdrawn_by w slips s o).2 ≡ one_if o)
    at None e = (sym (taken_none slips s (sym e)), refl)
    at (Some x) e = by_result x (sym e) (turned tray_order tray_home w (withdraw x.register x.station)).1 refl

module _ (w w' : World Tray) (slips slips' : List (Option Slip)) (s : ℕ) (r : Reply) (h : Held w slips) (q : (w', slips', r) ≡ withdrawn w slips s) where
  pub spent_after : slips' ≡ set slips s None
  spent_after = ap (λ (a : After). a.1) q ∙ (spent w slips s h).0

  pub spent_count : counted r ≡ one_if (get_or slips s None)
  spent_count = ap (λ (a : After). counted a.2) q ∙ (spent w slips s h).1

-- The places emptied one after the other: the slips below i are spent, and so many they were.
pub record Settling (slips₀ slips : List (Option Slip)) (i left : ℕ) : Type 0 where
  pub sum : left + slips_left slips ≡ slips_left slips₀
  pub below : (k : ℕ) → k < i → get_or slips k None ≡ None
  pub most : left ≤ i

one_fewer : (slips : List (Option Slip)) (i : ℕ) → one_if (get_or slips i None) + slips_left (set slips i None) ≡ slips_left slips
one_fewer [] i = refl
one_fewer (o ∷ os) zero = omega arith
one_fewer (o ∷ os) (suc i) = let e = one_fewer os i in omega arith

no_slips : (slips : List (Option Slip)) → ((k : ℕ) → k < length slips → get_or slips k None ≡ None) → slips_left slips ≡ 0
no_slips [] h = refl
no_slips (o ∷ os) h = omega (arith, ap one_if (h 0 (omega arith)), no_slips os (λ k l. h (suc k) (omega arith)))

pub settled : (slips₀ slips : List (Option Slip)) (i left : ℕ) → Settling slips₀ slips i left → length slips ≤ i → (left ≡ slips_left slips₀) × (slips_left slips ≡ 0)
settled slips₀ slips i left g h =
    let none = no_slips slips (λ k l. g.below k (omega arith)) in
    (omega (arith, g.sum, none), none)

-- where none is left, none is at any place
pub none_at : (slips : List (Option Slip)) (s : ℕ) → slips_left slips ≡ 0 → get_or slips s None ≡ None
none_at [] s e = refl
none_at (None ∷ os) zero e = refl
none_at (None ∷ os) (suc s) e = none_at os s (omega (arith, e))
none_at (Some x ∷ os) s e = absurd (omega (arith, e))
