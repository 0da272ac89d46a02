-- What the holder of a slip can rely on: from the beginning on, through any steps, refused collections and turns of others, its withdrawal is not refused.
use Rattle.std.proofs.Common.{◌≡◌, ℕ, zero, suc, ◌<◌, Bool, true, false, not, ◌&&◌, ◌||◌, eqb, ◌≢◌, List, [], ◌∷◌, length, Some, None, Ok, Err, Option, Result, Ordering, Less, Equal, Greater, sym, refl, ap, ◌∙◌, subst, arith, length-set}
use Rattle.std.proofs.lemmas.Bool.{and_parts, not-true}
use Rattle.std.proofs.lemmas.Bool.Decides.{nat_tests}
use Rattle.protocol.specs.declared.Cell.{Cell}
use Rattle.protocol.specs.declared.Station.{Station}
use Rattle.protocol.specs.Cells.{nth, cell, contents, marks, cells_after, is_occupied}
use Rattle.protocol.specs.declared.Answer.{Answer}
use Rattle.protocol.specs.declared.Stage.{Stage}
use Rattle.protocol.specs.declared.Stage.TheVariants.{Idle, Home, Look, Left, Right, FirstMark, SecondMark, GiveBack, Check, Shift, ReleaseLeft, ReleaseRight, Answered}
use Rattle.protocol.specs.Stages.{Standing, resting, homing, under_way, done, standing, busy, is_idle, settled, holds_mark, names_cells}
use Rattle.protocol.specs.declared.Walk.{Walk}
use Rattle.protocol.specs.declared.Walk.TheVariants.{Here, Ended, Onward}
use Rattle.protocol.specs.Step.{kind_over, Kind, Decision, Versus, none, is, at_home, at_look, at_left, at_right, at_first, at_second, give_up, absent, at_check, copied, at_shift, release, versus, decide, walk_at, is_after, beside, copy_due}
use Rattle.protocol.specs.declared.Direction.{Direction}
use Rattle.protocol.specs.declared.Refusal.{Refusal}
use Rattle.protocol.specs.declared.Refusal.TheVariants.{WrongSize, OtherRegister, NoStation, NotIdle, NoEntry, NoCell}
use Rattle.protocol.specs.declared.Progress.{Progress}
use Rattle.protocol.specs.declared.Departure.{Departure}
use Rattle.protocol.specs.Calls.{World, Out, SlipNumbers, bad_size, bad_count, refused_if, for_record, put_record, fresh, idled, leaving, beginning, collecting_at, collecting, withdrawing_at, withdrawing, stepped_record, decision, stepping, ends_by, alone, enough, whole_entry}
use Rattle.protocol.specs.Turns.{begin as Begin, step as Step, collect as Collect, withdraw as Withdraw, turned}
use Rattle.register.specs.declared.slips.Slip.{Slip}
use Rattle.register.specs.declared.slips.Refused.{Refused}
use Rattle.register.specs.Memory.{slip_of, back, hands_out, hands_back}
use Rattle.register.specs.Slips.{awaited, spendable}
use Rattle.protocol.proofs.Checked.{by_check, by_station}
use Rattle.protocol.proofs.Places.{nth_same, nth_other, length_after}

-- the slip with these numbers can be spent, with the record of its station
pub record Open {K : Type 0} (w : World K) (number s : ℕ) : Type 0 where
  pub size : bad_size (length w.cells) ≡ false
  pub count : bad_count (length w.stations) ≡ false
  pub ours : w.number ≡ number
  pub t : Station K
  pub there : nth w.stations s ≡ Some t
  pub begun : is_idle t.stage ≡ false
  pub stays : t.withdrawn ≡ false

pub open_spendable : {K : Type 0} (w : World K) (number s : ℕ) → Open w number s → spendable w number s ≡ true
open_spendable w number s g = let same : eqb w.number number ≡ true = grind (arith, nat_tests, g.ours) in rw (g.size, g.count, same, g.there, g.begun, g.stays) refl

pub spendable_open : {K : Type 0} (w : World K) (number s : ℕ) → spendable w number s ≡ true → Open w number s
spendable_open {K} w number s e =
    let record_is = awaited (nth w.stations s) in
    let p = and_parts (not (bad_size (length w.cells))) (not (bad_count (length w.stations)) && (eqb w.number number && record_is)) e in
    let q = and_parts (not (bad_count (length w.stations))) (eqb w.number number && record_is) p.1 in
    let r = and_parts (eqb w.number number) record_is q.1 in
    let same : eqb w.number number ≡ true = r.0 in
    let ours : w.number ≡ number = grind (arith, nat_tests) in
    go (nth w.stations s) refl (not-true (bad_size (length w.cells)) p.0) (not-true (bad_count (length w.stations)) q.0) ours r.1
  where
    go : (o : Option (Station K)) → nth w.stations s ≡ o → bad_size (length w.cells) ≡ false → bad_count (length w.stations) ≡ false → w.number ≡ number
        → awaited o ≡ true → Open w number s
    go None there size count ours a = let z : ◌≡◌ {A = ℕ} 0 1 = cc in absurd (omega arith)
    go (Some t) there size count ours a =
        let p = and_parts (not (is_idle t.stage)) (not t.withdrawn) a in
        record { size = size; count = count; ours = ours; t = t; there = there; begun = not-true (is_idle t.stage) p.0; stays = not-true t.withdrawn p.1 }

abbrev slip_in : SlipNumbers → Result SlipNumbers Refusal → SlipNumbers
slip_in d (Ok n) = n
slip_in d (Err e) = d

abbrev record_in : {K : Type 0} → Station K → Option (Station K) → Station K
record_in d None = d
record_in d (Some t) = t

never : {K A : Type 0} (w w' : World K) (a : A) (e : Refusal) → ◌≡◌ {A = Out K A} (w, Ok a) (w', Err e) → ⊥
never {K} {A} w w' a e q = let r : ◌≡◌ {A = Result A Refusal} (Ok a) (Err e) = ap (λ (o : Out K A). o.1) q in let z : ◌≡◌ {A = ℕ} 0 1 = cc in omega arith

-- a beginning opens its slip
fresh_open : {K : Type 0} (w : World K) (s : ℕ) (k : K) (t : Station K) → bad_size (length w.cells) ≡ false → bad_count (length w.stations) ≡ false → nth w.stations s ≡ Some t → Open (put_record w s (fresh k)) w.number s
fresh_open w s k t size count there = record {
  size = size;
  count = ap bad_count (length-set w.stations s (fresh k)) ∙ count;
  ours = refl;
  t = fresh k;
  there = nth_same w.stations s (fresh k) t there;
  begun = refl;
  stays = refl;
}

pub begun_station : {K : Type 0} (w w' : World K) (s : ℕ) (k : K) (n : SlipNumbers) → (w', Ok n) ≡ beginning (length w.cells) w s k → n.1 ≡ s
unfolding beginning
begun_station {K} w w' s k n =
    let P : Out K SlipNumbers → Type 0 = λ o. (w', Ok n) ≡ o → n.1 ≡ s in
    by_check P (bad_size (length w.cells)) WrongSize w _ (λ e. absurd (never w' w n WrongSize e)) (λ size.
    by_station P w s _ (λ e. absurd (never w' w n NoStation e)) (λ count t there.
    by_check P (not (is_idle t.stage)) NotIdle w _ (λ e. absurd (never w' w n NotIdle e)) (λ idle e.
    ap (λ (o : Out K SlipNumbers). (slip_in n o.1).1) e)))

pub begun_open : {K : Type 0} (w w' : World K) (s : ℕ) (k : K) (n : SlipNumbers) → (w', Ok n) ≡ beginning (length w.cells) w s k → Open w' n.0 n.1
unfolding beginning
begun_open {K} w w' s k n =
    let P : Out K SlipNumbers → Type 0 = λ o. (w', Ok n) ≡ o → Open w' n.0 n.1 in
    by_check P (bad_size (length w.cells)) WrongSize w _ (λ e. absurd (never w' w n WrongSize e)) (λ size.
    by_station P w s _ (λ e. absurd (never w' w n NoStation e)) (λ count t there.
    by_check P (not (is_idle t.stage)) NotIdle w _ (λ e. absurd (never w' w n NotIdle e)) (λ idle e.
    let memory : w' ≡ put_record w s (fresh k) = ap (λ (o : Out K SlipNumbers). o.0) e in
    let slip : n ≡ (w.number, s) = ap (λ (o : Out K SlipNumbers). slip_in n o.1) e in
    subst (λ (v : World K). Open v n.0 n.1) (sym memory)
    (subst (λ (m : SlipNumbers). Open (put_record w s (fresh k)) m.0 m.1) (sym slip) (fresh_open w s k t size count there)))))

-- the station of a beginning was idle, so that it had no slip to spend
pub begun_idle : {K : Type 0} (w w' : World K) (s : ℕ) (k : K) (n : SlipNumbers) (number : ℕ) → (w', Ok n) ≡ beginning (length w.cells) w s k → Open w number s → ⊥
unfolding beginning
begun_idle {K} w w' s k n number q g =
    let P : Out K SlipNumbers → Type 0 = λ o. (w', Ok n) ≡ o → ⊥ in
    by_check P (bad_size (length w.cells)) WrongSize w _ (never w' w n WrongSize) (λ size.
    by_station P w s _ (never w' w n NoStation) (λ count t there.
    by_check P (not (is_idle t.stage)) NotIdle w _ (never w' w n NotIdle) (λ idle e.
    let same : t ≡ g.t = ap (record_in t) (sym there ∙ g.there) in
    let begun : is_idle t.stage ≡ false = ap (λ (u : Station K). is_idle u.stage) same ∙ g.begun in
    grind (arith, nat_tests)))) q

-- and it is one of the records
nth_within : {A : Type 0} (xs : List A) (i : ℕ) (a : A) → nth xs i ≡ Some a → i < length xs
nth_within [] i a h = let z : ◌≡◌ {A = ℕ} 0 1 = cc in absurd (omega arith)
nth_within (x ∷ xs) zero a h = omega arith
nth_within (x ∷ xs) (suc i) a h = let l = nth_within xs i a h in omega (arith, l)

pub begun_within : {K : Type 0} (w w' : World K) (s : ℕ) (k : K) (n : SlipNumbers) → (w', Ok n) ≡ beginning (length w.cells) w s k → s < length w.stations
unfolding beginning
begun_within {K} w w' s k n =
    let P : Out K SlipNumbers → Type 0 = λ o. (w', Ok n) ≡ o → s < length w.stations in
    by_check P (bad_size (length w.cells)) WrongSize w _ (λ e. absurd (never w' w n WrongSize e)) (λ size.
    by_station P w s _ (λ e. absurd (never w' w n NoStation e)) (λ count t there.
    by_check P (not (is_idle t.stage)) NotIdle w _ (λ e. absurd (never w' w n NotIdle e)) (λ idle e.
    nth_within w.stations s t there)))

-- a refused beginning changes nothing
pub begin_refused : {K : Type 0} (N : ℕ) (w w' : World K) (s : ℕ) (k : K) (e : Refusal) → (w', Err e) ≡ beginning N w s k → w' ≡ w
unfolding beginning
begin_refused {K} N w w' s k e =
    let P : Out K SlipNumbers → Type 0 = λ o. (w', Err e) ≡ o → w' ≡ w in
    let stay : (o : Result SlipNumbers Refusal) → P (w, o) = λ o q. ap (λ (v : Out K SlipNumbers). v.0) q in
    by_check P (bad_size N) WrongSize w _ (stay (Err WrongSize)) (λ size.
    by_station P w s _ (stay (Err NoStation)) (λ count t there.
    by_check P (not (is_idle t.stage)) NotIdle w _ (stay (Err NotIdle)) (λ idle q. absurd (never _ w' _ e (sym q)))))

-- a step never makes a station idle whose entry is not withdrawn
module _ {K : Type 0} {N : ℕ} (κ : Kind K N) where
  home_goes : (k : K) (h : ℕ) (b : Bool) (v : Versus) → is_idle (at_home k h b v).next ≡ false
  home_goes k h true v = refl
  home_goes k h false none = refl
  home_goes k h false (is Less) = refl
  home_goes k h false (is Equal) = refl
  home_goes k h false (is Greater) = refl

  look_goes : (h : ℕ) (x : Walk) → is_idle (at_look {K = K} h x).next ≡ false
  look_goes h Here = refl
  look_goes h Ended = refl
  look_goes h (Onward p) = refl

  left_goes : (h p : ℕ) (m o : Bool) → is_idle (at_left {K = K} h p m o).next ≡ false
  left_goes h p true o = refl
  left_goes h p false true = refl
  left_goes h p false false = refl

  right_goes : (l p : ℕ) (m o : Bool) → is_idle (at_right {K = K} l p m o).next ≡ false
  right_goes l p true o = refl
  right_goes l p false true = refl
  right_goes l p false false = refl

  first_goes : (l r : ℕ) (c m o : Bool) → is_idle (at_first {K = K} l r c m o).next ≡ false
  first_goes l r false m o = refl
  first_goes l r true true o = refl
  first_goes l r true false true = refl
  first_goes l r true false false = refl

  up_goes : (l : ℕ) (c : Bool) → is_idle (give_up {K = K} l c).next ≡ false
  up_goes l true = refl
  up_goes l false = refl

  second_goes : (h l r : ℕ) (b c m o : Bool) → is_idle (at_second {K = K} h l r b c m o).next ≡ false
  second_goes h l r b false m o = refl
  second_goes h l r b true true o = up_goes l b
  second_goes h l r b true false true = up_goes l b
  second_goes h l r b true false false = refl

  absent_goes : (l r : ℕ) (b c d : Bool) → is_idle (absent {K = K} l r b c d).next ≡ false
  absent_goes l r false false d = refl
  absent_goes l r false true d = refl
  absent_goes l r true false d = refl
  absent_goes l r true true true = refl
  absent_goes l r true true false = refl

  check_goes : (l r : ℕ) (b c d : Bool) (x : Walk) → is_idle (at_check {K = K} l r b c d x).next ≡ false
  check_goes l r b c d Here = refl
  check_goes l r b c d Ended = absent_goes l r b c d
  check_goes l r b c d (Onward p) = refl

  copied_goes : (k : K) (d : Direction) (l r g : ℕ) (x : K) (b : Bool) → is_idle (copied k d l r g x b).next ≡ false
  copied_goes k d l r g x true = refl
  copied_goes k d l r g x false = refl

  shift_goes : (k : K) (d : Direction) (l r g : ℕ) (c : Option K) → is_idle (at_shift κ k d l r g c).next ≡ false
  shift_goes k d l r g None = refl
  shift_goes k d l r g (Some x) = copied_goes k d l r g x (copy_due d (κ.order x k))

  release_goes : (p : ℕ) (b : Bool) (x : Stage) → is_idle x ≡ false → is_idle (release {K = K} p b x).next ≡ false
  release_goes p true x e = e
  release_goes p false x e = e

  pub step_goes : (k : K) (x : Stage) (T : ℕ → Option K) (M : ℕ → Bool) → is_idle x ≡ false → is_idle (decide κ k x T M).next ≡ false
  step_goes k Idle T M e = e
  step_goes k Home T M e = home_goes k (κ.place k) (M (κ.place k)) (versus κ k (T (κ.place k)))
  step_goes k (Look p) T M e = look_goes (κ.place k) (walk_at (κ.place k) p (versus κ k (T p)))
  step_goes k (Left p) T M e = left_goes (κ.place k) p (M p) (is_occupied (T p))
  step_goes k (Right l p) T M e = right_goes l p (M p) (is_occupied (T p))
  step_goes k (FirstMark l r) T M e = first_goes l r (cell N l) (M l) (is_occupied (T l))
  step_goes k (SecondMark l r) T M e = second_goes (κ.place k) l r (cell N l) (cell N r) (M r) (is_occupied (T r))
  step_goes k (GiveBack c) T M e = refl
  step_goes k (Check l r p) T M e =
      check_goes l r (cell N l) (cell N r) (is_after (versus κ k (T (κ.place k)))) (walk_at (κ.place k) p (versus κ k (T p)))
  step_goes k (Shift d l r g) T M e = shift_goes k d l r g (T (beside d g))
  step_goes k (ReleaseLeft l r a) T M e = release_goes l (cell N l) (ReleaseRight r a) refl
  step_goes k (ReleaseRight r a) T M e = release_goes r (cell N r) (Answered a) refl
  step_goes k (Answered a) T M e = refl

  -- a step of its own station leaves a slip open
  pub stepped_open : (w w' : World K) (number s : ℕ) (r : Result Progress Refusal) → N ≡ length w.cells → Open w number s → (w', r) ≡ stepping κ w s → Open w' number s
  unfolding stepping
  stepped_open w w' number s r len g =
      let P : Out K Progress → Type 0 = λ o. (w', r) ≡ o → Open w' number s in
      let stay : (o : Result Progress Refusal) → P (w, o) = λ o e. subst (λ (v : World K). Open v number s) (sym (ap (λ (q : Out K Progress). q.0) e)) g in
      by_check P (bad_size N) WrongSize w _ (stay (Err WrongSize)) (λ size.
      by_station P w s _ (stay (Err NoStation)) (λ count u there.
      by_check P (not (busy u.stage)) NoEntry w _ (stay (Err NoEntry)) (λ b.
      by_check P (not (names_cells N u.stage)) NoCell w _ (stay (Err NoCell)) (λ named e.
      let m : Decision K = decision κ w.cells u.key u.stage in
      let same : u ≡ g.t = ap (record_in u) (sym there ∙ g.there) in
      let stays : u.withdrawn ≡ false = ap (λ (t : Station K). t.withdrawn) same ∙ g.stays in
      let begun : is_idle u.stage ≡ false = ap (λ (t : Station K). is_idle t.stage) same ∙ g.begun in
      let next : Stage = settled u.withdrawn m.next in
      let going : is_idle next ≡ false = ap (λ v. is_idle (settled v m.next)) stays ∙ step_goes u.key u.stage (contents w.cells) (marks w.cells) begun in
      let memory = ap (λ (q : Out K Progress). q.0) e in
      subst (λ (v : World K). Open v number s) (sym memory) record {
        size = ap bad_size (length_after m.act w.cells) ∙ g.size;
        count = ap bad_count (length-set w.stations s (stepped_record u next)) ∙ count;
        ours = g.ours;
        t = stepped_record u next;
        there = nth_same w.stations s (stepped_record u next) u there;
        begun = going;
        stays = ap (λ v. v && busy next) stays;
      }))))

-- a refused collection changes nothing
collected_by : {K : Type 0} (x : Standing) (w w' : World K) (s : ℕ) (t : Station K) (e : Refusal) → (w', Err e) ≡ collecting_at w s t x → w' ≡ w
collected_by {K} resting w w' s t e q = ap (λ (v : Out K Answer). v.0) q
collected_by {K} homing w w' s t e q = ap (λ (v : Out K Answer). v.0) q
collected_by {K} under_way w w' s t e q = ap (λ (v : Out K Answer). v.0) q
collected_by (done a) w w' s t e q = absurd (never _ w' a e (sym q))

pub collect_refused : {K : Type 0} (N : ℕ) (w w' : World K) (number s : ℕ) (e : Refusal) → (w', Err e) ≡ collecting N w number s → w' ≡ w
unfolding collecting
collect_refused {K} N w w' number s e =
    let P : Out K Answer → Type 0 = λ o. (w', Err e) ≡ o → w' ≡ w in
    let stay : (o : Result Answer Refusal) → P (w, o) = λ o q. ap (λ (v : Out K Answer). v.0) q in
    by_check P (bad_size N) WrongSize w _ (stay (Err WrongSize)) (λ a.
    by_check P (not (eqb number w.number)) OtherRegister w _ (stay (Err OtherRegister)) (λ b.
    by_station P w s _ (stay (Err NoStation)) (λ c t there.
    by_check P t.withdrawn NoEntry w _ (stay (Err NoEntry)) (λ d.
    collected_by (standing t.stage) w w' s t e))))

-- an open slip is never refused by withdrawing
withdrawn_by : {K : Type 0} (b : Bool) (w w' : World K) (s : ℕ) (t : Station K) (e : Refusal) → (w', Err e) ≡ withdrawing_at w s t b → ⊥
withdrawn_by true w w' s t e q = never _ w' _ e (sym q)
withdrawn_by false w w' s t e q = never _ w' _ e (sym q)

itself : (n : ℕ) → not (eqb n n) ≡ false
itself n = grind (arith, nat_tests)

pub withdraw_open : {K : Type 0} (w w' : World K) (number s : ℕ) (e : Refusal) → Open w number s → (w', Err e) ≡ withdrawing (length w.cells) w number s → ⊥
unfolding withdrawing refused_if for_record
withdraw_open {K} w w' number s e g q =
    let ours : not (eqb number w.number) ≡ false = ap (λ n. not (eqb number n)) g.ours ∙ itself number in
    let idle : (is_idle g.t.stage || g.t.withdrawn) ≡ false = rw (g.begun, g.stays) refl in
    let goes : withdrawing (length w.cells) w number s ≡ withdrawing_at w s g.t (holds_mark (length w.cells) g.t.stage) = rw (g.size, ours, g.count, g.there, idle) refl in
    withdrawn_by (holds_mark (length w.cells) g.t.stage) w w' s g.t e (q ∙ goes)

-- the calls as the register has them: slips handed out and handed back
abbrev slip_or : Slip → Result Slip Refusal → Slip
slip_or d (Ok x) = x
slip_or d (Err e) = d

abbrev refused_in : {A : Type 0} → Refused → Result A Refused → Refused
refused_in d (Ok a) = d
refused_in d (Err x) = x

pub handed_out : {K : Type 0} (w v : World K) (slip : Slip) (r : Result SlipNumbers Refusal) → w ≡ v → Ok slip ≡ slip_of r → ◌≡◌ {A = Out K SlipNumbers} (w, Ok (slip.register, slip.station)) (v, r)
handed_out {K} w v slip (Ok n) p q =
    let numbers : Slip → Out K SlipNumbers = λ x. (v, Ok (x.register, x.station)) in
    let memory : World K → Out K SlipNumbers = λ x. (x, Ok (slip.register, slip.station)) in
    ap memory p ∙ ap (λ (x : Result Slip Refusal). numbers (slip_or slip x)) q
handed_out w v slip (Err e) p q = let z : ◌≡◌ {A = ℕ} 0 1 = cc in absurd (omega arith)

abbrev refusal_in : {A : Type 0} → Refusal → Result A Refusal → Refusal
refusal_in d (Ok x) = d
refusal_in d (Err e) = e

pub none_handed_out : {K : Type 0} (w v : World K) (e : Refusal) (r : Result SlipNumbers Refusal) → w ≡ v → Err e ≡ slip_of r → ◌≡◌ {A = Out K SlipNumbers} (w, Err e) (v, r)
none_handed_out w v e (Ok n) p q = let z : ◌≡◌ {A = ℕ} 0 1 = cc in absurd (omega arith)
none_handed_out {K} w v e (Err f) p q =
    let refusal : Refusal → Out K SlipNumbers = λ x. (v, Err x) in
    let memory : World K → Out K SlipNumbers = λ x. (x, Err e) in
    ap memory p ∙ ap (λ (x : Result Slip Refusal). refusal (refusal_in e x)) q

pub record Back {K A : Type 0} (w : World K) (slip : Slip) (x : Refused) (o : Out K A) : Type 0 where
  pub answer : (w, Err x.refusal) ≡ o
  pub slip_is : x.slip ≡ slip

pub handed_back : {K A : Type 0} (w v : World K) (slip : Slip) (x : Refused) (r : Result A Refusal) → w ≡ v → Err x ≡ back slip r → Back w slip x (v, r)
handed_back w v slip x (Ok a) p q = let z : ◌≡◌ {A = ℕ} 0 1 = cc in absurd (omega arith)
handed_back {K} {A} w v slip x (Err e) p q =
    let same : x ≡ record { slip = slip; refusal = e } = ap (refused_in {A = A} x) q in
    let memory : World K → Out K A = λ u. (u, Err x.refusal) in
    let answer : Refused → Out K A = λ y. (v, Err y.refusal) in
    record { answer = ap memory p ∙ ap answer same; slip_is = ap (λ (y : Refused). y.slip) same }

-- begun, stepped and collected too early, an entry can still be withdrawn
pub never_refused : {K : Type 0} (order : K → K → Ordering) (home : K → ℕ → ℕ) (w w1 w2 w3 w4 : World K) (s : ℕ) (k : K) (slip : Slip) (r : Result Progress Refusal) (early late : Refused)
    → (w1, Ok slip) ≡ hands_out (turned order home w (Begin s k))
    → (w2, r) ≡ turned order home w1 (Step s)
    → (w3, Err early) ≡ hands_back slip (turned order home w2 (Collect slip.register slip.station))
    → (w4, Err late) ≡ hands_back early.slip (turned order home w3 (Withdraw early.slip.register early.slip.station))
    → ⊥
never_refused {K} order home w w1 w2 w3 w4 s k slip r early late p q c d =
    let begun = handed_out w1 _ slip _ (ap (λ (v : World K × Result Slip Refusal). v.0) p) (ap (λ (v : World K × Result Slip Refusal). v.1) p) in
    let station : slip.station ≡ s = begun_station w w1 s k (slip.register, slip.station) begun in
    let one : Open w1 slip.register s = subst (Open w1 slip.register) station (begun_open w w1 s k (slip.register, slip.station) begun) in
    let two : Open w2 slip.register s = stepped_open (kind_over order home (length w1.cells)) w1 w2 slip.register s r refl one q in
    let refused = handed_back w3 _ slip early _ (ap (λ (v : World K × Result Answer Refused). v.0) c) (ap (λ (v : World K × Result Answer Refused). v.1) c) in
    let same : w3 ≡ w2 = collect_refused (length w2.cells) w2 w3 slip.register slip.station early.refusal refused.answer in
    let three : Open w3 slip.register s = subst (λ (v : World K). Open v slip.register s) (sym same) two in
    let four : Open w3 early.slip.register early.slip.station =
    subst (λ (x : Slip). Open w3 x.register x.station) (sym refused.slip_is) (subst (Open w3 slip.register) (sym station) three) in
    let again = handed_back w4 _ early.slip late _ (ap (λ (v : World K × Result Departure Refused). v.0) d) (ap (λ (v : World K × Result Departure Refused). v.1) d) in
    withdraw_open w3 w4 early.slip.register early.slip.station late.refusal four again.answer

-- What a turn of station s leaves of the others: their records, and how many cells and records there are.
pub record Elsewhere {K : Type 0} (s : ℕ) (w w' : World K) : Type 0 where
  pub same_number : w'.number ≡ w.number
  pub same_cells : length w'.cells ≡ length w.cells
  pub same_count : length w'.stations ≡ length w.stations
  pub others : (j : ℕ) → s ≢ j → nth w'.stations j ≡ nth w.stations j

module _ {K : Type 0} where
  nowhere : (s : ℕ) (w : World K) → Elsewhere s w w
  nowhere s w = record { same_number = refl; same_cells = refl; same_count = refl; others = λ j n. refl }

  put_elsewhere : (s : ℕ) (w : World K) (t : Station K) → Elsewhere s w (put_record w s t)
  put_elsewhere s w t = record {
    same_number = refl;
    same_cells = refl;
    same_count = length-set w.stations s t;
    others = λ j n. nth_other w.stations s t j n;
  }

  -- an open slip of another station stays open
  pub open_elsewhere : (s j number : ℕ) (w w' : World K) → Elsewhere s w w' → s ≢ j → Open w number j → Open w' number j
  open_elsewhere s j number w w' e n g = record {
    size = ap bad_size e.same_cells ∙ g.size;
    count = ap bad_count e.same_count ∙ g.count;
    ours = e.same_number ∙ g.ours;
    t = g.t;
    there = e.others j n ∙ g.there;
    begun = g.begun;
    stays = g.stays;
  }

  pub begun_elsewhere : (N : ℕ) (w : World K) (s : ℕ) (k : K) → Elsewhere s w (beginning N w s k).0
  unfolding beginning
  begun_elsewhere N w s k =
      let P : Out K SlipNumbers → Type 0 = λ o. Elsewhere s w o.0 in
      by_check P (bad_size N) WrongSize w _ (nowhere s w) (λ size.
      by_station P w s _ (nowhere s w) (λ count t there.
      by_check P (not (is_idle t.stage)) NotIdle w _ (nowhere s w) (λ idle. put_elsewhere s w (fresh k))))

  collected_elsewhere_by : (x : Standing) (w : World K) (s : ℕ) (t : Station K) → Elsewhere s w (collecting_at w s t x).0
  collected_elsewhere_by resting w s t = nowhere s w
  collected_elsewhere_by homing w s t = nowhere s w
  collected_elsewhere_by under_way w s t = nowhere s w
  collected_elsewhere_by (done a) w s t = put_elsewhere s w (idled t)

  pub collected_elsewhere : (N : ℕ) (w : World K) (number s : ℕ) → Elsewhere s w (collecting N w number s).0
  unfolding collecting
  collected_elsewhere N w number s =
      let P : Out K Answer → Type 0 = λ o. Elsewhere s w o.0 in
      by_check P (bad_size N) WrongSize w _ (nowhere s w) (λ a.
      by_check P (not (eqb number w.number)) OtherRegister w _ (nowhere s w) (λ b.
      by_station P w s _ (nowhere s w) (λ c t there.
      by_check P t.withdrawn NoEntry w _ (nowhere s w) (λ d. collected_elsewhere_by (standing t.stage) w s t))))

  withdrawn_elsewhere_by : (b : Bool) (w : World K) (s : ℕ) (t : Station K) → Elsewhere s w (withdrawing_at w s t b).0
  withdrawn_elsewhere_by true w s t = put_elsewhere s w (leaving t)
  withdrawn_elsewhere_by false w s t = put_elsewhere s w (idled t)

  pub withdrawn_elsewhere : (N : ℕ) (w : World K) (number s : ℕ) → Elsewhere s w (withdrawing N w number s).0
  unfolding withdrawing
  withdrawn_elsewhere N w number s =
      let P : Out K Departure → Type 0 = λ o. Elsewhere s w o.0 in
      by_check P (bad_size N) WrongSize w _ (nowhere s w) (λ a.
      by_check P (not (eqb number w.number)) OtherRegister w _ (nowhere s w) (λ b.
      by_station P w s _ (nowhere s w) (λ c t there.
      by_check P (is_idle t.stage || t.withdrawn) NoEntry w _ (nowhere s w) (λ d. withdrawn_elsewhere_by (holds_mark N t.stage) w s t))))

  pub stepped_elsewhere : {N : ℕ} (κ : Kind K N) (w : World K) (s : ℕ) → Elsewhere s w (stepping κ w s).0
  unfolding stepping
  stepped_elsewhere {N} κ w s =
      let P : Out K Progress → Type 0 = λ o. Elsewhere s w o.0 in
      by_check P (bad_size N) WrongSize w _ (nowhere s w) (λ size.
      by_station P w s _ (nowhere s w) (λ count t there.
      by_check P (not (busy t.stage)) NoEntry w _ (nowhere s w) (λ b.
      by_check P (not (names_cells N t.stage)) NoCell w _ (nowhere s w) (λ named.
      let m : Decision K = decision κ w.cells t.key t.stage in
      let next : Station K = stepped_record t (settled t.withdrawn m.next) in
      record {
        same_number = refl;
        same_cells = length_after m.act w.cells;
        same_count = length-set w.stations s next;
        others = λ j n. nth_other w.stations s next j n;
      }))))

  -- a whole entry leaves as many cells
  same_length : {N : ℕ} (κ : Kind K N) (n : ℕ) (k : K) (cs : List (Cell K)) (x : Stage) → length (alone κ n k cs x).0 ≡ length cs
  unfolding alone
  same_length κ zero k cs x = refl
  same_length κ (suc n) k cs x =
      let m : Decision K = decision κ cs k x in
      ends (standing m.next) (cells_after m.act cs, m.next) _ (length_after m.act cs)
      (same_length κ n k (cells_after m.act cs) m.next ∙ length_after m.act cs)
    where
      ends : (v : Standing) (a b : List (Cell K) × Stage) → length a.0 ≡ length cs → length b.0 ≡ length cs → length (ends_by v a b).0 ≡ length cs
      ends resting a b p q = p
      ends homing a b p q = p
      ends under_way a b p q = q
      ends (done z) a b p q = p

  -- and every slip open
  pub entered_open : {N : ℕ} (κ : Kind K N) (w : World K) (k : K) (number j : ℕ) → Open w number j → Open (whole_entry κ w k).0 number j
  unfolding whole_entry
  entered_open {N} κ w k number j g =
      let P : Out K Answer → Type 0 = λ o. Open o.0 number j in
      by_check P (bad_size N) WrongSize w _ g (λ size. record {
        size = ap bad_size (same_length κ (enough N) k w.cells Home) ∙ g.size;
        count = g.count;
        ours = g.ours;
        t = g.t;
        there = g.there;
        begun = g.begun;
        stays = g.stays;
      })
