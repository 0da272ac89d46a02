-- The loop over the lines of a list: what is known between two lines.
use Rattle.std.proofs.Common.{◌≡◌, ℕ, zero, suc, ◌+◌, ◌-◌, ◌<◌, ◌≤◌, Bool, true, false, cond, List, [], ◌∷◌, ◌++◌, length, Some, None, Ok, Err, Option, Result, sym, refl, ap, ◌∙◌, append_assoc, append-nil, arith, length-append}
use Rattle.std.specs.BTreeMap.{BTreeMap}
use Rattle.names.specs.declared.Fault.{Fault}
use Rattle.names.specs.declared.Name.{Name}
use Rattle.names.specs.Reading.{reading}
use Rattle.name_list.specs.declared.Answer.{Answer}
use Rattle.text.specs.Lines.{first_line, after_line, lines, unread}
use Rattle.name_list.specs.Lists.{read_as, line_of, new_or_same, answer_by, answer_to, answers_after, answers_to}
use Rattle.name_list.specs.Seen.{Lawful, line_in, line_if, Noted}

-- one more line at the end: where a name first came, and the answers
line_push_by : (x : Name) (k n : ℕ) (r : Result Name Fault) (b : Bool) (o o' : Option ℕ) → o' ≡ line_if o n r x → cond b (Some k) o' ≡ line_if (cond b (Some k) o) n r x
line_push_by x k n r true o o' e = refl
line_push_by x k n r false o o' e = e

line_push : (x : Name) (k : ℕ) (ls : List (List ℕ)) (l : List ℕ) → line_of x k (ls ++ l ∷ []) ≡ line_if (line_of x k ls) (k + length ls) (reading l) x
unfolding line_of
line_push x k [] l = let z : k + 0 ≡ k = omega arith in rw z refl
line_push x k (m ∷ ls) l =
    let z : (k + 1) + length ls ≡ k + length (m ∷ ls) = omega arith in
    line_push_by x k (k + length (m ∷ ls)) (reading l) (read_as x (reading m)) (line_of x (k + 1) ls) (line_of x (k + 1) (ls ++ l ∷ []))
    (line_push x (k + 1) ls l ∙ ap (λ n. line_if (line_of x (k + 1) ls) n (reading l) x) z)

answers_push : (before ls : List (List ℕ)) (l : List ℕ) → answers_after before (ls ++ l ∷ []) ≡ answers_after before ls ++ answer_to (before ++ ls) l ∷ []
unfolding answers_after
answers_push before [] l = ap (λ (v : List (List ℕ)). answer_to v l ∷ []) (sym (append-nil before))
answers_push before (m ∷ ls) l =
    ap (λ (v : List Answer). answer_to before m ∷ v)
    (answers_push (before ++ m ∷ []) ls l
    ∙ ap (λ (v : List (List ℕ)). answers_after (before ++ m ∷ []) ls ++ answer_to v l ∷ []) (append_assoc before (m ∷ []) ls))

answer_same : (f g : Name → Option ℕ) (r : Result Name Fault) → ((x : Name) → f x ≡ g x) → answer_by f r ≡ answer_by g r
answer_same f g (Ok x) h = ap new_or_same (h x)
answer_same f g (Err e) h = refl

-- the lines before the n-th are read and answered, and the map has where each of their names first came
pub record Going (bytes rest : List ℕ) (n : ℕ) (answers : List Answer) (m : BTreeMap Name ℕ) : Type 0 where
  pub before : List (List ℕ)
  pub count : length answers ≡ length before
  pub number : n ≡ length before + 1
  pub split : lines 65536 bytes ≡ before ++ lines (65536 - length before) rest
  pub left : unread 65536 bytes ≡ unread (65536 - length before) rest
  pub answered : answers ≡ answers_after [] before
  pub lawful : Lawful m
  pub finds : (x : Name) → line_in m x ≡ line_of x 1 before

pub going_starts : (bytes rest : List ℕ) (answers : List Answer) (m : BTreeMap Name ℕ) → rest ≡ bytes → answers ≡ [] → Lawful m → ((x : Name) → line_in m x ≡ None) → Going bytes rest 1 answers m
unfolding answers_after line_of
going_starts bytes rest answers m r e w f = record {
  before = [];
  count = ap length e;
  number = refl;
  split = ap (lines 65536) (sym r);
  left = ap (unread 65536) (sym r);
  answered = e;
  lawful = w;
  finds = f;
}

record Next (k : ℕ) (rest : List ℕ) : Type 0 where
  lines_are : lines (suc k) rest ≡ first_line rest ∷ lines k (after_line rest)
  unread_is : unread (suc k) rest ≡ unread k (after_line rest)

next : (k : ℕ) (rest : List ℕ) → 0 < length rest → Next k rest
unfolding lines unread
next k [] h = absurd (omega arith)
next k (b ∷ bs) h = record { lines_are = refl; unread_is = refl }

goes_on : (bytes rest : List ℕ) (answers : List Answer) (m m' : BTreeMap Name ℕ) (n : ℕ) (a : Answer) → Going bytes rest n answers m → 0 < length rest → n ≤ 65536 → Noted m n (reading (first_line rest)) a m' → Going bytes (after_line rest) (n + 1) (answers ++ a ∷ []) m'
goes_on bytes rest answers m m' n a g h l d =
    let line = first_line rest in
    let k : ℕ = 65536 - (length g.before + 1) in
    let s : 65536 - length g.before ≡ suc k = omega (arith, g.number) in
    let more : length (g.before ++ line ∷ []) ≡ length g.before + 1 = length-append g.before (line ∷ []) in
    let t = next k rest h in
    let place : n ≡ 1 + length g.before = omega (arith, g.number) in
    let said : a ≡ answer_to g.before line = d.answers ∙ answer_same (line_in m) (λ x. line_of x 1 g.before) (reading line) g.finds in
    record {
      before = g.before ++ line ∷ [];
      count = length-append answers (a ∷ []) ∙ ap (λ i. i + 1) g.count ∙ sym more;
      number = omega (arith, more, g.number);
      split =
          g.split ∙ ap (λ i. g.before ++ lines i rest) s ∙ ap (λ (v : List (List ℕ)). g.before ++ v) t.lines_are
          ∙ sym (append_assoc g.before (line ∷ []) (lines k (after_line rest)))
          ∙ ap (λ i. (g.before ++ line ∷ []) ++ lines (65536 - i) (after_line rest)) (sym more);
      left = g.left ∙ ap (λ i. unread i rest) s ∙ t.unread_is ∙ ap (λ i. unread (65536 - i) (after_line rest)) (sym more);
      answered =
          ap (λ (v : List Answer). v ++ a ∷ []) g.answered ∙ ap (λ (v : Answer). answers_after [] g.before ++ v ∷ []) said
          ∙ sym (answers_push [] g.before line);
      lawful = d.lawful;
      finds = λ x.
          d.finds x ∙ ap (λ (o : Option ℕ). line_if o n (reading line) x) (g.finds x)
          ∙ ap (λ i. line_if (line_of x 1 g.before) i (reading line) x) place ∙ sym (line_push x 1 g.before line);
    }

pub going_on : (bytes rest line tail : List ℕ) (answers answers' : List Answer) (m m' : BTreeMap Name ℕ) (n : ℕ) (a : Answer) → Going bytes rest n answers m → n ≤ 65536 → (0 < length rest) × (line ≡ first_line rest) → tail ≡ after_line rest → answers' ≡ answers ++ a ∷ [] → Noted m n (reading line) a m' → Going bytes tail (n + 1) answers' m'
going_on bytes rest line tail answers answers' m m' n a g l p q r d = rw (q, r) (goes_on bytes rest answers m m' n a g p.0 l (rw p.1 at d))

-- no line is left where no byte is, or where all have been read
ended : (k : ℕ) (rest : List ℕ) → length rest ≤ 0 → (lines k rest ≡ []) × (unread k rest ≡ rest)
unfolding lines unread
ended zero rest h = (refl, refl)
ended (suc k) [] h = (refl, refl)
ended (suc k) (b ∷ bs) h = absurd (omega arith)

full : (k : ℕ) (rest : List ℕ) → k ≡ 0 → (lines k rest ≡ []) × (unread k rest ≡ rest)
unfolding lines unread
full zero rest h = (refl, refl)
full (suc k) rest h = absurd (omega arith)

finished : (bytes rest unread_bytes : List ℕ) (n : ℕ) (answers : List Answer) (m : BTreeMap Name ℕ) (g : Going bytes rest n answers m) → unread_bytes ≡ rest → (lines (65536 - length g.before) rest ≡ []) × (unread (65536 - length g.before) rest ≡ rest) → (answers ≡ answers_to bytes) × (unread_bytes ≡ unread 65536 bytes)
finished bytes rest unread_bytes n answers m g u f =
    let all : lines 65536 bytes ≡ g.before = g.split ∙ ap (λ (v : List (List ℕ)). g.before ++ v) f.0 ∙ append-nil g.before in
    (g.answered ∙ ap (answers_after []) (sym all), u ∙ sym (g.left ∙ f.1))

pub finished_at_end : (bytes rest unread_bytes : List ℕ) (n : ℕ) (answers : List Answer) (m : BTreeMap Name ℕ) → Going bytes rest n answers m → unread_bytes ≡ rest → length rest ≤ 0 → (answers ≡ answers_to bytes) × (unread_bytes ≡ unread 65536 bytes)
finished_at_end bytes rest unread_bytes n answers m g u h = finished bytes rest unread_bytes n answers m g u (ended (65536 - length g.before) rest h)

pub finished_full : (bytes rest unread_bytes : List ℕ) (n : ℕ) (answers : List Answer) (m : BTreeMap Name ℕ) → Going bytes rest n answers m → unread_bytes ≡ rest → 65536 < n → (answers ≡ answers_to bytes) × (unread_bytes ≡ unread 65536 bytes)
finished_full bytes rest unread_bytes n answers m g u h =
    finished bytes rest unread_bytes n answers m g u (full (65536 - length g.before) rest (omega (arith, g.number)))
