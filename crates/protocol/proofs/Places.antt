-- Reads and writes of the lists, by place.
use Rattle.std.proofs.Common.{◌≡◌, ℕ, zero, suc, ◌<◌, ◌≤◌, Bool, true, false, ◌≢◌, ◌⊎◌, List, [], ◌∷◌, map, length, set, sym, refl, ap, ◌∙◌, subst, inl, inr, ⊎_elim, le_of_suc-le-suc, not-suc-le-zero, arith}
use Rattle.std.proofs.lemmas.Bool.{cases_lt, cases_eq, both_ways}
use Rattle.protocol.specs.declared.Cell.{Cell}
use Rattle.protocol.specs.Cells.{empty, holds, Act, Rest, Mark, Unmark, Write, is_occupied, updated, nth, content_at, marked_at, contents, marks, with_mark, with_key, alter, alter_place, cells_after}
use Rattle.protocol.specs.Calls.{blank}
use Rattle.protocol.proofs.Updates.{updated_at, updated_other, not_both}
use Rattle.protocol.proofs.State.{contents_after, marks_after}

module _ {K : Type 0} where
  pub length_alter : (f : Cell K → Cell K) (i : ℕ) (cs : List (Cell K)) → length (alter f i cs) ≡ length cs
  length_alter f i [] = refl
  length_alter f zero (c ∷ cs) = refl
  length_alter f (suc i) (c ∷ cs) = ap suc (length_alter f i cs)

  pub length_after : (a : Act K) (cs : List (Cell K)) → length (cells_after a cs) ≡ length cs
  length_after Rest cs = refl
  length_after (Mark zero) cs = refl
  length_after (Mark (suc i)) cs = length_alter (with_mark true) i cs
  length_after (Unmark zero) cs = refl
  length_after (Unmark (suc i)) cs = length_alter (with_mark false) i cs
  length_after (Write zero c) cs = refl
  length_after (Write (suc i) c) cs = length_alter (with_key c) i cs

  pub alter_past : (f : Cell K → Cell K) (i : ℕ) (cs : List (Cell K)) → length cs ≤ i → alter f i cs ≡ cs
  alter_past f i [] h = refl
  alter_past f zero (c ∷ cs) h = absurd (not-suc-le-zero h)
  alter_past f (suc i) (c ∷ cs) h = ap (λ x. c ∷ x) (alter_past f i cs (le_of_suc-le-suc h))

  content_past : (cs : List (Cell K)) (i : ℕ) → length cs ≤ i → content_at cs i ≡ empty
  content_past [] i h = refl
  content_past (c ∷ cs) zero h = absurd (not-suc-le-zero h)
  content_past (c ∷ cs) (suc i) h = content_past cs i (le_of_suc-le-suc h)

  marked_past : (cs : List (Cell K)) (i : ℕ) → length cs ≤ i → marked_at cs i ≡ false
  marked_past [] i h = refl
  marked_past (c ∷ cs) zero h = absurd (not-suc-le-zero h)
  marked_past (c ∷ cs) (suc i) h = marked_past cs i (le_of_suc-le-suc h)

  content_other : (f : Cell K → Cell K) (i : ℕ) (cs : List (Cell K)) (j : ℕ) → i ≢ j → content_at (alter f i cs) j ≡ content_at cs j
  content_other f i [] j n = refl
  content_other f zero (c ∷ cs) zero n = absurd (n refl)
  content_other f zero (c ∷ cs) (suc j) n = refl
  content_other f (suc i) (c ∷ cs) zero n = refl
  content_other f (suc i) (c ∷ cs) (suc j) n = content_other f i cs j (λ e. n (ap suc e))

  marked_other : (f : Cell K → Cell K) (i : ℕ) (cs : List (Cell K)) (j : ℕ) → i ≢ j → marked_at (alter f i cs) j ≡ marked_at cs j
  marked_other f i [] j n = refl
  marked_other f zero (c ∷ cs) zero n = absurd (n refl)
  marked_other f zero (c ∷ cs) (suc j) n = refl
  marked_other f (suc i) (c ∷ cs) zero n = refl
  marked_other f (suc i) (c ∷ cs) (suc j) n = marked_other f i cs j (λ e. n (ap suc e))

  content_put : (x : K) (i : ℕ) (cs : List (Cell K)) → i < length cs → content_at (alter (with_key x) i cs) i ≡ holds x
  content_put x i [] h = absurd (not-suc-le-zero h)
  content_put x zero (c ∷ cs) h = refl
  content_put x (suc i) (c ∷ cs) h = content_put x i cs (le_of_suc-le-suc h)

  marked_put : (x : K) (i : ℕ) (cs : List (Cell K)) (j : ℕ) → marked_at (alter (with_key x) i cs) j ≡ marked_at cs j
  marked_put x i [] j = refl
  marked_put x zero (c ∷ cs) zero = refl
  marked_put x zero (c ∷ cs) (suc j) = refl
  marked_put x (suc i) (c ∷ cs) zero = refl
  marked_put x (suc i) (c ∷ cs) (suc j) = marked_put x i cs j

  content_mark : (b : Bool) (i : ℕ) (cs : List (Cell K)) (j : ℕ) → content_at (alter (with_mark b) i cs) j ≡ content_at cs j
  content_mark b i [] j = refl
  content_mark b zero (c ∷ cs) zero = refl
  content_mark b zero (c ∷ cs) (suc j) = refl
  content_mark b (suc i) (c ∷ cs) zero = refl
  content_mark b (suc i) (c ∷ cs) (suc j) = content_mark b i cs j

  marked_mark : (b : Bool) (i : ℕ) (cs : List (Cell K)) → i < length cs → marked_at (alter (with_mark b) i cs) i ≡ b
  marked_mark b i [] h = absurd (not-suc-le-zero h)
  marked_mark b zero (c ∷ cs) h = refl
  marked_mark b (suc i) (c ∷ cs) h = marked_mark b i cs (le_of_suc-le-suc h)

  pub contents_past : (cs : List (Cell K)) (p : ℕ) → length cs < p → contents cs p ≡ empty
  contents_past cs zero h = refl
  contents_past cs (suc i) h = content_past cs i (le_of_suc-le-suc h)

  pub marks_elsewhere : (f : Cell K → Cell K) (p : ℕ) (cs : List (Cell K)) (q : ℕ) → p ≢ q → marks (alter_place f p cs) q ≡ marks cs q
  marks_elsewhere f zero cs q n = refl
  marks_elsewhere f (suc i) cs zero n = refl
  marks_elsewhere f (suc i) cs (suc j) n = marked_other f i cs j (λ e. n (ap suc e))

  pub contents_mark : (b : Bool) (p : ℕ) (cs : List (Cell K)) (q : ℕ) → contents (alter_place (with_mark b) p cs) q ≡ contents cs q
  contents_mark b zero cs q = refl
  contents_mark b (suc i) cs zero = refl
  contents_mark b (suc i) cs (suc j) = content_mark b i cs j

  marks_put : (x : K) (p : ℕ) (cs : List (Cell K)) (q : ℕ) → marks (alter_place (with_key x) p cs) q ≡ marks cs q
  marks_put x zero cs q = refl
  marks_put x (suc i) cs zero = refl
  marks_put x (suc i) cs (suc j) = marked_put x i cs j

  -- a write off the cells does nothing; e says that it would have left an edge as it was
  contents_put : (x : K) (p : ℕ) (cs : List (Cell K)) → ((q : ℕ) → (q ≡ 0) ⊎ (length cs < q) → updated (contents cs) p (holds x) q ≡ empty) → (q : ℕ)
      → contents (alter_place (with_key x) p cs) q ≡ updated (contents cs) p (holds x) q
  contents_put x zero cs e zero = sym (e zero (inl refl))
  contents_put x zero cs e (suc j) = sym (updated_other (contents cs) zero (suc j) (holds x) (omega arith))
  contents_put x (suc i) cs e zero = sym (updated_other (contents cs) (suc i) zero (holds x) (omega arith))
  contents_put x (suc i) cs e (suc j) =
      ⊎_elim
      (λ (z : i ≡ j). ⊎_elim
      (λ (lt : i < length cs).
      ap (content_at (alter (with_key x) i cs)) (sym z)
      ∙ content_put x i cs lt
      ∙ sym (updated_at (contents cs) (suc i) (suc j) (holds x) (ap suc z)))
      (λ le. ap (λ y. content_at y j) (alter_past (with_key x) i cs le) ∙ content_past cs j (omega arith) ∙ sym (e (suc j) (inr (omega arith))))
      (cases_lt i (length cs)))
      (λ n. content_other (with_key x) i cs j n ∙ sym (updated_other (contents cs) (suc i) (suc j) (holds x) (omega arith)))
      (cases_eq i j)

  marks_mark : (b : Bool) (p : ℕ) (cs : List (Cell K)) → ((q : ℕ) → (q ≡ 0) ⊎ (length cs < q) → updated (marks cs) p b q ≡ false) → (q : ℕ)
      → marks (alter_place (with_mark b) p cs) q ≡ updated (marks cs) p b q
  marks_mark b zero cs e zero = sym (e zero (inl refl))
  marks_mark b zero cs e (suc j) = sym (updated_other (marks cs) zero (suc j) b (omega arith))
  marks_mark b (suc i) cs e zero = sym (updated_other (marks cs) (suc i) zero b (omega arith))
  marks_mark b (suc i) cs e (suc j) =
      ⊎_elim
      (λ (z : i ≡ j). ⊎_elim
      (λ (lt : i < length cs).
      ap (marked_at (alter (with_mark b) i cs)) (sym z) ∙ marked_mark b i cs lt ∙ sym (updated_at (marks cs) (suc i) (suc j) b (ap suc z)))
      (λ le. ap (λ y. marked_at y j) (alter_past (with_mark b) i cs le) ∙ marked_past cs j (omega arith) ∙ sym (e (suc j) (inr (omega arith))))
      (cases_lt i (length cs)))
      (λ n. marked_other (with_mark b) i cs j n ∙ sym (updated_other (marks cs) (suc i) (suc j) b (omega arith)))
      (cases_eq i j)

  contents_act : (a : Act K) (cs : List (Cell K)) → ((q : ℕ) → (q ≡ 0) ⊎ (length cs < q) → contents_after a (contents cs) q ≡ empty) → (q : ℕ)
      → contents (cells_after a cs) q ≡ contents_after a (contents cs) q
  contents_act Rest cs e q = refl
  contents_act (Mark p) cs e q = contents_mark true p cs q
  contents_act (Unmark p) cs e q = contents_mark false p cs q
  contents_act (Write p x) cs e q = contents_put x p cs e q

  marks_act : (a : Act K) (cs : List (Cell K)) → ((q : ℕ) → (q ≡ 0) ⊎ (length cs < q) → marks_after a (marks cs) q ≡ false) → (q : ℕ)
      → marks (cells_after a cs) q ≡ marks_after a (marks cs) q
  marks_act Rest cs e q = refl
  marks_act (Mark p) cs e q = marks_mark true p cs e q
  marks_act (Unmark p) cs e q = marks_mark false p cs e q
  marks_act (Write p x) cs e q = marks_put x p cs q

  -- an act on the cells, by place
  abbrev pub Acted : Act K → List (Cell K) → Type 0
  Acted a cs =
      ((p : ℕ) → contents (cells_after a cs) p ≡ contents_after a (contents cs) p) × ((p : ℕ) → marks (cells_after a cs) p ≡ marks_after a (marks cs) p)

  -- so it is where the act leaves the edges as they are
  pub acted : (a : Act K) (cs : List (Cell K)) (n : ℕ) → length cs ≡ n
      → contents_after a (contents cs) 0 ≡ empty → ((p : ℕ) → n < p → contents_after a (contents cs) p ≡ empty)
      → ((p : ℕ) → (p ≡ 0) ⊎ (n < p) → marks_after a (marks cs) p ≡ false)
      → Acted a cs
  acted a cs n size low high none-marked = (
    contents_act a cs (λ q o. ⊎_elim (λ (z : q ≡ 0). ap (contents_after a (contents cs)) z ∙ low) (λ lt. high q lt) (off q o)),
    marks_act a cs (λ q o. none-marked q (off q o)),
  )
    where
      off : (q : ℕ) → (q ≡ 0) ⊎ (length cs < q) → (q ≡ 0) ⊎ (n < q)
      off q = ⊎_elim inl (λ lt. inr (omega (arith, size)))

  content_blank : (k : K) (cs : List (Cell K)) (i : ℕ) → content_at (map (blank k) cs) i ≡ empty
  content_blank k [] i = refl
  content_blank k (c ∷ cs) zero = refl
  content_blank k (c ∷ cs) (suc i) = content_blank k cs i

  marked_blank : (k : K) (cs : List (Cell K)) (i : ℕ) → marked_at (map (blank k) cs) i ≡ false
  marked_blank k [] i = refl
  marked_blank k (c ∷ cs) zero = refl
  marked_blank k (c ∷ cs) (suc i) = marked_blank k cs i

  pub contents_blank : (k : K) (cs : List (Cell K)) (p : ℕ) → contents (map (blank k) cs) p ≡ empty
  contents_blank k cs zero = refl
  contents_blank k cs (suc i) = content_blank k cs i

  pub marks_blank : (k : K) (cs : List (Cell K)) (p : ℕ) → marks (map (blank k) cs) p ≡ false
  marks_blank k cs zero = refl
  marks_blank k cs (suc i) = marked_blank k cs i

  -- only cells are occupied
  pub contents_inside : (cs : List (Cell K)) (n : ℕ) → length cs ≡ n → (p : ℕ) → is_occupied (contents cs p) ≡ true → (0 < p) × (p ≤ n)
  contents_inside cs n size zero o = absurd (both_ways false refl o)
  contents_inside cs n size (suc i) o =
      (omega arith, ⊎_elim (λ (a : n < suc i). absurd (not_both (contents_past cs (suc i) (omega arith)) o)) (λ a. a) (cases_lt n (suc i)))

module _ {A : Type 0} where
  pub nth_same : (xs : List A) (i : ℕ) (a b : A) → nth xs i ≡ holds b → nth (set xs i a) i ≡ holds a
  nth_same [] i a b h = let z : ◌≡◌ {A = ℕ} 0 1 = cc in absurd (omega arith)
  nth_same (x ∷ xs) zero a b h = refl
  nth_same (x ∷ xs) (suc i) a b h = nth_same xs i a b h

  pub nth_other : (xs : List A) (i : ℕ) (a : A) (j : ℕ) → i ≢ j → nth (set xs i a) j ≡ nth xs j
  nth_other [] i a j n = refl
  nth_other (x ∷ xs) zero a zero n = absurd (n refl)
  nth_other (x ∷ xs) zero a (suc j) n = refl
  nth_other (x ∷ xs) (suc i) a zero n = refl
  nth_other (x ∷ xs) (suc i) a (suc j) n = nth_other xs i a j (λ e. n (ap suc e))

  pub nth_past : (xs : List A) (i : ℕ) → length xs ≤ i → nth xs i ≡ empty
  nth_past [] i h = refl
  nth_past (x ∷ xs) zero h = absurd (not-suc-le-zero h)
  nth_past (x ∷ xs) (suc i) h = nth_past xs i (le_of_suc-le-suc h)

  pub nth_map : (P : A → Type 0) (f : A → A) → ((x : A) → P (f x)) → (xs : List A) (i : ℕ) (y : A) → nth (map f xs) i ≡ holds y → P y
  nth_map P f h [] i y e = let z : ◌≡◌ {A = ℕ} 0 1 = cc in absurd (omega arith)
  nth_map P f h (x ∷ xs) zero y e = subst P (let z : f x ≡ y = cc in z) (h x)
  nth_map P f h (x ∷ xs) (suc i) y e = nth_map P f h xs i y e
