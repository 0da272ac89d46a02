-- Names as keys: comparing digits from the first is comparing the three words, and the laws follow.
use Rattle.std.specs.Prelude.{◌≡◌, ℕ, zero, suc, ◌+◌, ◌*◌, ◌/◌, ◌%◌, ◌≤◌, min, Bool, true, List, [], ◌∷◌, Decides, slice_index, refl}
use Rattle.std.specs.declared.cmp.Ordering.TheVariants.{Less, Equal, Greater}
use Rattle.std.specs.declared.cmp.Ordering.{Ordering}
use Rattle.std.proofs.Common.{sym, ◌∙◌, ap, arith}
use Rattle.std.proofs.lemmas.Bool.Decides.{nat_tests}
use Rattle.std.specs.Ordering.{is_eq, eq_by_cmp, ordering_reverse, ordering_then}
use Rattle.std.specs.Cmp.{IsEquivalence, IsTotalOrder, eq_by_cmp_equiv}
use Rattle.keys.specs.Laws.{Laws}
use Rattle.keys.specs.Kinds.{by_size, share}
use Rattle.keys.specs.Sizes.{size_itself, size_equal, share_below, share_rises}
use Rattle.names.specs.declared.Name.{Name}
use Rattle.names.specs.Digits.{digits_of_word, digits_of, by_digits, name_order, name_home, by_words, first_two}

pub then_then : (a b c : Ordering) → ordering_then (ordering_then a b) c ≡ ordering_then a (ordering_then b c)
then_then Less b c = refl
then_then Equal b c = refl
then_then Greater b c = refl

then_equal : (c : Ordering) → ordering_then c Equal ≡ c
then_equal Less = refl
then_equal Equal = refl
then_equal Greater = refl

size_by_digit : (a b : ℕ) → ordering_then (by_size (a / 1024) (b / 1024)) (by_size (a % 1024) (b % 1024)) ≡ by_size a b
size_by_digit a b = grind (arith, nat_tests)

-- a word's digits compare as the word does, before those that follow
word_first : (n a b : ℕ) (ds es : List ℕ) → by_digits (digits_of_word n a ds) (digits_of_word n b es) ≡ ordering_then (by_size a b) (by_digits ds es)
word_first zero a b ds es = refl
word_first (suc n) a b ds es =
    word_first n (a / 1024) (b / 1024) (a % 1024 ∷ ds) (b % 1024 ∷ es)
    ∙ sym (then_then (by_size (a / 1024) (b / 1024)) (by_size (a % 1024) (b % 1024)) (by_digits ds es))
    ∙ ap (λ (o : Ordering). ordering_then o (by_digits ds es)) (size_by_digit a b)

pub order_by_words : (x y : Name) → name_order x y ≡ by_words x y
unfolding name_order digits_of
order_by_words x y =
    let low_digits : Name → List ℕ = λ z. digits_of_word 7 z.low [] in
    let later_digits : Name → List ℕ = λ z. digits_of_word 7 z.middle (low_digits z) in
    word_first 7 x.high y.high (later_digits x) (later_digits y)
    ∙ ap (ordering_then (by_size x.high y.high)) (
    word_first 7 x.middle y.middle (low_digits x) (low_digits y)
    ∙ ap (ordering_then (by_size x.middle y.middle)) (word_first 7 x.low y.low [] [] ∙ then_equal (by_size x.low y.low)))

-- the first two digits are the number above the last six of the first word
first_two_lem : (x : Name) → slice_index (digits_of x) 0 * 1024 + slice_index (digits_of x) 1 ≡ x.high / 1152921504606846976
unfolding digits_of
first_two_lem x = omega arith

home_by_word : (x : Name) (n : ℕ) → name_home x n ≡ share 1048576 (x.high / 1152921504606846976) n
unfolding name_home
home_by_word x n = ap (λ k. share 1048576 k n) (first_two_lem x)

pub home_by_two : (x : Name) (n : ℕ) → first_two x * n / 1048576 ≡ name_home x n
home_by_two x n = sym (home_by_word x n)

-- the same by the share of the cells: the first two digits are below 1,048,576
pub home_by_share : (x : Name) (n : ℕ) → share 1048576 (first_two x) n ≡ name_home x n
home_by_share x n =
    let m : min (first_two x) 1048575 ≡ first_two x = omega arith in
    ap (λ k. k * n / 1048576) m ∙ home_by_two x n

-- the laws, of the words
words_itself : (x : Name) → by_words x x ≡ Equal
words_itself x = simp (size_itself x.high, size_itself x.middle, size_itself x.low)

then_equal_both : (c d : Ordering) → ordering_then c d ≡ Equal → (c ≡ Equal) × (d ≡ Equal)
then_equal_both Less d e = (e, cc)
then_equal_both Equal d e = (refl, e)
then_equal_both Greater d e = (e, cc)

words_equal : (x y : Name) → by_words x y ≡ Equal → x ≡ y
words_equal x y e =
    let a = then_equal_both (by_size x.high y.high) _ e in
    let b = then_equal_both (by_size x.middle y.middle) _ a.1 in
    let h : x.high ≡ y.high = size_equal x.high y.high a.0 in
    let m : x.middle ≡ y.middle = size_equal x.middle y.middle b.0 in
    let l : x.low ≡ y.low = size_equal x.low y.low b.1 in
    let made : ℕ → ℕ → ℕ → Name = λ p q r. record { high = p; middle = q; low = r } in
    ap (λ p. made p x.middle x.low) h ∙ ap (λ q. made y.high q x.low) m ∙ ap (made y.high y.middle) l

words_exchange : (x y : Name) → by_words y x ≡ ordering_reverse (by_words x y)
words_exchange x y = grind (arith, nat_tests)

words_onward : (x y z : Name) → by_words x y ≡ Less → by_words y z ≡ Less → by_words x z ≡ Less
words_onward x y z p q = grind (arith, nat_tests)

words_high : (x y : Name) → by_words x y ≡ Less → x.high ≤ y.high
words_high x y e = grind (arith, nat_tests)

pub name_laws : Laws name_order name_home
name_laws = record {
  itself = λ x. order_by_words x x ∙ words_itself x;
  equal = λ x y e. words_equal x y (sym (order_by_words x y) ∙ e);
  exchange = λ x y. order_by_words y x ∙ words_exchange x y ∙ ap ordering_reverse (sym (order_by_words x y));
  onward = λ x y z p q. order_by_words x z ∙ words_onward x y z (sym (order_by_words x y) ∙ p) (sym (order_by_words y z) ∙ q);
  within = λ x n p q. rw (home_by_word x n) (share_below 1048576 (x.high / 1152921504606846976) n (omega arith) p);
  homes = λ x y n p q e.
      let l : x.high ≤ y.high = words_high x y (sym (order_by_words x y) ∙ e) in
      rw (home_by_word x n, home_by_word y n)
      (share_rises 1048576 (x.high / 1152921504606846976) (y.high / 1152921504606846976) n (omega arith) (omega arith));
}

-- the comparison as a total order, and the equality that it gives
pub name_total : IsTotalOrder name_order
name_total = record {
  antisymm = λ x y. name_laws.exchange y x;
  trans = name_laws.onward;
  congr = λ x y z e. ap (λ (v : Name). name_order v z) (name_laws.equal x y e);
}

pub name_equivalence : IsEquivalence (eq_by_cmp name_order)
name_equivalence = eq_by_cmp_equiv name_total

-- equal names are the same, and no others
is_equal : (o : Ordering) → is_eq o ≡ true → o ≡ Equal
is_equal Less e = cc
is_equal Equal e = refl
is_equal Greater e = cc

pub equality_decides : (x y : Name) (r : Bool) → r ≡ is_eq (name_order x y) → Decides r (x ≡ y)
equality_decides x y r e = (
  λ t. name_laws.equal x y (is_equal (name_order x y) (sym e ∙ t)),
  λ q. e ∙ ap (λ (v : Name). is_eq (name_order x v)) (sym q) ∙ ap is_eq (name_laws.itself x),
)
