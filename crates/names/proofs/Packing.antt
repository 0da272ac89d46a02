-- The digits of a key are those that were packed into it, so letters and keys tell each other.
use Rattle.std.proofs.Common.{◌≡◌, ℕ, zero, suc, ◌+◌, ◌*◌, ◌<◌, ◌≤◌, List, [], ◌∷◌, map, length, get_or, sym, refl, ap, ◌∙◌, le_of_suc-le-suc, arith}
use Rattle.names.specs.Letters.{Letter, digit}
use Rattle.names.specs.Reading.{word_at, packed, key_of}
use Rattle.names.specs.Digits.{digits_of_word, digits_of}
use Rattle.names.specs.Law.{padded}
use Rattle.names.proofs.Rows.{Good}
use Rattle.names.proofs.Spellings.{Fine}

-- n digits from the i-th on, as one number
abbrev pub word_from : (ℕ → ℕ) → ℕ → ℕ → ℕ
word_from d i zero = 0
word_from d i (suc n) = word_from d i n * 1024 + d (i + n)

-- the largest number of n digits of 16 bits
abbrev pub most : ℕ → ℕ
most zero = 0
most (suc n) = most n * 1024 + 65535

most_rises : (m n : ℕ) → m ≤ n → most m ≤ most n
most_rises zero n h = omega arith
most_rises (suc m) zero h = absurd (omega arith)
most_rises (suc m) (suc n) h = omega (arith, most_rises m n (omega arith))

pub word_fits : (n w : ℕ) → n < 8 → w ≤ most n → w * 1024 + 65535 < 340282366920938463463374607431768211456
word_fits n w h k = let m = most_rises n 7 (omega arith) in omega arith

word_unpacks : (d : ℕ → ℕ) → ((k : ℕ) → d k < 1024) → (i : ℕ) (ds : List ℕ) → digits_of_word 7 (word_at d i) ds ≡ d i ∷ d (i + 1) ∷ d (i + 2) ∷ d (i + 3) ∷ d (i + 4) ∷ d (i + 5) ∷ d (i + 6) ∷ d (i + 7) ∷ ds
word_unpacks d p i ds = grind arith

-- n digits from the i-th on
abbrev row : (ℕ → ℕ) → ℕ → ℕ → List ℕ
row d i zero = []
row d i (suc n) = d i ∷ row d (i + 1) n

packed_digits : (d : ℕ → ℕ) → ((k : ℕ) → d k < 1024) → digits_of (packed d) ≡ row d 0 24
unfolding digits_of
packed_digits d p =
    ap (λ (ds : List ℕ). digits_of_word 7 (word_at d 0) (digits_of_word 7 (word_at d 8) ds)) (word_unpacks d p 16 [])
    ∙ ap (digits_of_word 7 (word_at d 0)) (word_unpacks d p 8 _)
    ∙ word_unpacks d p 0 _

next : (i k : ℕ) (d : ℕ → ℕ) {v : ℕ} → d (i + suc k) ≡ v → d ((i + 1) + k) ≡ v
next i k d e = let y : (i + 1) + k ≡ i + suc k = omega arith in ap d y ∙ e

row_padded : (n i : ℕ) (d : ℕ → ℕ) (ds : List ℕ) → ((k : ℕ) → d (i + k) ≡ get_or ds k 0) → row d i n ≡ padded n ds
row_padded zero i d ds h = refl
row_padded (suc n) i d [] h = grind (arith, h 0, row_padded n (i + 1) d [] (λ k. next i k d (h (suc k))))
row_padded (suc n) i d (x ∷ xs) h = grind (arith, h 0, row_padded n (i + 1) d xs (λ k. next i k d (h (suc k))))

digit_most : (ls : List Letter) → Fine ls → (k : ℕ) → get_or (map digit ls) k 0 < 1024
digit_most [] f k = omega arith
digit_most (x ∷ xs) f zero = omega (arith, f.0.most, f.0.mark)
digit_most (x ∷ xs) f (suc k) = digit_most xs f.1 k

pub key_digits : (ls : List Letter) → Fine ls → digits_of (key_of ls) ≡ padded 24 (map digit ls)
key_digits ls f =
    packed_digits (λ i. get_or (map digit ls) i 0) (digit_most ls f)
    ∙ row_padded 24 0 (λ i. get_or (map digit ls) i 0) (map digit ls) (λ k. let z : 0 + k ≡ k = omega arith in ap (λ i. get_or (map digit ls) i 0) z)

-- letters by their digits
letter_same : (x y : Letter) → Good x → Good y → digit x ≡ digit y → x ≡ y
letter_same x y g h e = grind (arith, g.mark, h.mark)

abbrev head_of : List ℕ → ℕ
head_of [] = 0
head_of (x ∷ xs) = x

abbrev tail_of : List ℕ → List ℕ
tail_of [] = []
tail_of (x ∷ xs) = xs

letters_same : (n : ℕ) (us vs : List Letter) → Fine us → Fine vs → length us ≤ n → length vs ≤ n → padded n (map digit us) ≡ padded n (map digit vs) → us ≡ vs
letters_same n [] [] f g h k e = refl
letters_same zero [] (y ∷ ys) f g h k e = absurd (omega arith)
letters_same zero (x ∷ xs) vs f g h k e = absurd (omega arith)
letters_same (suc n) [] (y ∷ ys) f g h k e = absurd (omega (arith, ap head_of e, g.0.number))
letters_same (suc n) (x ∷ xs) [] f g h k e = absurd (omega (arith, ap head_of e, f.0.number))
letters_same (suc n) (x ∷ xs) (y ∷ ys) f g h k e =
    let a : x ≡ y = letter_same x y f.0 g.0 (ap head_of e) in
    let b : xs ≡ ys = letters_same n xs ys f.1 g.1 (le_of_suc-le-suc h) (le_of_suc-le-suc k) (ap tail_of e) in
    ap (λ (v : Letter). v ∷ xs) a ∙ ap (λ (v : List Letter). y ∷ v) b

pub key_same : (us vs : List Letter) → Fine us → Fine vs → length us ≤ 24 → length vs ≤ 24 → key_of us ≡ key_of vs → us ≡ vs
key_same us vs f g m n e = letters_same 24 us vs f g m n (sym (key_digits us f) ∙ ap digits_of e ∙ key_digits vs g)
