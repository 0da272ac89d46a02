-- What the reading of names promises over all texts.
use Rattle.std.specs.Prelude.{◌≡◌, ℕ, zero, suc, List, [], ◌∷◌, map, Some, Ok}
use Rattle.names.specs.declared.Name.{Name}
use Rattle.names.specs.Utf8.{Scalar, encoded, first}
use Rattle.names.specs.Decomposition.{decomposition}
use Rattle.names.specs.Letters.{Letter, digit}
use Rattle.names.specs.Reading.{Text, Done, Broken, Point, text_of, letters, reading}
use Rattle.names.specs.Digits.{digits_of}

abbrev pub points_of : Text → List ℕ
points_of Done = []
points_of (Broken p) = []
points_of (Point c p t) = c ∷ points_of t

-- the code points of a text
abbrev pub code_points : List ℕ → List ℕ
code_points bs = points_of (text_of bs)

-- the UTF-8 bytes of some code points
abbrev pub utf8 : List ℕ → List ℕ
utf8 [] = []
utf8 (c ∷ cs) = encoded c (utf8 cs)

abbrev pub Scalars : List ℕ → Type 0
Scalars [] = Unit {0}
Scalars (c ∷ cs) = Scalar c × Scalars cs

-- the first n digits, 0 for those that are unused
abbrev pub padded : ℕ → List ℕ → List ℕ
padded zero ds = []
padded (suc n) [] = 0 ∷ padded n []
padded (suc n) (d ∷ ds) = d ∷ padded n ds

pub record NameLaw : Type 0 where
  -- Of two texts that are both read, the keys are equal exactly when the canonical decompositions of their code points agree.
  pub apart : (a b : List ℕ) (x y : Name) → reading a ≡ Ok x → reading b ≡ Ok y → x ≡ y → decomposition (code_points a) ≡ decomposition (code_points b)
  pub alike : (a b : List ℕ) (x y : Name) → reading a ≡ Ok x → reading b ≡ Ok y → decomposition (code_points a) ≡ decomposition (code_points b) → x ≡ y
  -- A text that is read is the UTF-8 of its code points.
  pub points : (bs : List ℕ) (x : Name) → reading bs ≡ Ok x → Scalars (code_points bs) × (utf8 (code_points bs) ≡ bs)
  -- Some bytes begin with a code point exactly when they begin with its UTF-8 bytes.
  pub begins : (c : ℕ) (rest : List ℕ) → Scalar c → first (encoded c rest) ≡ Some (c, rest)
  pub begun : (bs rest : List ℕ) (c : ℕ) → first bs ≡ Some (c, rest) → Scalar c × (bs ≡ encoded c rest)
  -- The 24 digits of a key are those of the text's letters, unused ones last and 0.
  pub digits : (bs : List ℕ) (x : Name) (ls : List Letter) → reading bs ≡ Ok x → letters [] (text_of bs) ≡ Ok ls → digits_of x ≡ padded 24 (map digit ls)
