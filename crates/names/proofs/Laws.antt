-- What reading promises over all texts, from the files before.
use Rattle.std.proofs.Common.{◌≡◌, ℕ, zero, suc, ◌+◌, ◌-◌, ◌<◌, ◌≤◌, List, [], ◌∷◌, map, length, Some, None, Ok, Err, Option, Result, sym, refl, ap, ◌∙◌, arith}
use Rattle.names.specs.declared.Fault.{Fault}
use Rattle.names.specs.declared.Name.{Name}
use Rattle.names.specs.Utf8.{encoded, first}
use Rattle.names.specs.Decomposition.{decomposition}
use Rattle.names.specs.Letters.{Letter, digit}
use Rattle.names.specs.Reading.{point_then, text_in, text_of, letters, key_of, named, reading}
use Rattle.names.specs.Digits.{digits_of}
use Rattle.names.specs.Law.{points_of, code_points, utf8, Scalars, padded, NameLaw}
use Rattle.names.proofs.Points.{shorter}
use Rattle.names.proofs.Encodings.{there, back}
use Rattle.names.proofs.Spellings.{went, no_run, unplaced, read_decomposed, list_in, spelled, running}
use Rattle.names.proofs.Packing.{key_digits, key_same}

-- a text that is read, and its letters
record Accepted (bs : List ℕ) (x : Name) : Type 0 where
  ls : List Letter
  run : letters [] (text_of bs) ≡ Ok ls
  key : x ≡ key_of ls

abbrev name_in : Name → Result Name Fault → Name
name_in d (Ok x) = x
name_in d (Err f) = d

accepted_by : (o : Result (List Letter) Fault) (x : Name) → named o ≡ Ok x → (ls : List Letter) × (o ≡ Ok ls) × (x ≡ key_of ls)
accepted_by (Err f) x e = cc
accepted_by (Ok []) x e = cc
accepted_by (Ok (l ∷ ls)) x e = (l ∷ ls, refl, sym (ap (name_in x) e))

accepted : (bs : List ℕ) (x : Name) → reading bs ≡ Ok x → Accepted bs x
unfolding reading
accepted bs x e = let w = accepted_by (letters [] (text_of bs)) x e in record { ls = w.0; run = w.1; key = w.2 }

-- equal keys, equal letters, equal spellings
apart : (a b : List ℕ) (x y : Name) → reading a ≡ Ok x → reading b ≡ Ok y → x ≡ y → decomposition (code_points a) ≡ decomposition (code_points b)
apart a b x y e f h =
    let p = accepted a x e in
    let q = accepted b y f in
    let r = running (text_of a) [] p.ls p.run in
    let s = running (text_of b) [] q.ls q.run in
    let keys : key_of p.ls ≡ key_of q.ls = sym p.key ∙ h ∙ q.key in
    let k : p.ls ≡ q.ls = key_same p.ls q.ls (r.fine tt) (s.fine tt) (r.short (omega arith)) (s.short (omega arith)) keys in
    sym r.spells ∙ ap spelled k ∙ s.spells

-- a text and its decomposition have the same letters
alike : (a b : List ℕ) (x y : Name) → reading a ≡ Ok x → reading b ≡ Ok y → decomposition (code_points a) ≡ decomposition (code_points b) → x ≡ y
alike a b x y e f h =
    let p = accepted a x e in
    let q = accepted b y f in
    let u : letters [] (unplaced (decomposition (code_points a))) ≡ Ok p.ls = read_decomposed (text_of a) [] p.ls p.run in
    let v : letters [] (unplaced (decomposition (code_points b))) ≡ Ok q.ls = read_decomposed (text_of b) [] q.ls q.run in
    let k : p.ls ≡ q.ls = ap (list_in []) (sym u ∙ ap (λ (ds : List ℕ). letters [] (unplaced ds)) h ∙ v) in
    p.key ∙ ap key_of k ∙ sym q.key

-- the code points of a text that is read are those of its bytes
abbrev Spelt : List ℕ → List ℕ → Type 0
Spelt cs bs = Scalars cs × (utf8 cs ≡ bs)

spelt_by : (k p b : ℕ) (bs : List ℕ) (xs ls : List Letter) (o : Option (ℕ × List ℕ)) → first (b ∷ bs) ≡ o → length (b ∷ bs) ≤ suc k → ((q : ℕ) (rest : List ℕ) (ys : List Letter) → length rest ≤ k → letters ys (text_in k q rest) ≡ Ok ls → Spelt (points_of (text_in k q rest)) rest) → letters xs (point_then p (λ rest. text_in k (p + (length (b ∷ bs) - length rest)) rest) o) ≡ Ok ls → Spelt (points_of (point_then p (λ rest. text_in k (p + (length (b ∷ bs) - length rest)) rest) o)) (b ∷ bs)
spelt_by k p b bs xs ls None e h f r = absurd (no_run xs ls p r)
spelt_by k p b bs xs ls (Some t) e h f r =
    let s : length t.1 < length (b ∷ bs) = shorter (b ∷ bs) t.1 t.0 e in
    let q : ℕ = p + (length (b ∷ bs) - length t.1) in
    let w = went xs t.0 p (text_in k q t.1) ls r in
    let more = f q t.1 w.ys (omega arith) w.more in
    let here = back (b ∷ bs) t.1 t.0 e in
    ((here.scalar, more.0), ap (encoded t.0) more.1 ∙ sym here.bytes)

spelt_in : (k p : ℕ) (bs : List ℕ) (xs ls : List Letter) → length bs ≤ k → letters xs (text_in k p bs) ≡ Ok ls → Spelt (points_of (text_in k p bs)) bs
unfolding text_in
spelt_in zero p [] xs ls h r = (tt, refl)
spelt_in zero p (b ∷ bs) xs ls h r = absurd (omega arith)
spelt_in (suc k) p [] xs ls h r = (tt, refl)
spelt_in (suc k) p (b ∷ bs) xs ls h r = spelt_by k p b bs xs ls (first (b ∷ bs)) refl h (λ q rest ys l e. spelt_in k q rest ys ls l e) r

points : (bs : List ℕ) (x : Name) → reading bs ≡ Ok x → Spelt (code_points bs) bs
points bs x e = let w = accepted bs x e in spelt_in (length bs) 0 bs [] w.ls (omega arith) w.run

digits : (bs : List ℕ) (x : Name) (ls : List Letter) → reading bs ≡ Ok x → letters [] (text_of bs) ≡ Ok ls → digits_of x ≡ padded 24 (map digit ls)
digits bs x ls e r =
    let p = accepted bs x e in
    let k : p.ls ≡ ls = ap (list_in []) (sym p.run ∙ r) in
    let run = running (text_of bs) [] p.ls p.run in
    ap digits_of p.key ∙ key_digits p.ls (run.fine tt) ∙ ap (λ (v : List Letter). padded 24 (map digit v)) k

pub name_law : NameLaw
name_law = record {
  apart = apart;
  alike = alike;
  points = points;
  begins = there;
  begun = λ bs rest c e. let b = back bs rest c e in (b.scalar, b.bytes);
  digits = digits;
}
