-- The map from each name to the line where it first came, as one more line changes it.
use Rattle.std.proofs.Common.{◌≡◌, ℕ, Bool, true, false, cond, Some, None, Ok, Option, Result, sym, refl, ap, ◌∙◌, arith}
use Rattle.std.specs.BTreeMap.{Updates}
use Rattle.std.specs.Ordering.{is_eq}
use Rattle.std.specs.BTreeMap.{BTreeMap}
use Rattle.names.specs.KeyLaws.{equality_decides}
use Rattle.names.specs.declared.Fault.{Fault}
use Rattle.names.specs.declared.Name.{Name}
use Rattle.names.specs.Digits.{name_order}
use Rattle.name_list.specs.declared.Answer.TheVariants.{New, Same}
use Rattle.name_list.specs.Lists.{answer_by, new_or_same}
use Rattle.name_list.specs.Seen.{Lawful, line_in, first_or, line_if, Noted}

equal_names : (x y : Name) → is_eq (name_order x y) ≡ true → x ≡ y
equal_names x y = (equality_decides x y (is_eq (name_order x y)) refl).0

-- a line whose name has come before changes nothing
kept : (l n : ℕ) (x y : Name) (b : Bool) (o : Option ℕ) → is_eq (name_order x y) ≡ b → (x ≡ y → o ≡ Some l) → o ≡ first_or o (cond b (Some n) None)
kept l n x y b (Some k) e h = refl
kept l n x y false None e h = refl
kept l n x y true None e h = let f : None ≡ Some l = h (equal_names x y e) in let z : ◌≡◌ {A = ℕ} 0 1 = cc in absurd (omega arith)

pub noted_same : (m : BTreeMap Name ℕ) (n l : ℕ) (r : Result Name Fault) (x : Name) → r ≡ Ok x → Lawful m → Some l ≡ line_in m x → Noted m n r (Same l) m
noted_same m n l r x e w f = record {
  answers = ap new_or_same f ∙ ap (answer_by (line_in m)) (sym e);
  lawful = w;
  finds = λ y.
      kept l n x y (is_eq (name_order x y)) (line_in m y) refl (λ q. ap (line_in m) (sym q) ∙ sym f)
      ∙ ap (λ (v : Result Name Fault). line_if (line_in m y) n v y) (sym e);
}

-- a new name comes at this line, and the others stay
placed : (n : ℕ) (x y : Name) (b : Bool) (o o' : Option ℕ) → is_eq (name_order x y) ≡ b → (x ≡ y → (o ≡ None) × (o' ≡ Some n)) → (b ≡ false → o' ≡ o) → o' ≡ first_or o (cond b (Some n) None)
placed n x y true o o' e h k = let f = h (equal_names x y e) in f.1 ∙ ap (λ (v : Option ℕ). first_or v (Some n)) (sym f.0)
placed n x y false None o' e h k = k refl
placed n x y false (Some l) o' e h k = k refl

pub noted_new : (m m' : BTreeMap Name ℕ) (n : ℕ) (r : Result Name Fault) (x : Name) → r ≡ Ok x → Lawful m → None ≡ line_in m x → Updates name_order m m' x (Some n) → Lawful m' → Noted m n r New m'
noted_new m m' n r x e w f p w' = record {
  answers = ap new_or_same f ∙ ap (answer_by (line_in m)) (sym e);
  lawful = w';
  finds = λ y.
      placed n x y (is_eq (name_order x y)) (line_in m y) (line_in m' y) refl
      (λ q. (ap (line_in m) (sym q) ∙ sym f, ap (line_in m') (sym q) ∙ p.1))
      (λ q. p.2 y q)
      ∙ ap (λ (v : Result Name Fault). line_if (line_in m y) n v y) (sym e);
}
