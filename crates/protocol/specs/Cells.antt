-- The cells, read and changed by place: place 0 is the left edge, i + 1 is cell i, and N + 1 is the right edge.
use Rattle.std.specs.Prelude.{ℕ, zero, suc, Bool, true, false, cond, ◌&&◌, List, [], ◌∷◌, ◌==◌, nat_le, nat_lt}
pub use Rattle.std.specs.declared.option.Option.{Option as Content}
pub use Rattle.std.specs.declared.option.Option.TheVariants.{None as empty, Some as holds}
pub use Rattle.protocol.specs.declared.Act.{Act}
pub use Rattle.protocol.specs.declared.Act.TheVariants.{Rest, Mark, Unmark, Write}
use Rattle.protocol.specs.declared.Cell.{Cell}

-- of N cells, is this place a cell? If not, it is an edge.
abbrev pub cell : ℕ → ℕ → Bool
cell N p = nat_lt 0 p && nat_le p N

abbrev pub is_occupied : {K : Type 0} → Content K → Bool
is_occupied empty = false
is_occupied (holds k) = true

-- f, but a at p
abbrev pub updated : {A : Type 0} → (ℕ → A) → ℕ → A → ℕ → A
updated f p a q = cond (p == q) a (f q)

-- the element of that number, if the list is that long
abbrev pub nth : {A : Type 0} → List A → ℕ → Content A
nth [] i = empty
nth (x ∷ xs) zero = holds x
nth (x ∷ xs) (suc i) = nth xs i

module _ {K : Type 0} where
  -- the key of an occupied cell; a filler in an empty cell counts as no key
  abbrev pub content : Cell K → Content K
  content c = cond c.occupied (holds c.key) empty

  abbrev pub content_at : List (Cell K) → ℕ → Content K
  content_at [] i = empty
  content_at (c ∷ cs) zero = content c
  content_at (c ∷ cs) (suc i) = content_at cs i

  abbrev pub marked_at : List (Cell K) → ℕ → Bool
  marked_at [] i = false
  marked_at (c ∷ cs) zero = c.marked
  marked_at (c ∷ cs) (suc i) = marked_at cs i

  -- the key at a place, and whether it is marked; an edge is neither occupied nor marked
  abbrev pub contents : List (Cell K) → ℕ → Content K
  contents cs zero = empty
  contents cs (suc i) = content_at cs i

  abbrev pub marks : List (Cell K) → ℕ → Bool
  marks cs zero = false
  marks cs (suc i) = marked_at cs i

  abbrev pub with_mark : Bool → Cell K → Cell K
  with_mark b c = record { key = c.key; occupied = c.occupied; marked = b }

  -- a write keeps the cell's mark
  abbrev pub with_key : K → Cell K → Cell K
  with_key k c = record { key = k; occupied = true; marked = c.marked }

  abbrev pub alter : (Cell K → Cell K) → ℕ → List (Cell K) → List (Cell K)
  alter f i [] = []
  alter f zero (c ∷ cs) = f c ∷ cs
  alter f (suc i) (c ∷ cs) = c ∷ alter f i cs

  -- at an edge nothing is altered
  abbrev pub alter_place : (Cell K → Cell K) → ℕ → List (Cell K) → List (Cell K)
  alter_place f zero cs = cs
  alter_place f (suc i) cs = alter f i cs

  abbrev pub cells_after : Act K → List (Cell K) → List (Cell K)
  cells_after Rest cs = cs
  cells_after (Mark p) cs = alter_place (with_mark true) p cs
  cells_after (Unmark p) cs = alter_place (with_mark false) p cs
  cells_after (Write p k) cs = alter_place (with_key k) p cs
