-- Which places a stage holds.
use Rattle.std.proofs.Common.{◌≡◌, ℕ, ◌<◌, ◌≤◌, Bool, true, false, ◌&&◌, ◌||◌, eqb, ◌≢◌, ◌⊎◌, refl, ap, inl, inr, ⊎_elim, arith}
use Rattle.std.proofs.lemmas.Bool.{cases_lt, both_ways, and_parts}
use Rattle.protocol.specs.Cells.{cell}
use Rattle.protocol.specs.Stages.{Stage, Standing, resting, homing, under_way, done, standing, busy_by, busy, Held, none_held, one_held, both_held, held_by, some_cell}
use Rattle.protocol.proofs.Standings.{Means, stage_is}

-- the places at which a stage holds a mark
abbrev pub held_at : ℕ → Held → ℕ → Bool
held_at N none_held q = false
held_at N (one_held p) q = eqb q p && cell N q
held_at N (both_held l r) q = (eqb q l || eqb q r) && cell N q

abbrev pub holder : ℕ → Stage → ℕ → Bool
holder N x q = held_at N (held_by x) q

-- a station that holds a mark has a step to make
pub holder_busy : (N : ℕ) (x : Stage) (p : ℕ) → holder N x p ≡ true → busy x ≡ true
holder_busy N x p h = go (standing x) (stage_is x)
  where
    go : (y : Standing) → Means x y → busy_by y ≡ true
    go resting t = absurd (both_ways (holder N x p) (ap (λ z. holder N z p) t) h)
    go homing t = refl
    go under_way t = refl
    go (done a) t = absurd (both_ways (holder N x p) (ap (λ z. holder N z p) t) h)

pub holder_cell : (N : ℕ) (h : Held) (q : ℕ) → held_at N h q ≡ true → cell N q ≡ true
holder_cell N none_held q e = absurd (both_ways false refl e)
holder_cell N (one_held p) q e = (and_parts (eqb q p) (cell N q) e).1
holder_cell N (both_held l r) q e = (and_parts (eqb q l || eqb q r) (cell N q) e).1

-- a stage that holds no mark holds none anywhere
pub no_holder : (N : ℕ) (h : Held) → some_cell N h ≡ false → (p : ℕ) → false ≡ held_at N h p
no_holder N none_held e p = refl
no_holder N (one_held l) e p = grind arith
no_holder N (both_held l r) e p = grind arith

pub cell_parts : (N p : ℕ) → cell N p ≡ true → (0 < p) × (p ≤ N)
cell_parts N p e = grind arith

pub is_cell : (N p : ℕ) → 0 < p → p ≤ N → cell N p ≡ true
is_cell N p a b = grind arith

pub no_cell : (N p : ℕ) → cell N p ≡ false → (p ≡ 0) ⊎ (N < p)
no_cell N p e =
    ⊎_elim (λ (a : 0 < p). inr (⊎_elim (λ b. b) (λ b. absurd (both_ways (cell N p) e (is_cell N p a b))) (cases_lt N p)))
    (λ a. inl (omega arith)) (cases_lt 0 p)

-- one boundary is held at itself, if it is a cell, and nowhere else
pub one_here : (N l : ℕ) → cell N l ≡ true → held_at N (one_held l) l ≡ true
one_here N l e = grind arith

pub one_elsewhere : (N l q : ℕ) → l ≢ q → held_at N (one_held l) q ≡ false
one_elsewhere N l q n = grind arith

pub one_edge : (N l q : ℕ) → cell N l ≡ false → held_at N (one_held l) q ≡ false
one_edge N l q e = grind arith

-- both are held at either, if it is a cell
pub left_here : (N l r : ℕ) → cell N l ≡ true → held_at N (both_held l r) l ≡ true
left_here N l r e = grind arith

pub right_here : (N l r : ℕ) → cell N r ≡ true → held_at N (both_held l r) r ≡ true
right_here N l r e = grind arith

-- off l, and where l is an edge, to hold both is to hold r; off r, and where r is an edge, to hold l
pub without_left : (N l r q : ℕ) → l ≢ q → held_at N (one_held r) q ≡ held_at N (both_held l r) q
without_left N l r q n = grind arith

pub edge_left : (N l r q : ℕ) → cell N l ≡ false → held_at N (one_held r) q ≡ held_at N (both_held l r) q
edge_left N l r q e = grind arith

pub without_right : (N l r q : ℕ) → r ≢ q → held_at N (both_held l r) q ≡ held_at N (one_held l) q
without_right N l r q n = grind arith

pub edge_right : (N l r q : ℕ) → cell N r ≡ false → held_at N (both_held l r) q ≡ held_at N (one_held l) q
edge_right N l r q e = grind arith
