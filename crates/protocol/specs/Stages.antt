-- What a stage says of its station.
use Rattle.std.specs.Prelude.{ℕ, suc, ◌+◌, Bool, true, false, ◌&&◌, ◌||◌, nat_lt}
pub use Rattle.protocol.specs.declared.Answer.{Answer}
pub use Rattle.protocol.specs.declared.Answer.TheVariants.{Inserted, Found, Full}
pub use Rattle.protocol.specs.declared.Direction.{Direction}
pub use Rattle.protocol.specs.declared.Direction.TheVariants.{Leftward, Rightward}
pub use Rattle.protocol.specs.declared.Stage.{Stage}
pub use Rattle.protocol.specs.declared.Stage.TheVariants.{Idle, Home, Look, Left, Right, FirstMark, SecondMark, GiveBack, Check, Shift, ReleaseLeft, ReleaseRight, Answered}
use Rattle.protocol.specs.Cells.{cell}

-- A station is idle, at home, further on with its entry, or answered.
pub data Standing : Type 0 where
  resting : Standing
  homing : Standing
  under_way : Standing
  done : Answer → Standing

abbrev pub standing : Stage → Standing
standing Idle = resting
standing Home = homing
standing (Look p) = under_way
standing (Left p) = under_way
standing (Right l p) = under_way
standing (FirstMark l r) = under_way
standing (SecondMark l r) = under_way
standing (GiveBack c) = under_way
standing (Check l r p) = under_way
standing (Shift d l r g) = under_way
standing (ReleaseLeft l r a) = under_way
standing (ReleaseRight r a) = under_way
standing (Answered a) = done a

-- a station has a step to make unless it is idle or answered
abbrev pub busy_by : Standing → Bool
busy_by resting = false
busy_by homing = true
busy_by under_way = true
busy_by (done a) = false

abbrev pub busy : Stage → Bool
busy x = busy_by (standing x)

abbrev pub idle_by : Standing → Bool
idle_by resting = true
idle_by homing = false
idle_by under_way = false
idle_by (done a) = false

abbrev pub is_idle : Stage → Bool
is_idle x = idle_by (standing x)

-- where a withdrawn station would return to home or be answered, it becomes idle
abbrev pub settled_by : Bool → Standing → Stage → Stage
settled_by false st x = x
settled_by true resting x = Idle
settled_by true homing x = Idle
settled_by true under_way x = x
settled_by true (done a) x = Idle

abbrev pub settled : Bool → Stage → Stage
settled withdrawn x = settled_by withdrawn (standing x) x

-- the boundaries that a stage has marked, where they are cells
pub data Held : Type 0 where
  none_held : Held
  one_held : ℕ → Held
  both_held : ℕ → ℕ → Held

abbrev pub held_by : Stage → Held
held_by Idle = none_held
held_by Home = none_held
held_by (Look p) = none_held
held_by (Left p) = none_held
held_by (Right l p) = none_held
held_by (FirstMark l r) = none_held
held_by (SecondMark l r) = one_held l
held_by (GiveBack c) = one_held (suc c)
held_by (Check l r p) = both_held l r
held_by (Shift d l r g) = both_held l r
held_by (ReleaseLeft l r a) = both_held l r
held_by (ReleaseRight r a) = one_held r
held_by (Answered a) = none_held

abbrev pub some_cell : ℕ → Held → Bool
some_cell N none_held = false
some_cell N (one_held p) = cell N p
some_cell N (both_held l r) = cell N l || cell N r

-- does the entry hold a mark?
abbrev pub holds_mark : ℕ → Stage → Bool
holds_mark N x = some_cell N (held_by x)

-- a place of N cells: an edge or a cell below N
abbrev pub is_place : ℕ → ℕ → Bool
is_place N p = nat_lt p (N + 2)

-- does the stage name no cell but those below N? A boundary is a place, a gap is a cell.
abbrev pub names_cells : ℕ → Stage → Bool
names_cells N Idle = true
names_cells N Home = true
names_cells N (Look p) = is_place N p
names_cells N (Left p) = is_place N p
names_cells N (Right l p) = is_place N l && is_place N p
names_cells N (FirstMark l r) = is_place N l && is_place N r
names_cells N (SecondMark l r) = is_place N l && is_place N r
names_cells N (GiveBack c) = nat_lt c N
names_cells N (Check l r p) = is_place N l && (is_place N r && is_place N p)
names_cells N (Shift d l r g) = is_place N l && (is_place N r && nat_lt g N)
names_cells N (ReleaseLeft l r a) = is_place N l && is_place N r
names_cells N (ReleaseRight r a) = is_place N r
names_cells N (Answered a) = true
