-- The packet's stack as a list of protocols, and what a function that is allowed does to it. Assumes nothing: these are definitions.
use Rattle.std.specs.Prelude.{ℕ, zero, suc, ◌+◌, ◌-◌, ◌≤◌, List, [], ◌∷◌, length, get_or, set}
use Rattle.paper.specs.Net.{Kind, conv, wrap, unwrap}
use Rattle.trace_stack.specs.declared.Stack.{Stack}

-- the cells: a route of at most 4,096 steps meets no higher stack (`Depth.peak_half`)
abbrev pub highest : ℕ
highest = 2049

-- the lowest h cells, the highest of them first
unfoldable pub below : List ℕ → ℕ → List ℕ
below cs zero = []
below cs (suc h) = get_or cs h 0 ∷ below cs h

-- what the stack holds, its top first
unfoldable pub items : Stack → List ℕ
items s = below s.cells s.height

unfoldable pub beneath : List ℕ → List ℕ
beneath [] = []
beneath (x ∷ s) = s

-- what a function leaves of the stack s, where `act` allows it: y is its outer protocol
unfoldable pub acted : Kind → ℕ → List ℕ → List ℕ
acted conv y s = y ∷ beneath s
acted wrap y s = y ∷ s
acted unwrap y s = beneath s

-- ## In the cells

-- of a stack of height h: its height after a function, and the cell of the function's outer protocol
unfoldable pub height_after : Kind → ℕ → ℕ
height_after conv h = h
height_after wrap h = h + 1
height_after unwrap h = h - 1

unfoldable pub cell_of : Kind → ℕ → ℕ
cell_of conv h = h - 1
cell_of wrap h = h
cell_of unwrap h = h - 1

-- the stack with one cell and the height stored
abbrev pub stored : Stack → ℕ → ℕ → ℕ → Stack
stored s i y h = record { cells = set s.cells i y; height = h }

-- the stack has a top to act on, and its cells hold it before and after
pub record Ready (c : Kind) (y : ℕ) (s : Stack) : Type 0 where
  pub some : 1 ≤ s.height
  pub held : s.height ≤ highest
  pub room : length (acted c y (items s)) ≤ highest
