-- The exits of a level that is open, and those of a tunnel that may be opened from it. Assumes nothing: these are definitions.
-- W and C are the weight and count rooms, L the choice room, g the network.
use Rattle.std.specs.Prelude.{ℕ, ◌+◌, ◌*◌, ◌<◌, ◌≤◌, ◌≡◌, cond, List, T, eqb, length, get_or}
use Rattle.network.specs.Network.{nodes, protocols, links, places, from, to, toll, node, kind, x_of, y_of, fee, place_in}
use Rattle.unfold_frames.specs.Frames.{words_for, mark}
use Rattle.tables_costs.specs.Costs.{far}
use Rattle.unfold_exits.specs.Cost.{cost, told_at, least, Square}
use Rattle.unfold_exits.specs.Lists.{Ranged, finishing}
use Rattle.unfold_exits.specs.declared.lists.Exit.{Exit}

-- ## An open level of `size` places, whose record begins at entry o

-- what was left at the level's beginning
unfoldable pub left_at : List ℕ → ℕ → ℕ
left_at L o = cost (get_or L (o + 2) 0 + 65536 * get_or L (o + 3) 0) (get_or L (o + 4) 0)

-- the place e is marked in the record, and c is what is left there of what was left at the level's beginning
pub record Leaves (size : ℕ) (W C L : List ℕ) (o e c : ℕ) : Type 0 where
  pub below : e < size
  pub marked : T (mark (words_for size) L o e)
  pub left : c + told_at W C (get_or L o 0 * size + e) ≡ left_at L o

-- the same, of place i
pub record LeavesBy (size : ℕ) (W C L : List ℕ) (o i e c : ℕ) : Type 0 where
  pub place_is : e ≡ i
  pub leaves : Leaves size W C L o e c

-- what listing them asks of the rooms
pub record Reading (size : ℕ) (W C L : List ℕ) (o : ℕ) : Type 0 where
  pub square : Square size W C
  pub record_room : o + 5 + words_for size ≤ length L
  pub begins : get_or L o 0 < size

-- ## A tunnel over x from the level whose exits are listed in E

-- what crossing a link asks
pub record Crossing (g : List ℕ) (E : List Exit) (x : ℕ) : Type 0 where
  pub protocol : x < protocols g
  pub ranged : Ranged (places g) E

module _ (g W C : List ℕ) (E : List Exit) (x : ℕ) where
  -- over link i, and then to the level's end
  unfoldable pub crossed : ℕ → ℕ
  crossed i = cost (toll g i) 1 + finishing W C E (place_in g (to g i) x * places g)

  -- the same, if the link leaves node u
  unfoldable pub landing : (u i : ℕ) → ℕ
  landing u i = cond (eqb (from g i) u) (crossed i) far

  -- over the best link from node u
  unfoldable pub lands : ℕ → ℕ
  lands u = least (landing u) (links g)

  -- a number for each node: what it costs over the best of its links among the first m
  pub record Landed (m : ℕ) (G : List ℕ) : Type 0 where
    pub some : nodes g ≤ length G
    pub each : (u : ℕ) → u < nodes g → get_or G u 0 ≡ least (landing u) m

-- function j unwraps what hides x at the place e, and k is the cost from there on, where `land` tells what it costs from a node
pub record Unwrapping (g : List ℕ) (x : ℕ) (land : ℕ → ℕ) (j e k : ℕ) : Type 0 where
  pub unwraps : kind g j ≡ 2
  pub hides : x_of g j ≡ x
  pub place_is : e ≡ place_in g (node g j) (y_of g j)
  pub cost_is : k ≡ cost (fee g j) 0 + land (node g j)
  pub near : k < far

abbrev pub Unwraps : (g W C : List ℕ) (E : List Exit) (x : ℕ) → (j e k : ℕ) → Type 0
Unwraps g W C E x = Unwrapping g x (lands g W C E x)

-- what listing such exits asks, with the cost from each node in G
pub record Closing (g G : List ℕ) : Type 0 where
  pub some : nodes g ≤ length G
  pub most : (u : ℕ) → u < nodes g → get_or G u 0 ≤ far
