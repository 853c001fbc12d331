-- What an enquiry from `start` to `end` of the network g starts from, once its tables are filled. Assumes nothing: these are definitions.
use Rattle.std.specs.Prelude.{ℕ, ◌*◌, ◌<◌, ◌≤◌, ◌≡◌, List, length, get_or, replicate}
use Rattle.paper.specs.Limits.{heaviest}
use Rattle.paper.specs.Rooms.{laid}
use Rattle.paper.specs.Outcome.{Outcome, Rooms, most_steps, Ends, Answers}
use Rattle.paper.specs.declared.place.Place.{Place}
use Rattle.laws.specs.Unfold.{Exact}
use Rattle.tables_costs.specs.Cells.{Spells, pair_at, table}
use Rattle.network.specs.Network.{nodes, protocols, places, hop_in, Within}
use Rattle.network.specs.Arranged.{Arranged}
use Rattle.tables.specs.Lent.{Lent}
use Rattle.unfold.specs.Unfolded.{weighs_in, counts_in}

-- the room with its first 8 × N² entries 0
unfoldable pub cleared : (g X : List ℕ) → List ℕ
cleared g X = laid X 0 (replicate (8 * (places g * places g)) 0)

-- the network, its tables, and a choice room whose first 8 × N² entries are 0
pub record Ready (g W C X : List ℕ) : Type 0 where
  pub arranged : Arranged g
  pub lent : Lent g W C X
  pub exact : Exact (hop_in g) (nodes g) (protocols g) (table (nodes g) (protocols g) W C)
  pub spelled : (S a D b : ℕ) → S < nodes g → a < protocols g → D < nodes g → b < protocols g
      → Spells (get_or W (pair_at (nodes g) (protocols g) S a D b) 0) (get_or C (pair_at (nodes g) (protocols g) S a D b) 0) (table (nodes g) (protocols g) W C S a D b)
  pub clear : X ≡ cleared g X

module _ (g : List ℕ) (start end : Place) where
  -- w and k are the two entries of the pair: a weight within the limit, and steps that the step room Q holds
  pub record Fit (W C Q : List ℕ) (w k : ℕ) : Type 0 where
    pub from : Within g start
    pub to : Within g end
    pub weight : w ≡ weighs_in g W C start end
    pub steps : k ≡ counts_in g W C start end
    pub light : w ≤ heaviest
    pub short : k ≤ most_steps (length Q)

  -- the outcome and what it leaves in the step and the text room; in all five rooms
  abbrev pub EndsIn : (Q T : List ℕ) → Outcome → List ℕ → List ℕ → Type 0
  EndsIn Q T o Q' T' = Ends (hop_in g) (nodes g) (protocols g) start.node start.protocol end.node end.protocol Q T o Q' T'

  abbrev pub AnswersIn : Rooms → Outcome → Rooms → Type 0
  AnswersIn r o s = Answers (hop_in g) (nodes g) (protocols g) start.node start.protocol end.node end.protocol r o s
