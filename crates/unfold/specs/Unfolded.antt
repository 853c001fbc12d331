-- What unfolding the best route asks and ensures. Assumes nothing: these are definitions.
-- g is the network, W and C are the tables, the enquiry is from `start` to `end`.
use Rattle.std.specs.Prelude.{ℕ, ◌+◌, ◌*◌, ◌≤◌, ◌≡◌, List, ◌↔◌, T, length, get_or, replicate}
use Rattle.paper.specs.Limits.{heaviest, longest}
use Rattle.paper.specs.Net.{Key}
use Rattle.paper.specs.Rooms.{laid}
use Rattle.paper.specs.Route.{flat, Best}
use Rattle.paper.specs.declared.place.Place.{Place}
use Rattle.laws.specs.Unfold.{Exact}
use Rattle.network.specs.Network.{nodes, protocols, places, hop_in, number_of, Within}
use Rattle.unfold_frames.specs.Frames.{words_for, Headed, mark}
use Rattle.unfold_picks.specs.Contract.{table_in}

module _ (g W C : List ℕ) (start end : Place) where
  -- the enquiry's entry in the tables
  abbrev pub weighs_in : ℕ
  weighs_in = get_or W (number_of g start * places g + number_of g end) 0

  abbrev pub counts_in : ℕ
  counts_in = get_or C (number_of g start * places g + number_of g end) 0

  -- exact tables, whose entry for the enquiry is a route's, and rooms that hold it: L and Q, the choice and the step room
  pub record Unfolds (L Q : List ℕ) : Type 0 where
    pub exact : Exact (hop_in g) (nodes g) (protocols g) (table_in g W C)
    pub from : Within g start
    pub to : Within g end
    pub light : weighs_in ≤ heaviest
    pub short : counts_in ≤ longest
    pub weights : places g * places g ≤ length W
    pub counts : places g * places g ≤ length C
    pub choices : 8 * (places g * places g) ≤ length L
    pub steps : 4 * counts_in ≤ length Q

  -- the steps of the best route are written; it has the entry's weight and as many steps as the entry says
  pub record Route (Q Q' : List ℕ) : Type 0 where
    pub ks : List Key
    pub best : Best (hop_in g) start.node start.protocol end.node end.protocol ks weighs_in
    pub steps : length ks ≡ counts_in
    pub wrote : Q' ≡ laid Q 0 (flat ks)

  -- and the choice room holds zeros
  pub record Unfolded (L L' Q Q' : List ℕ) : Type 0 where
    pub route : Route Q Q'
    pub choices : L' ≡ laid L 0 (replicate (8 * (places g * places g)) 0)

-- the record of the bottom level is written at entry 0: it begins at `start` with w, s left, and its one exit is `end`
pub record Bottomed (g : List ℕ) (start end : Place) (L : List ℕ) (w s : ℕ) : Type 0 where
  pub headed : Headed L 0 (number_of g start) 0 w s
  pub marks : (e : ℕ) → T (mark (words_for (places g)) L 0 e) ↔ (e ≡ number_of g end)
