-- Looking for a step among the exits of one record: in its level, or into a tunnel from it.
-- g is the network, W and C the weight and count rooms, L the choice room. Assumes nothing: these are definitions.
use Rattle.std.specs.Prelude.{ℕ, ◌+◌, ◌<◌, ◌≤◌, List, [], ◌∷◌, length, get_or}
use Rattle.network.specs.Network.{nodes, protocols, places, funs}
use Rattle.unfold_frames.specs.Frames.{words_for}
use Rattle.network_records.specs.declared.kind.Kind.{Kind}
use Rattle.network_records.specs.declared.kind.Kind.TheVariants.{Wrap}
use Rattle.unfold_exits.specs.declared.lists.Exit.{Exit}
use Rattle.unfold_tries.specs.Trial.{Better, Any, Serves, ByFun}
use Rattle.unfold_tries.specs.declared.trial.Spot.{Spot}
use Rattle.unfold_tries.specs.declared.trial.Step.{Step}
use Rattle.unfold_exits.specs.Lists.{Lists, Gathered, Ranged}
use Rattle.unfold_exits.specs.Exits.{Leaves, Unwraps}

-- what the search for a step begins with: a key behind every other
abbrev pub nothing : Step
nothing = record { key = 65535 ∷ 3 ∷ 0 ∷ 0 ∷ []; to = record { node = 0; protocol = 0; weight = 0; left = 0 } }

-- what looking for a step from `at` in the level whose record begins at entry o asks
pub record Looking (g L : List ℕ) (o : ℕ) (at : Spot) : Type 0 where
  pub record_room : o + 5 + words_for (places g) ≤ length L
  pub begins : get_or L o 0 < places g
  pub node : at.node < nodes g
  pub protocol : at.protocol < protocols g
  pub some_left : 0 < at.left
  pub few_left : at.left ≤ 4096

module _ (g W C L : List ℕ) (o : ℕ) where
  -- the better of b and the steps of a kind that lead on in that level
  pub record ByLevel (at : Spot) (kind : Kind) (hidden : ℕ) (b r : Step) : Type 0 where
    pub E : List Exit
    pub lists : Lists (Leaves (places g) W C L o) E
    pub better : Better (Any (ByFun g W C E at kind hidden) (funs g)) b r

  -- the exits of a tunnel over x, opened from that level, are listed in O
  pub record Outward (x : ℕ) (O : List Exit) : Type 0 where
    pub E : List Exit
    pub lists : Lists (Leaves (places g) W C L o) E
    pub gathered : Gathered (Unwraps g W C E x) (funs g) O
    pub ranged : Ranged (places g) O

  -- the better of b and the wraps that open a tunnel from it; the tunnel's exits are listed if there is a wrap at all
  pub record ByTunnel (at : Spot) (b r : Step) : Type 0 where
    pub O : List Exit
    pub outward : (j : ℕ) → j < funs g → Serves g at.node 1 at.protocol 0 j → Outward at.protocol O
    pub better : Better (Any (ByFun g W C O at Wrap 0) (funs g)) b r
