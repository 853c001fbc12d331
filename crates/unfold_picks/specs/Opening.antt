-- A tunnel's record, as it is written: the exits over which what is left is met are marked. Assumes nothing: these are definitions.
use Prim.Native.Nat.{ℕ, suc, ◌+◌, ◌*◌, ◌<◌, ◌≤◌}
use Rattle.std.specs.Prelude.{◌≡◌, ◌⊎◌, ◌↔◌, T, get_or}
use mathlib.Core.List.{List}
use Rattle.std.proofs.Math.Option.{some}
use Rattle.std.proofs.Math.ListN.{length}
use Rattle.paper.specs.Net.{wrap, key}
use Rattle.paper.specs.declared.place.Place.{Place}
use Rattle.network.specs.Network.{nodes, protocols, places, place_in, hop_in}
use Rattle.unfold_frames.specs.Frames.{words_for, Headed, mark}
use Rattle.unfold_exits.specs.Cost.{cost, told_at}
use Rattle.unfold_exits.specs.Lists.{exit_at, Ranged}
use Rattle.unfold_exits.specs.declared.lists.Exit.{Exit}
use Rattle.unfold_tries.specs.declared.trial.Spot.{Spot}
use Rattle.unfold_picks.specs.Contract.{Stands}

-- in the record that begins at entry o the places of P have been marked besides; the room before the marks is the same
pub record Adds (words o : ℕ) (P : ℕ → Type 0) (L L' : List ℕ) : Type 0 where
  pub same : (i : ℕ) → i < o + 5 → get_or L' i 0 ≡ get_or L i 0
  pub old : (e : ℕ) → T (mark words L o e) → T (mark words L' o e)
  pub new : (e : ℕ) → P e → T (mark words L' o e)
  pub only : (e : ℕ) → T (mark words L' o e) → T (mark words L o e) ⊎ P e

-- the exit is the place e, and the way over it costs k
pub record Meets (W C : List ℕ) (out : Exit) (row k e : ℕ) : Type 0 where
  pub is : out.place ≡ e
  pub met : told_at W C (row + out.place) + out.cost ≡ k

-- the same of one of the first m of a list
pub record MeetsOne (W C : List ℕ) (O : List Exit) (row k m e : ℕ) : Type 0 where
  pub at : ℕ
  pub below : at < m
  pub is : Meets W C (exit_at O at) row k e

-- what marking them asks
pub record Marking (size : ℕ) (O : List Exit) (row o : ℕ) (L : List ℕ) : Type 0 where
  pub ranged : Ranged size O
  pub row_room : row + size ≤ size * size
  pub record_room : o + 5 + words_for size ≤ length L

-- what writing the record of a tunnel over x that begins at `to` asks, with its exits listed in O
pub record Writing (g : List ℕ) (O : List Exit) (L : List ℕ) (o x : ℕ) (to : Spot) : Type 0 where
  pub ranged : Ranged (places g) O
  pub hidden : x < 65536
  pub node : to.node < nodes g
  pub protocol : to.protocol < protocols g
  pub room : o + 5 + words_for (places g) ≤ length L

module _ (g W C : List ℕ) where
  -- from where the unfolding stands a wrap leads to `to`, and there is room for the tunnel's record
  pub record Opening (end : Place) (L : List ℕ) (k : ℕ) (at to : Spot) : Type 0 where
    pub stands : Stands g W C end L k at
    pub link_number : ℕ
    pub spent : ℕ
    pub wraps : hop_in g (key link_number wrap at.protocol to.protocol) at.node ≡ some (to.node, spent)
    pub weighs : at.weight ≡ spent + to.weight
    pub counts : at.left ≡ suc to.left
    pub room : (words_for (places g) + 5) * suc (suc k) ≤ length L

  -- it is written at entry o: its numbers, and a mark for each exit over which what is left is met; the room before it is the same
  pub record Written (O : List Exit) (L L' : List ℕ) (o x : ℕ) (to : Spot) : Type 0 where
    pub headed : Headed L' o (place_in g to.node to.protocol) x to.weight to.left
    pub same : (i : ℕ) → i < o → get_or L' i 0 ≡ get_or L i 0
    pub marks : (e : ℕ) → T (mark (words_for (places g)) L' o e) ↔ MeetsOne W C O (place_in g to.node to.protocol * places g) (cost to.weight to.left) (length O) e
