-- Steps under trial: of the functions of the present node and the links that leave it, all that pass are tried, and the least key is kept.
-- g is the network, W and C the weight and count rooms, E the list of the exits. Assumes nothing: these are definitions.
use Rattle.std.specs.Prelude.{ℕ, ◌+◌, ◌-◌, ◌*◌, ◌<◌, ◌≤◌, ◌≡◌, cond, List, [], ◌∷◌, ◌⊎◌, eqb}
use Rattle.paper.specs.Net.{code}
use Rattle.paper.specs.Route.{Lex}
use Rattle.network_records.specs.Kinds.{named}
use Rattle.network_records.specs.declared.kind.Kind.{Kind}
use Rattle.network.specs.Network.{nodes, protocols, links, places, number, from, to, toll, node, kind, x_of, y_of, fee, place_in}
use Rattle.unfold_exits.specs.Cost.{cost}
use Rattle.unfold_exits.specs.Lists.{Ranged, finishing}
use Rattle.unfold_exits.specs.declared.lists.Exit.{Exit}
use Rattle.unfold_tries.specs.declared.trial.Spot.{Spot}
use Rattle.unfold_tries.specs.declared.trial.Step.{Step}
use Rattle.unfold_tries.specs.declared.trial.Use.{Use}

-- r is b or one of P, and neither b nor any of P comes before it
pub record Better (P : Step → Type 0) (b r : Step) : Type 0 where
  pub one_of : (r ≡ b) ⊎ P r
  pub keeps : Lex r.key b.key
  pub beats : (s : Step) → P s → Lex r.key s.key

-- one that the first m bring
pub record Any (P : ℕ → Step → Type 0) (m : ℕ) (s : Step) : Type 0 where
  pub at : ℕ
  pub below : at < m
  pub is : P at s

-- ## One function over one link

-- the step from a spot by a function in use over link i
abbrev pub step_over : (g : List ℕ) (at : Spot) (f : Use) (i : ℕ) → Step
step_over g at f i = record {
  key = number g i ∷ code (named f.kind) ∷ f.x ∷ f.y ∷ [];
  to = record { node = to g i; protocol = f.onto; weight = at.weight - (f.weight + toll g i); left = at.left - 1 };
}

-- what it costs, with finishing from where it leads over the best of the exits
unfoldable pub way_over : (g W C : List ℕ) (E : List Exit) (f : Use) (i : ℕ) → ℕ
way_over g W C E f i = finishing W C E (place_in g (to g i) f.onto * places g) + cost (f.weight + toll g i) 1

-- the step s, which passes if that costs just what is left at the spot
pub record OverLink (g W C : List ℕ) (E : List Exit) (at : Spot) (f : Use) (i : ℕ) (s : Step) : Type 0 where
  pub leaves : from g i ≡ at.node
  pub pays : way_over g W C E f i ≡ cost at.weight at.left
  pub is : s ≡ step_over g at f i

-- what trying asks of the function in use, and of all else
pub record Usable (g : List ℕ) (f : Use) : Type 0 where
  pub light : f.weight ≤ 1000000000
  pub protocol : f.onto < protocols g

pub record Trying (g : List ℕ) (E : List Exit) (at : Spot) : Type 0 where
  pub ranged : Ranged (places g) E
  pub inside : at.node < nodes g
  pub some_left : 0 < at.left
  pub few_left : at.left ≤ 4096

-- ## The functions that serve

-- the protocol that function j of kind k asks for on top, and the one that it leaves there: an unwrap asks for y, and leaves x
unfoldable pub top_of : (g : List ℕ) (k j : ℕ) → ℕ
top_of g k j = cond (eqb k 2) (y_of g j) (x_of g j)

unfoldable pub next_of : (g : List ℕ) (k j : ℕ) → ℕ
next_of g k j = cond (eqb k 2) (x_of g j) (y_of g j)

-- the x of the functions of kind k that are for the protocol x on top: an unwrap's is the one hidden just beneath
unfoldable pub sought_by : (k x h : ℕ) → ℕ
sought_by k x h = cond (eqb k 2) h x

-- function j is one of node v, of kind k, for x on top; and an unwrap, for h hidden just beneath
pub record Serves (g : List ℕ) (v k x h j : ℕ) : Type 0 where
  pub at_node : node g j ≡ v
  pub of_kind : kind g j ≡ k
  pub on_top : top_of g k j ≡ x
  pub beneath : k ≡ 2 → x_of g j ≡ h

-- function j, of kind k, as it is used
abbrev pub use_of : (g : List ℕ) (k : Kind) (j : ℕ) → Use
use_of g k j = record { kind = k; x = x_of g j; y = y_of g j; weight = fee g j; onto = next_of g (code (named k)) j }

-- a step of function j that passes
pub record ByFun (g W C : List ℕ) (E : List Exit) (at : Spot) (k : Kind) (h j : ℕ) (s : Step) : Type 0 where
  pub serving : Serves g at.node (code (named k)) at.protocol h j
  pub over : Any (OverLink g W C E at (use_of g k j)) (links g) s
