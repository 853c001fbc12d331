-- Which records a walk over those of a node yields: just those that a scan of all records finds. Assumes nothing: these are definitions.
use Rattle.std.specs.Prelude.{ℕ, ◌<◌, ◌≤◌, ◌≡◌, Bool, true, false, ◌&&◌, List, eqb, Option, Some, None}
use Rattle.network.specs.Network.{from, node, kind, x_of}

-- link i leaves node v
unfoldable pub leaves : (g : List ℕ) (v i : ℕ) → Bool
leaves g v i = eqb (from g i) v

-- function j is one of node v, of kind k, for the protocol x
unfoldable pub suits : (g : List ℕ) (v k x j : ℕ) → Bool
suits g v k x j = eqb (node g j) v && (eqb (kind g j) k && eqb (x_of g j) x)

-- function j is one of node v
unfoldable pub stands : (g : List ℕ) (v j : ℕ) → Bool
stands g v j = eqb (node g j) v

-- of n records those of which the test holds stand together, from a up to b
pub record Stretch (test : ℕ → Bool) (n a b : ℕ) : Type 0 where
  pub order : a ≤ b
  pub within : b ≤ n
  pub inside : (k : ℕ) → a ≤ k → k < b → test k ≡ true
  pub before : (k : ℕ) → k < a → test k ≡ false
  pub behind : (k : ℕ) → b ≤ k → k < n → test k ≡ false

-- r is the first of the numbers from i on of which the test holds, or their end n
pub record Next (test : ℕ → Bool) (n i r : ℕ) : Type 0 where
  pub from_here : i ≤ r
  pub at_most : r ≤ n
  pub none_before : (k : ℕ) → i ≤ k → k < r → test k ≡ false
  pub holds : r < n → test r ≡ true

-- the first of the numbers below n of which the test holds, or none where it holds of none
abbrev pub First : (test : ℕ → Bool) (n : ℕ) → Option ℕ → Type 0
First test n None = Next test n 0 n
First test n (Some i) = (i < n) × Next test n 0 i
