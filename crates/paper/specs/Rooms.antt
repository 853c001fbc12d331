-- Rooms that the caller lends: what an enquiry writes into them, and what the tables say of a pair of places.
-- Assumes nothing: these are definitions.
use Rattle.std.specs.Prelude.{ℕ, ◌+◌, ◌*◌, ◌<◌, ◌≤◌, ◌≡◌, List, length, get_or, replicate}
use Rattle.std.proofs.Math.Option.{Option}
use Rattle.std.proofs.lemmas.List.Edits.{sets}
use Rattle.paper.specs.Limits.{heaviest, longest, over_mark, never_mark, long_mark}
use Rattle.paper.specs.Net.{Key, place}
use Rattle.paper.specs.Route.{Feasible}

-- the room d with s laid over it from entry i on; every other entry is as it was
unfoldable pub laid : List ℕ → ℕ → List ℕ → List ℕ
laid d i s = sets d i s

module _ (hop : Key → ℕ → Option (ℕ × ℕ)) (S a D b : ℕ) where
  -- no feasible route
  pub record NoRoute : Type 0 where
    pub none_feasible : (ks : List Key) (w : ℕ) → Feasible hop S a D b ks w → ⊥

  -- a feasible route exists, none weighs 4,000,000,000 or less
  pub record AllHeavy : Type 0 where
    pub some_feasible : (ks : List Key) × (w : ℕ) × Feasible hop S a D b ks w
    pub heavy : (ks : List Key) (w : ℕ) → Feasible hop S a D b ks w → heaviest < w

  -- w is the least weight of a feasible route, within the limit
  pub record LeastWeight (w : ℕ) : Type 0 where
    pub limit : w ≤ heaviest
    pub of_route : (ks : List Key) × Feasible hop S a D b ks w
    pub least : (ks : List Key) (u : ℕ) → Feasible hop S a D b ks u → w ≤ u

  -- s is the fewest steps at the weight w
  pub record FewestSteps (w s : ℕ) : Type 0 where
    pub of_steps : (ks : List Key) × Feasible hop S a D b ks w × (length ks ≡ s)
    pub fewest : (ks : List Key) → Feasible hop S a D b ks w → s ≤ length ks

  -- every route of weight w has more than m steps
  pub record MoreSteps (w m : ℕ) : Type 0 where
    pub long : (ks : List Key) → Feasible hop S a D b ks w → m < length ks

  -- the weight room's entry and the count room's entry for the pair
  pub data Entries : ℕ → ℕ → Type 0 where
    least : {w s : ℕ} → LeastWeight w → FewestSteps w s → s ≤ longest → Entries w s
    long : {w : ℕ} → LeastWeight w → MoreSteps w longest → Entries w long_mark
    heavy : AllHeavy → Entries over_mark 0
    nowhere : NoRoute → Entries never_mark 0

-- the weight, count and choice rooms W, C, X have become W', C', X', for N = n × p places
pub record Tabled (hop : Key → ℕ → Option (ℕ × ℕ)) (n p : ℕ) (W C X W' C' X' : List ℕ) : Type 0 where
  pub pairs : (S a D b : ℕ) → S < n → a < p → D < n → b < p
      → Entries hop S a D b (get_or W' (place p S a * (n * p) + place p D b) 0) (get_or C' (place p S a * (n * p) + place p D b) 0)
  pub later_weights : (i : ℕ) → n * p * (n * p) ≤ i → get_or W' i 0 ≡ get_or W i 0
  pub later_counts : (i : ℕ) → n * p * (n * p) ≤ i → get_or C' i 0 ≡ get_or C i 0
  pub choices : X' ≡ laid X 0 (replicate (8 * (n * p * (n * p))) 0)
  pub weights_length : length W' ≡ length W
  pub counts_length : length C' ≡ length C
