-- What is left of a route to (D, b) from a place over a hidden stack (the nearest hidden protocol first): what it costs, and which comes first.
-- Assumes nothing.
use Rattle.std.specs.Prelude.{ℕ, suc, ◌+◌, ◌<◌, ◌≤◌, ◌≡◌, List, [], ◌∷◌, ◌++◌, ◌⊎◌, length}
use Rattle.std.proofs.Math.Option.{Option, some}
use Rattle.paper.specs.Net.{conv, wrap, unwrap, Key, key}
use Rattle.paper.specs.Route.{Lex, flat}
use Rattle.laws.specs.Level.{Level, keys, weight}

-- weight first, then steps
abbrev pub AtMost : (w n v m : ℕ) → Type 0
AtMost w n v m = (w < v) ⊎ ((w ≡ v) × (n ≤ m))

module _ (hop : Key → ℕ → Option (ℕ × ℕ)) where
  -- one step, by a key and of a weight, from a place over a hidden stack to another
  pub data Step : ℕ → ℕ → List ℕ → Key → ℕ → ℕ → ℕ → List ℕ → Type 0 where
    by_conv : {v x t z : ℕ} {H : List ℕ} (l c : ℕ) → hop (key l conv x z) v ≡ some (t, c) → Step v x H (key l conv x z) c t z H
    by_wrap : {v x t z : ℕ} {H : List ℕ} (l c : ℕ) → hop (key l wrap x z) v ≡ some (t, c) → Step v x H (key l wrap x z) c t z (x ∷ H)
    by_unwrap : {v x t z : ℕ} {H : List ℕ} (l c : ℕ) → hop (key l unwrap z x) v ≡ some (t, c) → Step v x (z ∷ H) (key l unwrap z x) c t z H

  module _ (D b : ℕ) where
    -- from where a level ends: for each hidden protocol the unwrap that lays it bare, then a level
    pub data Exit : ℕ → ℕ → List ℕ → Type 0 where
      end : Exit D b []
      out : {u y z t r q : ℕ} {H : List ℕ} (m c : ℕ) → hop (key m unwrap z y) u ≡ some (t, c) → Level hop t z r q → Exit r q H → Exit u y (z ∷ H)

    unfoldable pub trail : {u y : ℕ} {H : List ℕ} → Exit u y H → List Key
    trail end = []
    trail {y = y} (out {z = z} m c h d o) = key m unwrap z y ∷ (keys hop d ++ trail o)

    unfoldable pub toll : {u y : ℕ} {H : List ℕ} → Exit u y H → ℕ
    toll end = 0
    toll (out m c h d o) = c + (weight hop d + toll o)

    -- the rest of a route: a level, and what comes after it
    pub data Rest : ℕ → ℕ → List ℕ → Type 0 where
      rest : {v x u y : ℕ} {H : List ℕ} → Level hop v x u y → Exit u y H → Rest v x H

    unfoldable pub path : {v x : ℕ} {H : List ℕ} → Rest v x H → List Key
    path (rest d o) = keys hop d ++ trail o

    unfoldable pub price : {v x : ℕ} {H : List ℕ} → Rest v x H → ℕ
    price (rest d o) = weight hop d + toll o

    -- some rest weighs w and has n steps
    pub record Goes (v x : ℕ) (H : List ℕ) (w n : ℕ) : Type 0 where
      pub by : Rest v x H
      pub weighs : price by ≡ w
      pub counts : length (path by) ≡ n

    -- no rest costs less
    pub record Least (v x : ℕ) (H : List ℕ) (w n : ℕ) : Type 0 where
      pub least : (r : Rest v x H) → AtMost w n (price r) (length (path r))

    -- of the rests that weigh w and have n steps, the one that comes first
    pub record First (v x : ℕ) (H : List ℕ) (w n : ℕ) (ks : List Key) : Type 0 where
      pub by : Rest v x H
      pub is : path by ≡ ks
      pub weighs : price by ≡ w
      pub counts : length ks ≡ n
      pub first : (r : Rest v x H) → price r ≡ w → length (path r) ≡ n → Lex (flat ks) (flat (path r))

    -- the steps ks begin the first rest, whatever the first rest behind them
    pub record Leads (v x : ℕ) (H : List ℕ) (w n : ℕ) (ks : List Key) (t z : ℕ) (G : List ℕ) (u m : ℕ) : Type 0 where
      pub counts : length ks + m ≡ n
      pub on : (js : List Key) → First t z G u m js → First v x H w n (ks ++ js)

    -- a step after which there is a rest of just what is left
    pub record Fits (v x : ℕ) (H : List ℕ) (w n : ℕ) (k : Key) (t z : ℕ) (G : List ℕ) (u m : ℕ) : Type 0 where
      pub cost : ℕ
      pub goes_by : Step v x H k cost t z G
      pub weighs : w ≡ cost + u
      pub counts : n ≡ suc m
      pub goes : Goes t z G u m

    -- the one of least key
    pub record Chosen (v x : ℕ) (H : List ℕ) (w n : ℕ) (k : Key) (t z : ℕ) (G : List ℕ) (u m : ℕ) : Type 0 where
      pub fits : Fits v x H w n k t z G u m
      pub least : (j : Key) (t' z' : ℕ) (G' : List ℕ) (u' m' : ℕ) → Fits v x H w n j t' z' G' u' m' → Lex (flat (k ∷ [])) (flat (j ∷ []))
