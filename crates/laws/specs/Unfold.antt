-- The records that the unfolding of a best route keeps, one for each level that is open: what they say, and the tests made with them.
-- t is the table of entries, for places of nodes below N and protocols below P; the enquiry is S, a, D, b; its entry is W, C.
-- Assumes nothing.
use Rattle.std.specs.Prelude.{ℕ, suc, ◌+◌, ◌<◌, ◌≤◌, ◌≡◌, Bool, ◌↔◌, T, length}
use mathlib.Core.List.{List, [], ◌∷◌}
use Rattle.std.proofs.Math.Option.{Option, some}
use Rattle.paper.specs.Net.{conv, wrap, unwrap, Key, key}
use Rattle.paper.specs.Route.{Lex, flat}
use Rattle.laws.specs.Level.{Level, keys, weight}
use Rattle.laws.specs.Value.{Value, within, Entry}
use Rattle.laws.specs.Rest.{Exit, trail, toll, Goes, Least, First, Leads}

-- a level's record: the place where it begins, the protocol hidden just beneath, what is left at the beginning, and which places are its tight exits
pub record Frame : Type 0 where
  pub node : ℕ
  pub protocol : ℕ
  pub hidden : ℕ
  pub weighs : ℕ
  pub counts : ℕ
  pub exits : ℕ → ℕ → Bool

abbrev pub frame : (v x h w n : ℕ) → (ℕ → ℕ → Bool) → Frame
frame v x h w n E = record { node = v; protocol = x; hidden = h; weighs = w; counts = n; exits = E }

-- the protocols hidden beneath the inmost level, the nearest first
unfoldable pub hides : Frame → List Frame → List ℕ
hides f [] = []
hides f (g ∷ gs) = f.hidden ∷ hides g gs

module _ (hop : Key → ℕ → Option (ℕ × ℕ)) (N P : ℕ) (t : ℕ → ℕ → ℕ → ℕ → Value) where
  pub record Exact : Type 0 where
    pub entry : (v x u y : ℕ) → v < N → x < P → u < N → y < P → Entry hop v x u y (t v x u y)

  -- a level from (v, x), with w, n left, to (u, y), with w', n' left
  pub record Way (v x w n u y w' n' : ℕ) : Type 0 where
    pub by : Level hop v x u y
    pub weighs : weight hop by + w' ≡ w
    pub counts : length (keys hop by) + n' ≡ n

  -- the place (u, y) is marked, and the way to it from the level's beginning costs more than the way from (r, q) by what was left there more than is left here, w, n
  pub record Ok (f : Frame) (r q w n : ℕ) : Type 0 where
    pub u : ℕ
    pub y : ℕ
    pub a : ℕ
    pub s : ℕ
    pub a' : ℕ
    pub s' : ℕ
    pub node : u < N
    pub protocol : y < P
    pub marked : T (f.exits u y)
    pub from_start : t f.node f.protocol u y ≡ within a s
    pub from_here : t r q u y ≡ within a' s'
    pub weighs : a + w ≡ f.weighs + a'
    pub counts : s + n ≡ f.counts + s'

  -- (u, y) is an exit of the tunnel over q that begins at (r, z) with w, n left, opened from the level of f
  pub record Opens (f : Frame) (q r z w n u y : ℕ) : Type 0 where
    pub m : ℕ
    pub to : ℕ
    pub c : ℕ
    pub a : ℕ
    pub s : ℕ
    pub w' : ℕ
    pub n' : ℕ
    pub closes : hop (key m unwrap q y) u ≡ some (to, c)
    pub through : t r z u y ≡ within a s
    pub weighs : a + (c + w') ≡ w
    pub counts : s + suc n' ≡ n
    pub ok : Ok f to q w' n'

  -- some place is
  pub record Opened (f : Frame) (q r z w n : ℕ) : Type 0 where
    pub u : ℕ
    pub y : ℕ
    pub node : u < N
    pub protocol : y < P
    pub opens : Opens f q r z w n u y

  -- the step k from (v, x), with w, n left, in the level of f, passes its test: it leads to (r, z), with u, m left
  pub data Passes : Frame → List Frame → ℕ → ℕ → ℕ → ℕ → Key → ℕ → ℕ → ℕ → ℕ → Type 0 where
    conv_passes : {f : Frame} {fs : List Frame} {v x w n r z u m : ℕ} (l c : ℕ) → hop (key l conv x z) v ≡ some (r, c) → w ≡ c + u → n ≡ suc m → Ok f r z u m
        → Passes f fs v x w n (key l conv x z) r z u m
    wrap_passes : {f : Frame} {fs : List Frame} {v x w n r z u m : ℕ} (l c : ℕ) → hop (key l wrap x z) v ≡ some (r, c) → w ≡ c + u → n ≡ suc m → Opened f x r z u m
        → Passes f fs v x w n (key l wrap x z) r z u m
    unwrap_passes : {f g : Frame} {fs : List Frame} {v x w n r z u m : ℕ} (l c : ℕ) → f.hidden ≡ z → hop (key l unwrap z x) v ≡ some (r, c) → w ≡ c + u → n ≡ suc m → Ok g r z u m
        → Passes f (g ∷ fs) v x w n (key l unwrap z x) r z u m

  -- the one of least key
  pub record Picked (f : Frame) (fs : List Frame) (v x w n : ℕ) (k : Key) (r z u m : ℕ) : Type 0 where
    pub passes : Passes f fs v x w n k r z u m
    pub least : (j : Key) (r' z' u' m' : ℕ) → Passes f fs v x w n j r' z' u' m' → Lex (flat (k ∷ [])) (flat (j ∷ []))

  module _ (D b : ℕ) where
    -- a place with what is left there, which is the least
    pub record Begun (v x : ℕ) (H : List ℕ) (w n : ℕ) : Type 0 where
      pub node : v < N
      pub protocol : x < P
      pub light : w ≤ 4000000000
      pub short : n ≤ 4096
      pub least : Least hop D b v x H w n

    -- the cheapest way from (v, x) to (u, y), and some way out from there, together cost w, n
    pub record Tight (v x : ℕ) (H : List ℕ) (w n u y : ℕ) : Type 0 where
      pub a : ℕ
      pub s : ℕ
      pub is : t v x u y ≡ within a s
      pub exit : Exit hop D b u y H
      pub weighs : a + toll hop D b exit ≡ w
      pub counts : s + length (trail hop D b exit) ≡ n

    pub record Marks (f : Frame) (H : List ℕ) : Type 0 where
      pub says : (u y : ℕ) → u < N → y < P → T (f.exits u y) ↔ Tight f.node f.protocol H f.weighs f.counts u y

    -- the open levels, the inmost first, and the place (v, x) reached in the inmost, with w, n left
    pub data Nest : Frame → List Frame → ℕ → ℕ → ℕ → ℕ → Type 0 where
      base : {f : Frame} {v x w n : ℕ} → Begun f.node f.protocol [] f.weighs f.counts → Marks f [] → Way f.node f.protocol f.weighs f.counts v x w n
          → Nest f [] v x w n
      over : {f g : Frame} {fs : List Frame} {r v x w n w₁ n₁ : ℕ} (l c : ℕ) → Nest g fs r f.hidden w₁ n₁ → hop (key l wrap f.hidden f.protocol) r ≡ some (f.node, c)
          → w₁ ≡ c + f.weighs → n₁ ≡ suc f.counts → Marks f (f.hidden ∷ hides g fs) → Way f.node f.protocol f.weighs f.counts v x w n → Nest f (g ∷ fs) v x w n

    -- where the unfolding stands: what it has reached, and that there is a rest of just what is left
    pub record State (f : Frame) (fs : List Frame) (v x w n : ℕ) : Type 0 where
      pub nest : Nest f fs v x w n
      pub goes : Goes hop D b v x (hides f fs) w n

    -- the steps ks have been written, and where the unfolding stands behind them
    pub record Moved (f : Frame) (fs : List Frame) (v x w n : ℕ) (ks : List Key) (g : Frame) (gs : List Frame) (r z u m : ℕ) : Type 0 where
      pub leads : Leads hop D b v x (hides f fs) w n ks r z (hides g gs) u m
      pub state : State g gs r z u m

    -- what `level`, called in a state f, fs, v, x, w, n, ensures of the steps ks that it wrote and of the node r and the rest u, m that it returns:
    -- at the bottom the whole rest is written, and is the first; else the level is closed, and the one below it goes on at r, with what was hidden
    pub data Levelled : (f : Frame) (fs : List Frame) (v x w n : ℕ) (ks : List Key) (r u m : ℕ) → Type 0 where
      bottom : {f : Frame} {v x w n r u m : ℕ} {ks : List Key} → First hop D b v x [] w n ks → Levelled f [] v x w n ks r u m
      closed : {f g : Frame} {gs : List Frame} {v x w n r u m : ℕ} {ks : List Key} → Moved f (g ∷ gs) v x w n ks g gs r f.hidden u m → Levelled f (g ∷ gs) v x w n ks r u m

    -- what `tunnel` ensures: a wrap, an inner level and its unwrap are written, and the level goes on at r, with the protocol that it had
    abbrev pub Tunnelled : (f : Frame) (fs : List Frame) (v x w n : ℕ) (ks : List Key) (r u m : ℕ) → Type 0
    Tunnelled f fs v x w n ks r u m = Moved f fs v x w n ks f fs r x u m
