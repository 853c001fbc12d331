-- What a writer promises of its room. Assumes nothing: these are definitions.
use Rattle.std.specs.Prelude.{◌≡◌, List, ℕ, ◌+◌, ◌≤◌, length}
use Rattle.paper.specs.Rooms.{laid}
use Rattle.digits.specs.declared.write.Writer.{Writer}

-- the room d has become e: the text s is laid over it from i on and ends at j
pub record Put (d e : List ℕ) (i j : ℕ) (s : List ℕ) : Type 0 where
  pub next : j ≡ i + length s
  pub text : e ≡ laid d i s

-- of the text s, which goes over d from i on, t is left, which goes over e from j on
pub record Left (d : List ℕ) (i : ℕ) (s : List ℕ) (e : List ℕ) (j : ℕ) (t : List ℕ) : Type 0 where
  pub ends : j + length t ≡ i + length s
  pub same : laid e j t ≡ laid d i s
  pub size : length e ≡ length d

-- the writer's room has place for the text s
abbrev pub Holds : Writer → List ℕ → Type 0
Holds w s = w.at + length s ≤ length w.out.now

-- the writer w is now v, which writes into the same room
abbrev pub SameRoom : Writer → Writer → Type 0
SameRoom w v = v.out.ghost_name ≡ w.out.ghost_name

-- the writer w is now v: into the same room it wrote the text s
pub record Wrote (w v : Writer) (s : List ℕ) : Type 0 where
  pub room : SameRoom w v
  pub size : length v.out.now ≡ length w.out.now
  pub put : Put w.out.now v.out.now w.at v.at s

-- the writer w is now v: of the text s, which goes into the same room, t is left to write
pub record Leaves (w v : Writer) (s t : List ℕ) : Type 0 where
  pub room : SameRoom w v
  pub left : Left w.out.now w.at s v.out.now v.at t
