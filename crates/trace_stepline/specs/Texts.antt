-- A step line in two parts, each a run of pieces as they are written. Assumes nothing: these are definitions.
use Rattle.std.specs.Prelude.{ℕ, zero, suc, ◌<◌, ◌≤◌, List, [], ◌∷◌, ◌++◌, length}
use Rattle.paper.specs.Net.{Key, key}
use Rattle.paper.specs.Route.{At, at}
use Rattle.paper.specs.Text.{decimal, step_word}
use Rattle.paper.specs.Normal.{kind_word}
use Rattle.paper.specs.Trace.{dotted}
use Rattle.trace_replay.specs.declared.packet.Packet.{Packet}

-- one piece after another
unfoldable pub joined : List (List ℕ) → List ℕ
joined [] = []
joined (t ∷ ts) = t ++ joined ts

-- what follows a line's word: its fields, each with a tab before it, and the LF
unfoldable pub pieces : List (List ℕ) → List (List ℕ)
pieces [] = (10 ∷ []) ∷ []
pieces (f ∷ fs) = (9 ∷ f) ∷ pieces fs

-- the word and the step's key
unfoldable pub key_text : Key → List ℕ
key_text (key l c x y) = joined (step_word ∷ (9 ∷ decimal l) ∷ (9 ∷ kind_word c) ∷ (9 ∷ decimal x) ∷ (9 ∷ decimal y) ∷ [])

-- the node reached, the stack after it, and the LF
unfoldable pub end_text : At → List ℕ
end_text (at v s w) = joined ((9 ∷ decimal v) ∷ (9 ∷ dotted s) ∷ (10 ∷ []) ∷ [])

-- the protocol n of the cell h: all but the lowest have a dot before them
unfoldable pub cell_text : ℕ → ℕ → List ℕ
cell_text zero n = decimal n
cell_text (suc h) n = 46 ∷ decimal n

-- a packet whose node is one of 256 and whose stack the cells hold
pub record Shown (p : Packet) (cs : List ℕ) : Type 0 where
  pub node : p.node < 256
  pub held : p.height ≤ length cs
