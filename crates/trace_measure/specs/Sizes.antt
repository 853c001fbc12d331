-- How long the lines of a trace are, from the key, the node reached and the size of the stack's text alone. Assumes nothing: these are definitions.
use Rattle.std.specs.Prelude.{ℕ, ◌+◌, ◌≤◌, ◌≡◌, List, ◌∷◌, length}
use Rattle.paper.specs.Net.{conv, wrap, unwrap, Key, key}
use Rattle.paper.specs.Text.{decimal}
use Rattle.paper.specs.Normal.{kind_word}
use Rattle.paper.specs.Trace.{dotted}
use Rattle.trace_replay.specs.Packet.{after, Underway}
use Rattle.trace_measure.specs.declared.Tally.{Tally}

-- of the stack's text, the bytes that a step's function takes away, and those that it adds
unfoldable pub lost : Key → ℕ
lost (key l conv x y) = length (decimal x)
lost (key l wrap x y) = 0
lost (key l unwrap x y) = 1 + length (decimal y)

unfoldable pub gained : Key → ℕ
gained (key l conv x y) = length (decimal y)
gained (key l wrap x y) = 1 + length (decimal y)
gained (key l unwrap x y) = 0

-- the bytes of a step line: its node is v, its stack's text has m bytes
unfoldable pub line_size : Key → ℕ → ℕ → ℕ
line_size (key l k x y) v m = 11 + length (decimal l) + length (kind_word k) + length (decimal x) + length (decimal y) + length (decimal v) + m

-- no stack's text is longer than this, no step line, nor all step lines together
abbrev pub most_dots : ℕ
most_dots = 43029

abbrev pub most_line : ℕ
most_line = 43200

abbrev pub most_lines : ℕ
most_lines = 268435456

-- the step k is the next of a route under way, with a stack whose text is as long as t says
pub record Countable (g : List ℕ) (k : Key) (t : Tally) : Type 0 where
  pub rest : List Key
  pub stack : List ℕ
  pub way : Underway g (k ∷ rest) t.packet stack
  pub dots : t.dots ≡ length (dotted stack)
  pub few : t.size ≤ most_lines

-- r is t with the step k counted in
pub record Counted (g : List ℕ) (k : Key) (t r : Tally) : Type 0 where
  pub packet : r.packet ≡ after g k t.packet
  pub dots : r.dots + lost k ≡ t.dots + gained k
  pub size : r.size ≡ t.size + line_size k r.packet.node r.dots
