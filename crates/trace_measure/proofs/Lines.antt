-- The lines of a trace one after another: their sizes, and a bound. Assumes nothing.
use Prim.Native.Nat.{ℕ, ◌+◌, ◌*◌, ◌≤◌}
use mathlib.Core.Path.{◌≡◌, ap}
use mathlib.Core.List.{List, [], ◌∷◌, ◌++◌}
use mathlib.Core.Option.{Option, some}
use native.Mathlib.Omega.{arith}
use lib.ListN.{length, length-append}
use Rattle.paper.specs.Net.{Kind, conv, wrap, unwrap, Key, key}
use Rattle.paper.specs.Route.{At, at, step}
use Rattle.paper.specs.Text.{decimal, tabbed, written, step_word, path_word, conv_word, wrap_word, unwrap_word}
use Rattle.paper.specs.Normal.{kind_word}
use Rattle.paper.specs.Trace.{dotted, step_line, following, step_lines, trace}
use Rattle.laws.specs.Peak.{height}
use Rattle.trace_stack.specs.Items.{highest, acted}
use Rattle.network.specs.Network.{hop_in}
use Rattle.network.specs.Arranged.{Arranged}
use Rattle.trace_replay.specs.declared.packet.Packet.{Packet}
use Rattle.trace_replay.specs.Packet.{after, Underway}
use Rattle.trace_replay.proofs.Ways.{going, on, held}
use Rattle.trace_measure.specs.Sizes.{line_size, most_line}
use Rattle.digits.proofs.Digits.{decimal_most}
use Rattle.trace_measure.proofs.Dots.{dots_most}

-- ## One line

pub line_size_lem : (k : Key) (v : ℕ) (s : List ℕ) (w : ℕ) → length (step_line k (at v s w)) ≡ line_size k v (length (dotted s))
unfolding step_line written tabbed step_word line_size
line_size_lem (key l c x y) v s w = simp length-append (omega arith)

pub word_most : (k : Kind) → length (kind_word k) ≤ 6
unfolding kind_word conv_word wrap_word unwrap_word
word_most conv = omega arith
word_most wrap = omega arith
word_most unwrap = omega arith

line_most : (k : Key) (d : At) → height d ≤ highest → length (step_line k d) ≤ most_line
unfolding line_size height
line_most (key l c x y) (at v s w) h =
    omega (arith, line_size_lem (key l c x y) v s w, decimal_most l, word_most c, decimal_most x, decimal_most y, decimal_most v, dots_most s)

-- ## All lines

pub lines_next : (hop : Key → ℕ → Option (ℕ × ℕ)) (k : Key) (ks : List Key) (c d : At) → step hop k c ≡ some d → step_lines hop (k ∷ ks) c ≡ step_line k d ++ step_lines hop ks d
unfolding step_lines following
lines_next hop k ks c d e = rw e

pub lines_most : (g : List ℕ) (o : Arranged g) (ks : List Key) (p : Packet) (s : List ℕ) → Underway g ks p s → length (step_lines (hop_in g) ks (at p.node s p.spent)) ≤ most_line * length ks
unfolding step_lines height
lines_most g o [] p s way = omega arith
lines_most g o (key l c x y ∷ ks) p s way =
    let k = key l c x y in
    let r = after g k p in
    let next = on g o l c x y ks p s way in
    let there = at r.node (acted c y s) r.spent in
    omega (
      arith,
      ap length (lines_next (hop_in g) k ks (at p.node s p.spent) there (going g o l c x y ks p s way).goes),
      length-append (step_line k there) (step_lines (hop_in g) ks there),
      line_most k there (omega (arith, next.tall, held g o ks r (acted c y s) next)),
      lines_most g o ks r (acted c y s) next,
    )

-- ## The whole trace

pub trace_size : (hop : Key → ℕ → Option (ℕ × ℕ)) (S a : ℕ) (ks : List Key) (w : ℕ)
    → length (trace hop S a ks w) ≡ 7 + length (decimal w) + length (decimal (length ks)) + length (step_lines hop ks (at S (a ∷ []) 0))
unfolding trace written tabbed path_word
trace_size hop S a ks w = simp length-append (omega arith)
