-- The step lines, written as the packet goes. Assumes nothing.
use Prim.Native.Nat.{ℕ, ◌+◌, ◌*◌, ◌<◌, ◌≤◌}
use mathlib.Core.Path.{◌≡◌, ap, ◌∙◌}
use mathlib.Core.List.{List, [], ◌∷◌, ◌++◌}
use native.Mathlib.Omega.{arith}
use lib.ListN.{length, get_or, length-append}
use Rattle.paper.specs.Net.{Kind, Key}
use Rattle.paper.specs.Route.{At, at}
use Rattle.paper.specs.Text.{decimal, tabbed, written, path_word}
use Rattle.paper.specs.Trace.{step_line, step_lines, trace}
use Rattle.paper.specs.declared.place.Place.{Place}
use Rattle.digits.specs.declared.write.Writer.{Writer}
use Rattle.digits.specs.Write.{Holds, Wrote, Leaves}
use Rattle.digits.proofs.Writing.{leaves_all, leaves_less, leaves_room, leaves_none}
use Rattle.network_records.specs.Columns.{kind_of_code}
use Rattle.trace_stack.specs.declared.Stack.{Stack}
use Rattle.trace_stack.specs.Items.{below, highest, items, acted, Ready}
use Rattle.trace_stack.proofs.Cells.{length_items}
use Rattle.network.specs.Network.{hop_in}
use Rattle.network.specs.Arranged.{Arranged}
use Rattle.trace_replay.specs.declared.packet.Packet.{Packet}
use Rattle.trace_replay.specs.Keys.{entries, key_of, key_at, keys_at}
use Rattle.trace_replay.specs.Packet.{after, origin, source, whereabouts, Here, Underway, Route}
use Rattle.trace_replay.proofs.Entries.{keys_left, keys_all, keys_next, keys_none, length_keys}
use Rattle.trace_replay.proofs.Ways.{Going, going, on, held, setting_out}
use Rattle.trace_measure.proofs.Lines.{lines_next}
use Rattle.trace_stepline.specs.Texts.{joined, pieces, Shown}
use Rattle.trace_stepline.proofs.Pieces.{written_pieces}

-- ## The path line

abbrev pub path_pieces : ℕ → ℕ → List (List ℕ)
path_pieces w k = path_word ∷ (9 ∷ decimal w) ∷ (9 ∷ decimal k) ∷ (10 ∷ []) ∷ []

pub path_joined : (w k : ℕ) → written path_word (decimal w ∷ decimal k ∷ []) ≡ joined (path_pieces w k)
unfolding pieces
path_joined w k = written_pieces path_word (decimal w ∷ decimal k ∷ [])

pub path_size : (w k : ℕ) → length (written path_word (decimal w ∷ decimal k ∷ [])) ≡ 7 + length (decimal w) + length (decimal k)
unfolding written tabbed path_word
path_size w k = simp length-append (omega arith)

-- ## The step lines

-- the packet p, with the stack s, has the steps of q from i on still to go, of k in all; of the text t, which goes into u's room, their lines are left, and u is now v
pub record Replayed (g q : List ℕ) (k i : ℕ) (t : List ℕ) (u v : Writer) (s : Stack) (p : Packet) : Type 0 where
  pub way : Underway g (keys_left q k i) p (items s)
  pub lines : Leaves u v t (step_lines (hop_in g) (keys_left q k i) (at p.node (items s) p.spent))

module _ {g : List ℕ} {start : Place} {q : List ℕ} {k : ℕ} (route : Route g start q k) where
  abbrev pub all_lines : List ℕ
  all_lines = step_lines (hop_in g) (keys_at q k) (source start)

  abbrev pub Now : ℕ → Writer → Writer → Stack → Packet → Type 0
  Now i u v s p = Replayed g q k i all_lines u v s p

  pub set_out : (u : Writer) (s : Stack) (p : Packet) → items s ≡ start.protocol ∷ [] → p ≡ origin start → Now 0 u u s p
  set_out u s p e f = record { way = rw (← keys_all q k, e, f) (setting_out route); lines = rw (← keys_all q k, e, f) (leaves_all u all_lines) }

  module _ (i : ℕ) (h : i < k) {u v : Writer} {s : Stack} {p : Packet} (so : Now i u v s p) where
    abbrev c : Kind
    c = kind_of_code (get_or q (i * 4 + 1) 0)

    abbrev y : ℕ
    y = get_or q (i * 4 + 3) 0

    abbrev rest : List Key
    rest = keys_left q k (i + 1)

    abbrev r : Packet
    r = after g (key_at q i) p

    o : Arranged g
    o = route.arranged

    way : Underway g (key_at q i ∷ rest) p (items s)
    way = rw (keys_next q k i h) at so.way

    goes : Going g o (get_or q (i * 4) 0) c (get_or q (i * 4 + 2) 0) y p (items s)
    unfolding key_at key_of
    goes = going g o (get_or q (i * 4) 0) c (get_or q (i * 4 + 2) 0) y rest p (items s) way

    goes_on : Underway g rest r (acted c y (items s))
    unfolding key_at key_of
    goes_on = on g o (get_or q (i * 4) 0) c (get_or q (i * 4 + 2) 0) y rest p (items s) way

    pub turn_top : y < 256
    turn_top = goes.top

    pub turn_here : Here g p
    turn_here = goes.here

    pub turn_ready : Ready c y s
    turn_ready = record {
      some = omega (arith, goes.here.some_top, way.tall, length_items s);
      held = omega (arith, goes.here.held, way.tall, length_items s);
      room = omega (arith, goes_on.tall, held g o rest r (acted c y (items s)) goes_on);
    }

    -- s' is the stack after the step, and p' the packet
    module _ (s' : Stack) (is : items s' ≡ acted c y (items s)) (e : List ℕ) (entry : e ≡ entries q i) (p' : Packet) (went : p' ≡ after g (key_of e) p) where
      next : Underway g rest r (items s')
      next = rw is goes_on

      abbrev there : At
      there = at r.node (items s') r.spent

      shown_there : whereabouts r s'.cells ≡ there
      unfolding whereabouts items
      shown_there = ap (λ (z : ℕ). at r.node (below s'.cells z) r.spent) (next.tall ∙ length_items s')

      line_left : Leaves u v all_lines (step_line (key_at q i) (whereabouts r s'.cells) ++ step_lines (hop_in g) rest there)
      unfolding key_at key_of
      line_left = rw (shown_there) (rw (lines_next (hop_in g) (key_at q i) rest (at p.node (items s) p.spent) there (rw is goes.goes)) at (rw (keys_next q k i h) at so.lines))

      pub turn_shown : length s'.cells ≡ highest → Holds u all_lines → Shown p' s'.cells × Holds v (step_line (key_of e) (whereabouts p' s'.cells))
      unfolding key_at
      turn_shown size room =
          let low = held g o rest r (items s') next in
          rw (went, entry) (record { node = low.1; held = omega (arith, low.0, size) }, leaves_room (step_line (key_at q i) (whereabouts r s'.cells)) (step_lines (hop_in g) rest there) room line_left)

      pub turn_on : {x : Writer} → Wrote v x (step_line (key_of e) (whereabouts p' s'.cells)) → Now (i + 1) u x s' p'
      unfolding key_at
      turn_on w = rw (went, entry) (record { way = next; lines = leaves_less line_left (rw (went, entry) at w) })

  pub finish : (i : ℕ) → k ≤ i → {u v : Writer} {s : Stack} {p : Packet} → Now i u v s p → Wrote u v all_lines
  unfolding step_lines
  finish i h so = leaves_none (rw (keys_none q k i h) at so.lines)

  -- ## Both

  pub trace_parts : (w : ℕ) → trace (hop_in g) start.node start.protocol (keys_at q k) w ≡ written path_word (decimal w ∷ decimal k ∷ []) ++ all_lines
  unfolding trace
  trace_parts w = rw (length_keys q k)

  pub trace_room : (w i n : ℕ) → i + length (trace (hop_in g) start.node start.protocol (keys_at q k) w) ≤ n
      → i + length (written path_word (decimal w ∷ decimal k ∷ [])) + length all_lines ≤ n
  trace_room w i n h = omega (arith, ap length (trace_parts w), length-append (written path_word (decimal w ∷ decimal k ∷ [])) all_lines)
