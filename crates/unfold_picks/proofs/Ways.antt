-- The steps that pass where the unfolding stands: those of each kind are the ones that are tried with the exits of its record.
-- Assumes nothing.
use Prim.Native.Nat.{ℕ, suc, ◌+◌, ◌*◌, ◌<◌, ◌≤◌}
use mathlib.Core.Path.{◌≡◌, refl, sym, ap, ◌∙◌}
use mathlib.Core.List.{List, [], ◌∷◌}
use mathlib.Core.Option.{Option, some}
use mathlib.Core.Logic.{◌↔◌}
use native.Mathlib.Omega.{arith}
use Rattle.paper.specs.Net.{conv, wrap, unwrap, code, Key, key, place}
use Rattle.paper.specs.Route.{flat}
use Rattle.laws.specs.Value.{Value}
use Rattle.laws.specs.Unfold.{Exact, Ok, Opened, Passes, conv_passes, wrap_passes, unwrap_passes, Nest, Frame}
use Rattle.laws.proofs.Fixpoint as fixpoint
use Rattle.laws.proofs.Nest.{way_conv, nest_begun, nest_way, nest_unwrap}
use Rattle.network_records.specs.Columns.{kind_of_code}
use Rattle.network_records.specs.Kinds.{named}
use Rattle.network_records.specs.declared.kind.Kind.{Kind}
use Rattle.network_records.specs.declared.kind.Kind.TheVariants.{Conv, Wrap, Unwrap}
use Rattle.network.specs.Network.{nodes, protocols, funs, number, to, toll, x_of, y_of, fee, hop_in}
use Rattle.network.specs.Arranged.{Arranged}
use Rattle.network.proofs.Steps.{step_at, Found, found, kind_is, steps_inside}
use Rattle.unfold_frames.specs.Frames.{words_for, held_at}
use Rattle.unfold_exits.specs.Cost.{cost}
use Rattle.unfold_exits.specs.Lists.{Lists, finishing}
use Rattle.unfold_exits.specs.Exits.{Leaves}
use Rattle.unfold_tries.specs.Trial.{Any, Serves, ByFun, top_of, next_of}
use Rattle.unfold_exits.specs.declared.lists.Exit.{Exit}
use Rattle.unfold_tries.specs.declared.trial.Spot.{Spot}
use Rattle.unfold_tries.specs.declared.trial.Step.{Step}
use Rattle.unfold_picks.specs.Contract.{table_in}
use Rattle.unfold_picks.specs.Look.{Outward}
use Rattle.unfold_picks.proofs.Finish.{level_test}
use Rattle.unfold_picks.proofs.Tunnel.{tunnel_test}
use Rattle.unfold_tries.proofs.Pass.{any_tried, tried_any}

-- the step that a key spells, to (r, z), with u, q left there
abbrev pub step_to : (k : Key) (r z u q : ℕ) → Step
step_to k r z u q = record { key = flat (k ∷ []); to = record { node = r; protocol = z; weight = u; left = q } }

-- a step that passes
pub record Way (g W C : List ℕ) (f : Frame) (fs : List Frame) (at : Spot) (s : Step) : Type 0 where
  pub k : Key
  pub r : ℕ
  pub z : ℕ
  pub u : ℕ
  pub q : ℕ
  pub passes : Passes (hop_in g) (nodes g) (protocols g) (table_in g W C) f fs at.node at.protocol at.weight at.left k r z u q
  pub is : s ≡ step_to k r z u q

module _ (g W C : List ℕ) (D b : ℕ) (arranged : Arranged g) (exact : Exact (hop_in g) (nodes g) (protocols g) (table_in g W C)) (L : List ℕ) (o : ℕ) (at : Spot) where
  abbrev n : ℕ
  n = nodes g

  abbrev p : ℕ
  p = protocols g

  abbrev hop : Key → ℕ → Option (ℕ × ℕ)
  hop = hop_in g

  abbrev t : (v x u y : ℕ) → Value
  t = table_in g W C

  -- the place, and what is left there
  abbrev v : ℕ
  v = at.node

  abbrev x : ℕ
  x = at.protocol

  abbrev w : ℕ
  w = at.weight

  abbrev m : ℕ
  m = at.left

  -- the record that begins at entry o
  abbrev f : Frame
  f = held_at p (words_for (n * p)) L o

  inside : fixpoint.Valid hop n p
  inside = steps_inside g arranged

  -- the steps tried with the exits in E
  abbrev pub Tries : (E : List Exit) (k : Kind) (h : ℕ) → Step → Type 0
  Tries E k h = Any (ByFun g W C E at k h) (funs g)

  few_left : {f' : Frame} {gs : List Frame} → Nest hop n p t D b f' gs v x w m → m ≤ 4096
  few_left nest = (nest_begun hop n p t D b inside exact nest).short

  -- the function and the link of a step, of kind c with y and z: it serves, and the step is tried
  module _ (c : Kind) (h : ℕ) {lk y e r cw : ℕ} (s : Found g arranged lk (named c) y e v r cw) (top : top_of g (code (named c)) s.j ≡ x) (beneath : code (named c) ≡ 2 → y ≡ h) where
    serves_by : Serves g v (code (named c)) x h s.j
    serves_by = record { at_node = s.at_node; of_kind = kind_is g arranged (named c) s.j s.of_fun s.has_kind; on_top = top; beneath = λ i. s.has_x ∙ beneath i }

    tried_by : {E : List Exit} {z u q : ℕ} → next_of g (code (named c)) s.j ≡ z → w ≡ cw + u → m ≡ suc q → finishing W C E (place p r z * (n * p)) ≡ cost u q → Tries E c h (step_to (key lk (named c) y e) r z u q)
    unfolding flat
    tried_by {E} {z} {u} {q} next pw pm i = tried_any g W C E at c h (record {
      j = s.j;
      i = s.i;
      u = u;
      q = q;
      of_fun = s.of_fun;
      of_link = s.of_link;
      serving = serves_by;
      leaves = s.at_from;
      weighs = omega (arith, s.has_weight);
      counts = pm;
      finishes = rw (s.has_to, next) i;
      is = rw (s.has_number, s.has_x, s.has_y, s.has_to, next);
    })

  -- ## In the level of the record

  module _ {E : List Exit} (l : Lists (Leaves (n * p) W C L o) E) where
    -- its test
    test : {gs : List Frame} {r q u i : ℕ} → Nest hop n p t D b f gs r q u i → (finishing W C E (place p r q * (n * p)) ≡ cost u i) ↔ Ok hop n p t f r q u i
    test next = level_test n p W C hop D b inside exact L o arranged.valid.some_protocol l next

    module _ {gs : List Frame} (nest : Nest hop n p t D b f gs v x w m) where
      pub conv_way : {s : Step} → 0 < m → Tries E Conv 0 s → Way g W C f gs at s
      unfolding kind_of_code top_of next_of flat
      conv_way some_left a =
          let e = any_tried g W C E at Conv 0 some_left (few_left nest) a in
          let y = e.serving in
          let h = step_at g arranged e.j e.i v 0 x e.of_fun e.of_link (e.leaves ∙ sym y.at_node) y.at_node y.of_kind y.on_top in
          let next = nest_way hop n p t D b nest (way_conv hop n p t (number g e.i) (fee g e.j + toll g e.i) h e.weighs e.counts) in
          record {
            k = key (number g e.i) conv x (y_of g e.j);
            r = to g e.i;
            z = y_of g e.j;
            u = e.u;
            q = e.q;
            passes = conv_passes (number g e.i) (fee g e.j + toll g e.i) h e.weighs e.counts ((test next).0 e.finishes);
            is = e.is ∙ ap (λ (a : ℕ). step_to (key (number g e.i) conv a (y_of g e.j)) (to g e.i) (y_of g e.j) e.u e.q) y.on_top;
          }

      pub conv_tried : {r z u q : ℕ} (lk cw : ℕ) → hop (key lk conv x z) v ≡ some (r, cw) → w ≡ cw + u → m ≡ suc q → Ok hop n p t f r z u q → Tries E Conv 0 (step_to (key lk conv x z) r z u q)
      unfolding top_of next_of
      conv_tried {r} {z} lk cw h pw pm ok =
          let e = found g arranged lk conv x z v r cw h in
          tried_by Conv 0 e e.has_x (λ i. absurd (omega arith)) e.has_y pw pm ((test (nest_way hop n p t D b nest (way_conv hop n p t lk cw h pw pm))).1 ok)

    -- ## Out of the level above it, of f', by an unwrap

    module _ {f' : Frame} {gs : List Frame} (nest : Nest hop n p t D b f' (f ∷ gs) v x w m) where
      pub unwrap_way : {s : Step} → 0 < m → Tries E Unwrap f'.hidden s → Way g W C f' (f ∷ gs) at s
      unfolding kind_of_code top_of next_of flat
      unwrap_way some_left a =
          let e = any_tried g W C E at Unwrap f'.hidden some_left (few_left nest) a in
          let y = e.serving in
          let hid : f'.hidden ≡ x_of g e.j = sym (y.beneath refl) in
          let h = step_at g arranged e.j e.i v 2 (x_of g e.j) e.of_fun e.of_link (e.leaves ∙ sym y.at_node) y.at_node y.of_kind refl in
          let h' : hop (key (number g e.i) unwrap (x_of g e.j) x) v ≡ some (to g e.i, fee g e.j + toll g e.i) = ap (λ (a : ℕ). hop (key (number g e.i) unwrap (x_of g e.j) a) v) (sym y.on_top) ∙ h in
          let next = nest_unwrap hop n p t D b (number g e.i) (fee g e.j + toll g e.i) nest hid h' e.weighs e.counts in
          record {
            k = key (number g e.i) unwrap (x_of g e.j) x;
            r = to g e.i;
            z = x_of g e.j;
            u = e.u;
            q = e.q;
            passes = unwrap_passes (number g e.i) (fee g e.j + toll g e.i) hid h' e.weighs e.counts ((test next).0 e.finishes);
            is = e.is ∙ ap (λ (a : ℕ). step_to (key (number g e.i) unwrap (x_of g e.j) a) (to g e.i) (x_of g e.j) e.u e.q) y.on_top;
          }

      pub unwrap_tried : {r z u q : ℕ} (lk cw : ℕ) → f'.hidden ≡ z → hop (key lk unwrap z x) v ≡ some (r, cw) → w ≡ cw + u → m ≡ suc q → Ok hop n p t f r z u q
          → Tries E Unwrap f'.hidden (step_to (key lk unwrap z x) r z u q)
      unfolding top_of next_of
      unwrap_tried {r} {z} lk cw hid h pw pm ok =
          let e = found g arranged lk unwrap z x v r cw h in
          tried_by Unwrap f'.hidden e e.has_y (λ i. sym hid) e.has_x pw pm ((test (nest_unwrap hop n p t D b lk cw nest hid h pw pm)).1 ok)

  -- ## Into a tunnel from the level of the record, whose exits are listed if there is a wrap

  module _ {gs : List Frame} (nest : Nest hop n p t D b f gs v x w m) {O : List Exit} (outward : (j : ℕ) → j < funs g → Serves g v 1 x 0 j → Outward g W C L o x O) where
    pub wrap_way : {s : Step} → 0 < m → Tries O Wrap 0 s → Way g W C f gs at s
    unfolding kind_of_code top_of next_of flat
    wrap_way some_left a =
        let e = any_tried g W C O at Wrap 0 some_left (few_left nest) a in
        let y = e.serving in
        let l = outward e.j e.of_fun y in
        let h = step_at g arranged e.j e.i v 1 x e.of_fun e.of_link (e.leaves ∙ sym y.at_node) y.at_node y.of_kind y.on_top in
        let opened = (tunnel_test g arranged W C D b exact L o l.lists (to g e.i) (y_of g e.j) e.u e.q (number g e.i) (fee g e.j + toll g e.i) nest h e.weighs e.counts l.gathered).0 e.finishes in
        record {
          k = key (number g e.i) wrap x (y_of g e.j);
          r = to g e.i;
          z = y_of g e.j;
          u = e.u;
          q = e.q;
          passes = wrap_passes (number g e.i) (fee g e.j + toll g e.i) h e.weighs e.counts opened;
          is = e.is ∙ ap (λ (a : ℕ). step_to (key (number g e.i) wrap a (y_of g e.j)) (to g e.i) (y_of g e.j) e.u e.q) y.on_top;
        }

    pub wrap_tried : {r z u q : ℕ} (lk cw : ℕ) → hop (key lk wrap x z) v ≡ some (r, cw) → w ≡ cw + u → m ≡ suc q → Opened hop n p t f x r z u q → Tries O Wrap 0 (step_to (key lk wrap x z) r z u q)
    unfolding top_of next_of
    wrap_tried {r} {z} {u} {q} lk cw h pw pm opened =
        let e = found g arranged lk wrap x z v r cw h in
        let l = outward e.j e.of_fun (serves_by Wrap 0 e e.has_x (λ i. absurd (omega arith))) in
        tried_by Wrap 0 e e.has_x (λ i. absurd (omega arith)) e.has_y pw pm ((tunnel_test g arranged W C D b exact L o l.lists r z u q lk cw nest h pw pm l.gathered).1 opened)
