-- What is known where the unfolding stands: the records that are looked at begin at places, and the step found is the one picked.
-- Assumes nothing.
use Prim.Native.Nat.{ℕ, zero, suc, ◌+◌, ◌-◌, ◌*◌, ◌/◌, ◌%◌, ◌<◌, ◌≤◌}
use mathlib.Core.Path.{◌≡◌, refl}
use mathlib.Core.List.{List, ◌∷◌}
use native.Mathlib.Omega.{arith}
use native.Mathlib.Nat.{div-add-mod', mul-suc}
use lib.ListN.{length, get_or}
use Rattle.paper.specs.declared.place.Place.{Place}
use Rattle.laws.specs.Unfold.{Nest, over, Frame}
use Rattle.laws.proofs.Nest.{inmost, nest_begun}
use Rattle.network_records.specs.declared.kind.Kind.TheVariants.{Conv, Unwrap}
use Rattle.network.specs.Arranged.{Arranged}
use Rattle.network.specs.Network.{nodes, protocols, places, hop_in}
use Rattle.network.proofs.Steps.{steps_inside}
use Rattle.unfold_frames.specs.Frames.{words_for, held_at, below}
use Rattle.paper.proofs.Places.{place_lt}
use Rattle.unfold_tries.specs.declared.trial.Spot.{Spot}
use Rattle.unfold_tries.specs.declared.trial.Step.{Step}
use Rattle.unfold_picks.specs.Look.{nothing, Looking, ByLevel, ByTunnel}
use Rattle.unfold_picks.specs.Contract.{table_in, level_in, Taken, Stands}
use Rattle.unfold_picks.proofs.Picking.{better_taken, bottom_better, inner_better}

pub one_at_least : (a k : ℕ) → (k ≡ 0 → ⊥) → a ≤ a * k
one_at_least a zero h = absurd (h refl)
one_at_least a (suc k) h = omega (arith, mul-suc a k)

module _ {g W C : List ℕ} {end : Place} {L : List ℕ} {k : ℕ} {at : Spot} (arranged : Arranged g) (s : Stands g W C end L k at) where
  -- the place reached, and what is left there
  pub here_place : (at.node < nodes g) × (at.protocol < protocols g) × (at.weight ≤ 4000000000) × (at.left ≤ 4096)
  here_place =
      let y = nest_begun (hop_in g) (nodes g) (protocols g) (table_in g W C) end.node end.protocol (steps_inside g arranged) s.exact s.state.nest in
      (y.node, y.protocol, y.light, y.short)

  -- a record that has its room and begins at a place may be looked at
  look_at : (o : ℕ) → o + (words_for (places g) + 5) ≤ length L → (held_at (protocols g) (words_for (places g)) L o).node < nodes g → (held_at (protocols g) (words_for (places g)) L o).protocol < protocols g
      → 0 < at.left → Looking g L o at
  unfolding held_at
  look_at o room hv hx h = record {
    record_room = omega arith;
    begins = rw (div-add-mod' (get_or L o 0) (protocols g)) at (place_lt (nodes g) (protocols g) (get_or L o 0 / protocols g) (get_or L o 0 % protocols g) hv hx);
    node = here_place.0;
    protocol = here_place.1;
    some_left = h;
    few_left = here_place.3;
  }

  -- record k begins here, and has its room, where a record is of q entries
  module _ (q o : ℕ) (eq : q ≡ words_for (places g) + 5) (eo : o ≡ q * k) where
    pub starts : o ≡ (words_for (places g) + 5) * k
    starts = rw eq at eo

    pub record_room : o + q ≤ length L
    record_room = omega (arith, s.room, starts)

    pub look_here : 0 < at.left → Looking g L o at
    look_here h =
        let y = inmost (hop_in g) (nodes g) (protocols g) (table_in g W C) end.node end.protocol (steps_inside g arranged) s.exact s.state.nest in
        rw starts (look_at ((words_for (places g) + 5) * k) (omega (arith, s.room)) y.node y.protocol h)

-- the level beneath an inner one
beneath : {g W C : List ℕ} {end : Place} {L : List ℕ} {k : ℕ} {at : Spot} → Arranged g → Stands g W C end L (suc k) at → ((level_in g L k).node < nodes g) × ((level_in g L k).protocol < protocols g)
unfolding below
beneath {g} {W} {C} {end} arranged s = go s.state.nest
  where
    go : {f f' : Frame} {fs : List Frame} {v x w m : ℕ} → Nest (hop_in g) (nodes g) (protocols g) (table_in g W C) end.node end.protocol f (f' ∷ fs) v x w m → (f'.node < nodes g) × (f'.protocol < protocols g)
    go (over l e n h p q r i) = let y = inmost (hop_in g) (nodes g) (protocols g) (table_in g W C) end.node end.protocol (steps_inside g arranged) s.exact n in (y.node, y.protocol)

module _ {g W C : List ℕ} {end : Place} {L : List ℕ} {at : Spot} where
  pub look_below : (k : ℕ) → Arranged g → Stands g W C end L k at → (q o : ℕ) → q ≡ words_for (places g) + 5 → o ≡ q * k → 0 < at.left → (k ≡ 0 → ⊥) → Looking g L (o - q) at
  look_below zero arranged s q o eq eo h z = absurd (z refl)
  look_below (suc k) arranged s q o eq eo h z =
      let e : o - q ≡ (words_for (places g) + 5) * k = omega (arith, eq, starts arranged s q o eq eo) in
      rw e (look_at arranged s ((words_for (places g) + 5) * k) (omega (arith, s.room)) (beneath arranged s).0 (beneath arranged s).1 h)

  -- ## The step picked

  pub pick_bottom : (k : ℕ) → Arranged g → Stands g W C end L k at → (q o : ℕ) {s₁ s₂ : Step} → q ≡ words_for (places g) + 5 → o ≡ q * k → 0 < at.left → k ≡ 0
      → ByLevel g W C L o at Conv 0 nothing s₁ → ByTunnel g W C L o at s₁ s₂ → Taken g W C L k at s₂
  unfolding below
  pick_bottom zero arranged s q o eq eo h z l y =
      let e = starts arranged s q o eq eo in
      better_taken g W C end.node end.protocol arranged s.exact L at 0 s.state h
      (bottom_better g W C end.node end.protocol arranged s.exact L at ((words_for (places g) + 5) * 0) s.state h (rw e at l) (rw e at y))
  pick_bottom (suc k) arranged s q o eq eo h z l y = absurd (omega arith)

  pub pick_inner : (k : ℕ) → Arranged g → Stands g W C end L k at → (q o hidden : ℕ) {s₁ s₂ s₃ : Step} → q ≡ words_for (places g) + 5 → o ≡ q * k → 0 < at.left → (k ≡ 0 → ⊥) → hidden ≡ get_or L (o + 1) 0
      → ByLevel g W C L o at Conv 0 nothing s₁ → ByTunnel g W C L o at s₁ s₂ → ByLevel g W C L (o - q) at Unwrap hidden s₂ s₃ → Taken g W C L k at s₃
  unfolding below held_at
  pick_inner zero arranged s q o hidden eq eo h z eh l y i = absurd (z refl)
  pick_inner (suc k) arranged s q o hidden eq eo h z eh l y i =
      let e = starts arranged s q o eq eo in
      let f : o - q ≡ (words_for (places g) + 5) * k = omega (arith, eq, e) in
      let eh' : hidden ≡ get_or L ((words_for (places g) + 5) * suc k + 1) 0 = rw e at eh in
      better_taken g W C end.node end.protocol arranged s.exact L at (suc k) s.state h
      (inner_better g W C end.node end.protocol arranged s.exact L at ((words_for (places g) + 5) * suc k) ((words_for (places g) + 5) * k) s.state h (rw e at l) (rw e at y) (rw (f, eh') at i))
