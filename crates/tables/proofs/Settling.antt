-- The sweeps, one after another: what holds between them, and why they end. Assumes nothing.
use Prim.Native.Nat.{ℕ, ◌+◌, ◌*◌, ◌<◌, min}
use mathlib.Core.Path.{◌≡◌, refl, ◌∙◌}
use mathlib.Core.Bool.{Bool, true, false, cond, not, ◌&&◌}
use mathlib.Core.List.{List}
use lib.Dec.{eqb}
use lib.ListN.{length}
use Rattle.network.specs.Network.{places}
use Rattle.network.specs.Arranged.{Arranged}
use Rattle.tables_costs.specs.Cells.{cells}
use Rattle.tables_sweeps.specs.Sweep.{stage, sweep, Passing, cleared, diagonal}
use Rattle.tables_sweeps.specs.Filled.{Filled}
use Rattle.tables_sweeps.proofs.Lowering.{size}
use Rattle.tables_sweeps.proofs.Exact.{Sound, Still}
use Rattle.tables_sweeps.proofs.Begin.{Kept, kept_none, kept_then, begun, swept, left_falls, done_still, filled}
use Rattle.tables_spread.specs.Asked.{Roomy}

-- what is left to do
abbrev pub left : (W C : List ℕ) (since : ℕ) (done : Bool) → ℕ
left W C since done = cond done 0 (1 + (2 * size (cells W C false) + min since 1))

module _ (g : List ℕ) where
  -- the rooms W₀ and C₀ and the stamps H₀ have become W, C and H
  pub record Settling (W₀ C₀ H₀ W C H : List ℕ) (done : Bool) : Type 0 where
    -- later entries are as they were
    pub kept : Kept (places g * places g) W₀ C₀ W C
    pub stamps : length H ≡ length H₀
    -- each entry is the value of a route
    pub sound : (known : Arranged g) → Sound g known W C
    -- once it is done, no row lowers anything
    pub still : (known : Arranged g) → done ≡ true → Still g known W C H

  pub settling_begun : (W C W' C' H : List ℕ) (r : Bool) → Roomy (places g) W C → cells W' C' r ≡ diagonal (places g) (cleared (places g * places g) (cells W C false)) → Settling W' C' H W' C' H false
  settling_begun W C W' C' H r o e =
      record {
        kept = kept_none _ _ _;
        stamps = refl;
        sound = λ v. (begun g v W C W' C' r o.weights o.counts e).sound;
        still = λ v f. cc;
      }

  module _ (stamp since : ℕ) (back : Bool) (W C H W' C' H' : List ℕ) (r done : Bool) (known : Arranged g)
      (e : Passing g stamp since (stage W C H false) (sweep g stamp since back) (stage W' C' H' r)) (f : done ≡ (not r && eqb since 0)) where
    pub settling_turn : (W₀ C₀ H₀ : List ℕ) (before : Bool) → Settling W₀ C₀ H₀ W C H before → length H' ≡ length H → Settling W₀ C₀ H₀ W' C' H' done
    settling_turn W₀ C₀ H₀ before s l =
        record {
          kept = kept_then _ _ _ _ _ _ _ s.kept (swept g known stamp since back W C H W' C' H' r (s.sound known) e).kept;
          stamps = l ∙ s.stamps;
          sound = λ v. (swept g v stamp since back W C H W' C' H' r (s.sound v) e).sound;
          still = λ v. done_still g v stamp since W C H W' C' H' r (swept g v stamp since back W C H W' C' H' r (s.sound v) e) done f;
        }

    pub left_less : (W₀ C₀ H₀ : List ℕ) (before : Bool) (next : ℕ) → Settling W₀ C₀ H₀ W C H before → before ≡ false → next ≡ cond r stamp 0 → left W' C' next done < left W C since before
    left_less W₀ C₀ H₀ true next s b h = cc
    left_less W₀ C₀ H₀ false next s b h =
        left_falls g known stamp since W C H W' C' H' r (swept g known stamp since back W C H W' C' H' r (s.sound known) e) done next f h

  pub settled : (W C W₁ C₁ W' C' H₁ H' : List ℕ) (r : Bool) → Arranged g → Roomy (places g) W C → cells W₁ C₁ r ≡ diagonal (places g) (cleared (places g * places g) (cells W C false))
      → (done : Bool) → Settling W₁ C₁ H₁ W' C' H' done → done ≡ true → Filled g W C W' C'
  settled W C W₁ C₁ W' C' H₁ H' r v o e done s d =
      filled g v W C W' C' H' (kept_then _ _ _ _ _ _ _ (begun g v W C W₁ C₁ r o.weights o.counts e).kept s.kept) (s.sound v) (s.still v d)
