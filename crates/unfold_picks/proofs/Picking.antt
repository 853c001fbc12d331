-- The better of all steps that pass is the step picked. Assumes nothing.
use Prim.Native.Nat.{ℕ, zero, suc, ◌+◌, ◌*◌, ◌<◌, ◌≤◌}
use mathlib.Core.Path.{◌≡◌, refl, ap}
use mathlib.Core.List.{List, [], ◌∷◌}
use mathlib.Core.Option.{Option, some}
use mathlib.Core.Logic.{◌⊎◌, inl, inr, ⊎_elim}
use native.Mathlib.Omega.{arith}
use Rattle.paper.specs.Net.{Kind, conv, wrap, unwrap, code, Key, key}
use Rattle.paper.specs.Route.{Lex, flat}
use Rattle.laws.specs.Value.{Value}
use Rattle.laws.specs.Unfold.{Exact, Ok, Opened, Passes, conv_passes, wrap_passes, unwrap_passes, State, Frame}
use Rattle.laws.proofs.Fixpoint as fixpoint
use Rattle.laws.proofs.Unfold.{passes_hop, some_passes}
use Rattle.network_records.specs.declared.kind.Kind.TheVariants.{Conv, Wrap, Unwrap}
use Rattle.network.specs.Network.{nodes, protocols, hop_in}
use Rattle.network.specs.Arranged.{Arranged}
use Rattle.network.proofs.Steps.{found, steps_inside}
use Rattle.unfold_frames.specs.Frames.{words_for, held_at}
use Rattle.unfold_tries.specs.Trial.{Better}
use Rattle.unfold_tries.specs.declared.trial.Spot.{Spot}
use Rattle.unfold_tries.specs.declared.trial.Step.{Step}
use Rattle.unfold_tries.proofs.Better.{better_then}
use Rattle.unfold_picks.specs.Look.{nothing, ByLevel, ByTunnel}
use Rattle.unfold_picks.specs.Contract.{table_in, level_in, beneath_in, Taken}
use Rattle.unfold_picks.proofs.Ways.{step_to, Way, Tries, conv_way, conv_tried, unwrap_way, unwrap_tried, wrap_way, wrap_tried}

code_small : (c : Kind) → code c < 3
code_small conv = omega arith
code_small wrap = omega arith
code_small unwrap = omega arith

behind_all : (l y z : ℕ) (c : Kind) → l ≤ 65535 → Lex (65535 ∷ 3 ∷ 0 ∷ 0 ∷ []) (flat (key l c y z ∷ [])) → ⊥
unfolding Lex flat
behind_all l y z c h (inl i) = omega arith
behind_all l y z c h (inr (e, inl i)) = omega (arith, code_small c)
behind_all l y z c h (inr (e, inr (f, i))) = omega (arith, code_small c)

module _ (g W C : List ℕ) (D b : ℕ) (arranged : Arranged g) (exact : Exact (hop_in g) (nodes g) (protocols g) (table_in g W C)) (L : List ℕ) (at : Spot) where
  abbrev n : ℕ
  n = nodes g

  abbrev p : ℕ
  p = protocols g

  abbrev hop : Key → ℕ → Option (ℕ × ℕ)
  hop = hop_in g

  abbrev t : (v x u y : ℕ) → Value
  t = table_in g W C

  inside : fixpoint.Valid hop n p
  inside = steps_inside g arranged

  -- the unfolding stands at the spot, with these levels open; and a step from there passes
  abbrev StateAt : Frame → List Frame → Type 0
  StateAt f gs = State hop n p t D b f gs at.node at.protocol at.weight at.left

  abbrev PassesAt : Frame → List Frame → (k : Key) (r z u q : ℕ) → Type 0
  PassesAt f gs = Passes hop n p t f gs at.node at.protocol at.weight at.left

  some_step : {f : Frame} {gs : List Frame} {v x w : ℕ} (m : ℕ) → State hop n p t D b f gs v x w m → 0 < m → (k : Key) × (r z u q : ℕ) × Passes hop n p t f gs v x w m k r z u q
  some_step zero s h = absurd (omega arith)
  some_step (suc m) s h = some_passes hop n p t D b inside exact s

  numbered : {f : Frame} {gs : List Frame} (k : Key) {r z u q : ℕ} → PassesAt f gs k r z u q → Lex nothing.key (flat (k ∷ [])) → ⊥
  numbered (key l e y z) {r} s h =
      let i = passes_hop hop n p t D b inside exact s in
      let a = found g arranged l e y z at.node r i.0 i.1 in
      behind_all l y z e (rw (← a.has_number) (arranged.valid.link_number a.i a.of_link)) h

  pub better_taken : (k : ℕ) {s : Step} → StateAt (level_in g L k) (beneath_in g L k) → 0 < at.left → Better (Way g W C (level_in g L k) (beneath_in g L k) at) nothing s → Taken g W C L k at s
  better_taken k {s} state some_left a = go a.one_of
    where
      first : (j : Key) (r' z' u' q' : ℕ) → PassesAt (level_in g L k) (beneath_in g L k) j r' z' u' q' → Lex s.key (flat (j ∷ []))
      first j r' z' u' q' y = a.beats (step_to j r' z' u' q') (record { k = j; r = r'; z = z'; u = u'; q = q'; passes = y; is = refl })

      go : (s ≡ nothing) ⊎ Way g W C (level_in g L k) (beneath_in g L k) at s → Taken g W C L k at s
      go (inl e) =
          let (k', r', z', u', q', y) = some_step at.left state some_left in
          absurd (numbered k' y (rw e at (first k' r' z' u' q' y)))
      go (inr y) =
          let e : s.key ≡ flat (y.k ∷ []) = ap (λ (i : Step). i.key) y.is in
          rw y.is (record { key = y.k; spelled = refl; picked = record { passes = y.passes; least = λ j r' z' u' q' i. rw (← e) (first j r' z' u' q' i) } })

  -- ## Kind by kind

  by_kind : (P : Step → Type 0) {f : Frame} {gs : List Frame} {v x w m r z u q : ℕ} {k : Key}
      → ((lk cw : ℕ) → hop (key lk conv x z) v ≡ some (r, cw) → w ≡ cw + u → m ≡ suc q → Ok hop n p t f r z u q → P (step_to (key lk conv x z) r z u q))
      → ((lk cw : ℕ) → hop (key lk wrap x z) v ≡ some (r, cw) → w ≡ cw + u → m ≡ suc q → Opened hop n p t f x r z u q → P (step_to (key lk wrap x z) r z u q))
      → ((g' : Frame) (hs : List Frame) → gs ≡ g' ∷ hs → (lk cw : ℕ) → f.hidden ≡ z → hop (key lk unwrap z x) v ≡ some (r, cw) → w ≡ cw + u → m ≡ suc q → Ok hop n p t g' r z u q → P (step_to (key lk unwrap z x) r z u q))
      → Passes hop n p t f gs v x w m k r z u q → P (step_to k r z u q)
  by_kind P onConv onWrap onUnwrap (conv_passes lk cw h pw pm ok) = onConv lk cw h pw pm ok
  by_kind P onConv onWrap onUnwrap (wrap_passes lk cw h pw pm op) = onWrap lk cw h pw pm op
  by_kind P onConv onWrap onUnwrap (unwrap_passes {g = g'} {fs = hs} lk cw e h pw pm ok) = onUnwrap g' hs refl lk cw e h pw pm ok

  abbrev frame_at : ℕ → Frame
  frame_at o = held_at p (words_for (n * p)) L o

  module _ (o : ℕ) {gs : List Frame} (state : StateAt (frame_at o) gs) (some_left : 0 < at.left) {s₁ s₂ : Step}
      (l : ByLevel g W C L o at Conv 0 nothing s₁) (q : ByTunnel g W C L o at s₁ s₂) where
    -- the steps in the level and those into a tunnel
    abbrev Own : Step → Type 0
    Own s = Tries g W C D b arranged exact L o at l.E Conv 0 s ⊎ Tries g W C D b arranged exact L o at q.O Wrap 0 s

    own_way : (s : Step) → Own s → Way g W C (frame_at o) gs at s
    own_way s (inl y) = conv_way g W C D b arranged exact L o at l.lists state.nest some_left y
    own_way s (inr y) = wrap_way g W C D b arranged exact L o at state.nest q.outward some_left y

    own_better : Better Own nothing s₂
    own_better = better_then (λ s y. y) (λ s y. inl y) (λ s y. inr y) l.better q.better

    conv_own : {r z u j : ℕ} (lk cw : ℕ) → hop (key lk conv at.protocol z) at.node ≡ some (r, cw) → at.weight ≡ cw + u → at.left ≡ suc j → Ok hop n p t (frame_at o) r z u j
        → Own (step_to (key lk conv at.protocol z) r z u j)
    conv_own lk cw h pw pm ok = inl (conv_tried g W C D b arranged exact L o at l.lists state.nest lk cw h pw pm ok)

    wrap_own : {r z u j : ℕ} (lk cw : ℕ) → hop (key lk wrap at.protocol z) at.node ≡ some (r, cw) → at.weight ≡ cw + u → at.left ≡ suc j → Opened hop n p t (frame_at o) at.protocol r z u j
        → Own (step_to (key lk wrap at.protocol z) r z u j)
    wrap_own lk cw h pw pm op = inr (wrap_tried g W C D b arranged exact L o at state.nest q.outward lk cw h pw pm op)

  -- at the bottom there is nothing to unwrap
  pub bottom_better : (o : ℕ) (state : StateAt (frame_at o) []) → 0 < at.left → {s₁ s₂ : Step} → ByLevel g W C L o at Conv 0 nothing s₁ → ByTunnel g W C L o at s₁ s₂
      → Better (Way g W C (frame_at o) [] at) nothing s₂
  bottom_better o state some_left l q =
      let own = own_better o state some_left l q in
      record {
        one_of = ⊎_elim (λ y. inl y) (λ y. inr (own_way o state some_left l q _ y)) own.one_of;
        keeps = own.keeps;
        beats = λ s y. own.beats s (rw y.is
            (by_kind (Own o state some_left l q) (conv_own o state some_left l q) (wrap_own o state some_left l q) (λ g' hs e. absurd (let z : ◌≡◌ {A = ℕ} 0 1 = cc in omega arith)) y.passes));
      }

  -- in an inner level there is
  pub inner_better : (o o' : ℕ) {gs : List Frame} (state : StateAt (frame_at o) (frame_at o' ∷ gs)) → 0 < at.left → {s₁ s₂ s₃ : Step} → ByLevel g W C L o at Conv 0 nothing s₁ → ByTunnel g W C L o at s₁ s₂
      → ByLevel g W C L o' at Unwrap (frame_at o).hidden s₂ s₃ → Better (Way g W C (frame_at o) (frame_at o' ∷ gs) at) nothing s₃
  inner_better o o' {gs} state some_left l q y =
      better_then
      (λ s a. rw a.is
      (by_kind (λ s. Own o state some_left l q s ⊎ Tries g W C D b arranged exact L o' at y.E Unwrap (frame_at o).hidden s)
      (λ lk cw h pw pm ok. inl (conv_own o state some_left l q lk cw h pw pm ok))
      (λ lk cw h pw pm op. inl (wrap_own o state some_left l q lk cw h pw pm op))
      (λ g' hs e lk cw hid h pw pm ok. let f : frame_at o' ≡ g' = cc in inr (unwrap_tried g W C D b arranged exact L o' at y.lists state.nest lk cw hid h pw pm (rw (← f) at ok)))
      a.passes))
      (λ s a. own_way o state some_left l q s a)
      (λ s a. unwrap_way g W C D b arranged exact L o' at y.lists state.nest some_left a)
      (own_better o state some_left l q) y.better
