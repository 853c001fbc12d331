-- The two answers: the text goes into its room, or the room stays. Assumes nothing.
use Prim.Native.Nat.{ℕ, ◌<◌, ◌≤◌}
use mathlib.Core.Path.{◌≡◌, refl, sym, ◌∙◌}
use native.Mathlib.Omega.{arith}
use mathlib.Core.Bool.{Bool, true, false}
use mathlib.Core.List.{List}
use lib.ListN.{length}
use lib.Dec.{leb}
use borrow.Author.Tests.{le-leb, lt-leb, leb-true, leb-false}
use Rattle.std.specs.Prelude.{Option, Some, None}
use Rattle.std.proofs.lemmas.Option.{none-some, same_Some}
use Rattle.paper.specs.Rooms.{laid}
use Rattle.paper.specs.declared.place.Place.{Place}
use Rattle.digits.specs.Write.{Put}
use Rattle.trace_replay.specs.Packet.{Route}
use Rattle.trace_replay.proofs.Ways.{feasible_route}
use Rattle.trace.specs.Told.{Traceable, Told}

pub known : {g : List ℕ} {start : Place} {q : List ℕ} {k w : ℕ} → Traceable g start q k w → Route g start q k
known {g} {start} {q} {k} {w} given = feasible_route g start q k given.end.node given.end.protocol w given.arranged given.within given.few given.room given.route

-- m is the length of the text t, x the text room, y what becomes of it
module _ (m : ℕ) (t x : List ℕ) (is : m ≡ length t) where
  pub too_long : length x < m → Told x x t None
  too_long h = let e = lt-leb (length t) (length x) (rw is at h) in record { fits = rw e; text = rw e }

  pub written_out : (y : List ℕ) (j : ℕ) → m ≤ length x → Put x y 0 j t → Told x y t (Some j)
  written_out y j h put = let e = le-leb (length t) (length x) (rw is at h) in let n : j ≡ length t = omega (arith, put.next) in record { fits = rw (e, n); text = rw e put.text }

-- no second answer fits
pub told_once : {x y z t : List ℕ} {r s : Option ℕ} → Told x y t r → Told x z t s → (y ≡ z) × (r ≡ s)
told_once a b = (a.text ∙ sym b.text, a.fits ∙ sym b.fits)

-- what either answer tells
module _ {x y t : List ℕ} where
  pub told_some : (n : ℕ) → Told x y t (Some n) → (length t ≤ length x) × (n ≡ length t) × (y ≡ laid x 0 t)
  told_some n told = go (leb (length t) (length x)) refl
    where
      go : (b : Bool) → leb (length t) (length x) ≡ b → (length t ≤ length x) × (n ≡ length t) × (y ≡ laid x 0 t)
      go true e = (leb-true (length t) (length x) e, same_Some n (length t) (rw e at told.fits), rw e at told.text)
      go false e = absurd (none-some n (sym (rw e at told.fits)))

  pub told_none : Told x y t None → (length x < length t) × (y ≡ x)
  told_none told = go (leb (length t) (length x)) refl
    where
      go : (b : Bool) → leb (length t) (length x) ≡ b → (length x < length t) × (y ≡ x)
      go true e = absurd (none-some (length t) (rw e at told.fits))
      go false e = (leb-false (length t) (length x) e, rw e at told.text)
