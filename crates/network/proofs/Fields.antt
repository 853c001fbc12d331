-- The parts of the room, and a field read from one: its value, and the range that it is in. Assumes nothing.
use Prim.Native.Nat.{ℕ, ◌+◌, ◌*◌, ◌-◌, ◌<◌, ◌≤◌}
use mathlib.Core.Path.{◌≡◌}
use mathlib.Core.List.{List}
use native.Mathlib.Omega.{arith}
use lib.ListN.{length, take, drop, length-drop}
use lib.Seq.{take_all}
use Rattle.network.specs.Network.{links, funs, links_room, funs_room}
use Rattle.network.specs.Arranged.{Arranged}

-- the part from entry n on, to the end, of a room that is g
pub part_on : (n : ℕ) (l g : List ℕ) → l ≡ g → take (length l - n) (drop n l) ≡ drop n g
part_on n l g e = rw (← e) (take_all (length l - n) (drop n l) (omega (arith, length-drop n l)))

module _ (g l : List ℕ) (i : ℕ) (o : Arranged g) where
  pub link_in : i < links g → l ≡ links_room g → i * 4 + 4 ≤ length l
  link_in h e = rw e (omega (arith, o.valid.link_room))

  pub fun_in : i < funs g → l ≡ funs_room g → i * 5 + 5 ≤ length l
  fun_in h e = rw e (omega (arith, o.valid.fun_room))

-- field f of record i, read from the part l of the room, which is m
pub ranged : (f : List ℕ → ℕ → ℕ) (B : ℕ → Type 0) (r i : ℕ) (l m : List ℕ) → r ≡ f l i → l ≡ m → B (f m i) → (r ≡ f m i) × B r
ranged f B r i l m e d h = let q : r ≡ f m i = rw (← d) e in (q, rw q h)
