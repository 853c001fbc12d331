-- The closed table of a network that is written out, computed: nothing is claimed of it, since the test of Check.antt judges it.
-- With it the marked examples need no certificates.
-- Assumes nothing.
use Prim.Native.Nat.{ℕ, zero, suc, ◌+◌}
use mathlib.Core.Bool.{true, false, ◌&&◌}
use mathlib.Core.List.{List, [], ◌∷◌, foldr}
use lib.Dec.{eqb}
use Rattle.paper.specs.Net.{code, Link, link, Fun, fun, Net, net}
use Rattle.laws.specs.Value.{Value, cap, plus}
use Rattle.laws.proofs.Check.{le?}
use Rattle.laws.proofs.Certificate.{Cell, cell, look}

abbrev pub lower : ℕ → ℕ → ℕ → ℕ → Value → List Cell → List Cell
lower v x u y c cs = elim (le? (look cs v x u y) c) [ true ↦ cs | false ↦ cell v x u y c ∷ cs ]

abbrev pub count : ℕ → (ℕ → List Cell → List Cell) → List Cell → List Cell
count zero f cs = cs
count (suc k) f cs = count k f (f k cs)

module _ (n p : ℕ) (ls : List Link) (fs : List Fun) where
  abbrev pub by_conv : Fun → Link → List Cell → List Cell
  by_conv (fun v c x z f) (link l v' r w) cs =
      elim (eqb (code c) 0 && eqb v v') [
        | false ↦ cs
        | true ↦ count n (λ u cs. count p (λ y cs. lower v x u y (plus (cap (f + w) 1) (look cs r z u y)) cs) cs) cs
      ]

  abbrev pub by_tunnel : Fun → Link → Fun → Link → List Cell → List Cell
  by_tunnel (fun v c x z f) (link l v' r w) (fun q d x' o g) (link m q' s e) cs =
      elim (eqb (code c) 1 && eqb v v' && (eqb (code d) 2 && eqb q q' && eqb x x')) [
        | false ↦ cs
        | true ↦ count n (λ u cs. count p (λ y cs. lower v x u y (plus (cap (f + w) 1) (plus (look cs r z q o) (plus (cap (g + e) 1) (look cs s x u y)))) cs) cs) cs
      ]

  abbrev pub pass : List Cell → List Cell
  pass cs = foldr (λ f cs. foldr (λ k cs. foldr (λ g cs. foldr (λ m cs. by_tunnel f k g m cs) cs ls) (by_conv f k cs) fs) cs ls) cs fs

  abbrev pub solve : ℕ → List Cell → List Cell
  solve zero cs = cs
  solve (suc k) cs = solve k (pass cs)

abbrev pub table : Net → List Cell
table (net n p ls fs) = solve n p ls fs 6 []
