-- Two networks with the same records lead the same ways, in whatever order the records stand. Assumes nothing.
use Prim.Native.Nat.{ℕ, ◌+◌, ◌<◌}
use mathlib.Core.Path.{◌≡◌, refl, sym, ap, ◌∙◌, fun_ext}
use mathlib.Core.List.{List}
use mathlib.Core.Option.{Option, none, some}
use native.Mathlib.Omega.{arith}
use Rattle.paper.specs.Net.{Kind, Key, key}
use Rattle.network_records.specs.declared.Size.{Size}
use Rattle.network_records.specs.Columns.{link_width, fun_width, number, from, to, toll, node, kind, x_of, y_of, fee, kind_of_code, hop_of}
use Rattle.network_records.specs.Valid.{Valid}
use Rattle.network_records.proofs.Links.{Found, found, step_at}
use Rattle.network_arrange.proofs.Regrouped.{Same}

-- both or neither
alike : (a b : Option (ℕ × ℕ)) → ((r : ℕ × ℕ) → a ≡ some r → b ≡ some r) → ((r : ℕ × ℕ) → b ≡ some r → a ≡ some r) → a ≡ b
alike none none f g = refl
alike none (some r) f g = g r refl
alike (some r) b f g = sym (f r refl)

module _ (z : Size) (ls fs ls' fs' : List ℕ) (v : Valid z ls fs) (v' : Valid z ls' fs') where
  -- a step of the one is a step of the other
  carried : ((i : ℕ) → i < z.links → Same link_width z.links ls' ls i) → ((j : ℕ) → j < z.funs → Same fun_width z.funs fs' fs j) → (l : ℕ) (k : Kind) (x y at : ℕ) (r : ℕ × ℕ)
      → hop_of z ls fs (key l k x y) at ≡ some r → hop_of z ls' fs' (key l k x y) at ≡ some r
  carried links funs l k x y at r e = go (found z ls fs v l k x y at r.0 r.1 e)
    where
      go : Found z ls fs v l k x y at r.0 r.1 → hop_of z ls' fs' (key l k x y) at ≡ some r
      go f =
          let i = links f.i f.of_link in
          let j = funs f.j f.of_fun in
          let at_node : node fs' j.at ≡ at = sym j.first ∙ f.at_node in
          let at_from : from ls' i.at ≡ at = sym (i.same 1 (omega arith)) ∙ f.at_from in
          let is_number : number ls' i.at ≡ l = sym i.first ∙ f.has_number in
          let is_kind : kind_of_code (kind fs' j.at) ≡ k = ap kind_of_code (sym (j.same 1 (omega arith))) ∙ f.has_kind in
          let is_x : x_of fs' j.at ≡ x = sym (j.same 2 (omega arith)) ∙ f.has_x in
          let is_y : y_of fs' j.at ≡ y = sym (j.same 3 (omega arith)) ∙ f.has_y in
          let is_to : to ls' i.at ≡ r.0 = sym (i.same 2 (omega arith)) ∙ f.has_to in
          let is_weight : fee fs' j.at + toll ls' i.at ≡ r.1 =
          omega (arith, j.same 4 (omega arith), i.same 3 (omega arith), f.has_weight) in
          let s = step_at z ls' fs' v' j.at i.at at (kind fs' j.at) (x_of fs' j.at) j.below i.below (at_from ∙ sym at_node) at_node refl refl in
          rw (is_number, is_kind, is_x, is_y, is_to, is_weight) at s

module _ (z : Size) (ls fs ls' fs' : List ℕ) (v : Valid z ls fs) (v' : Valid z ls' fs') where
  pub same_hop : ((i : ℕ) → i < z.links → Same link_width z.links ls' ls i) → ((j : ℕ) → j < z.funs → Same fun_width z.funs fs' fs j) → ((i : ℕ) → i < z.links → Same link_width z.links ls ls' i) → ((j : ℕ) → j < z.funs → Same fun_width z.funs fs fs' j)
      → hop_of z ls' fs' ≡ hop_of z ls fs
  same_hop to-l to-f back_l back_f = fun_ext (λ k. fun_ext (λ at. go k at))
    where
      go : (k : Key) (at : ℕ) → hop_of z ls' fs' k at ≡ hop_of z ls fs k at
      go (key l k x y) at =
          alike (hop_of z ls' fs' (key l k x y) at) (hop_of z ls fs (key l k x y) at) (carried z ls' fs' ls fs v' v back_l back_f l k x y at)
          (carried z ls fs ls' fs' v v' to-l to-f l k x y at)
