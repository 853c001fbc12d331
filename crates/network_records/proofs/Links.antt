-- Steps and the records behind them: a function and a link that leave one node are a step, and every step is of this kind.
-- Assumes nothing.
use Prim.Native.Nat.{ℕ, zero, suc, ◌+◌, ◌<◌, ◌≤◌}
use mathlib.Core.Path.{◌≡◌, refl, sym, ap, ◌∙◌}
use mathlib.Core.List.{List}
use mathlib.Core.Option.{Option, some}
use native.Mathlib.Omega.{arith}
use Rattle.paper.specs.Net.{Kind, code, link, fun, Key, key}
use Rattle.laws.specs.Sets.{Mem}
use Rattle.laws.proofs.Check.{Behind, behind}
use Rattle.laws.proofs.Lookup.{OnceL, OnceF, hop_once}
use Rattle.laws.proofs.Fixpoint as fixpoint
use Rattle.network_records.specs.Columns.{number, from, to, toll, node, kind, x_of, y_of, fee, rows, kind_of_code, link_at, fun_at, link_rows, fun_rows, net_of, hop_of}
use Rattle.network_records.specs.declared.Size.{Size}
use Rattle.network_records.specs.Valid.{Valid}
use Rattle.network_records.proofs.Rows.{rows_mem, mem_row}

-- ## Kinds and their codes

kind_code : (k : ℕ) → k < 3 → code (kind_of_code k) ≡ k
unfolding kind_of_code
kind_code zero h = refl
kind_code (suc zero) h = refl
kind_code (suc (suc zero)) h = refl
kind_code (suc (suc (suc k))) h = absurd (omega arith)

kind_inj : (k l : ℕ) → k < 3 → l < 3 → kind_of_code k ≡ kind_of_code l → k ≡ l
kind_inj k l hk hl e = sym (kind_code k hk) ∙ ap code e ∙ kind_code l hl

module _ (z : Size) (ls fs : List ℕ) (valid : Valid z ls fs) where
  abbrev h : Key → ℕ → Option (ℕ × ℕ)
  h = hop_of z ls fs

  once_links : (i k : ℕ) → i + k ≤ z.links → OnceL (rows (link_at ls) i k)
  unfolding rows link_at
  once_links i zero l = tt
  once_links i (suc k) l = (
    λ u t w m.
        let r = mem_row k (suc i) (link_at ls) (link (number ls i) u t w) m in
        let e : number ls i ≡ number ls r.at = cc r.is in
        let f = valid.link_once i r.at (omega arith) (omega (arith, r.high)) e in
        omega (arith, r.low),
    once_links (suc i) k (omega arith),
  )

  once_funs : (i k : ℕ) → i + k ≤ z.funs → OnceF (rows (fun_at fs) i k)
  unfolding rows fun_at
  once_funs i zero l = tt
  once_funs i (suc k) l = (
    λ w m.
        let r = mem_row k (suc i) (fun_at fs) (fun (node fs i) (kind_of_code (kind fs i)) (x_of fs i) (y_of fs i) w) m in
        let a : node fs i ≡ node fs r.at = cc r.is in
        let b : kind_of_code (kind fs i) ≡ kind_of_code (kind fs r.at) = cc r.is in
        let c : x_of fs i ≡ x_of fs r.at = cc r.is in
        let d : y_of fs i ≡ y_of fs r.at = cc r.is in
        let hi : i < z.funs = omega arith in
        let hr : r.at < z.funs = omega (arith, r.high) in
        let f = valid.fun_once i r.at hi hr a (kind_inj (kind fs i) (kind fs r.at) (valid.fun_kind i hi) (valid.fun_kind r.at hr) b) c d in
        omega (arith, r.low),
    once_funs (suc i) k (omega arith),
  )

  -- function j over link i, where both leave v
  pub step_at : (j i v k x : ℕ) → j < z.funs → i < z.links → from ls i ≡ node fs j → node fs j ≡ v → kind fs j ≡ k → x_of fs j ≡ x
      → h (key (number ls i) (kind_of_code k) x (y_of fs j)) v ≡ some (to ls i, fee fs j + toll ls i)
  unfolding hop_of net_of link_rows fun_rows fun_at link_at
  step_at j i v k x hj hi e a b c =
      let f : from ls i ≡ v = e ∙ a in
      hop_once z.nodes z.protocols (rows (link_at ls) 0 z.links) (rows (fun_at fs) 0 z.funs) (once_links 0 z.links (omega arith)) (once_funs 0 z.funs (omega arith)) v (kind_of_code k) x (y_of fs j) (fee fs j) (number ls i) (to ls i) (toll ls i)
      (is_fun (rows_mem z.funs 0 j (fun_at fs) (omega arith) (omega arith))) (is_link f (rows_mem z.links 0 i (link_at ls) (omega arith) (omega arith)))
    where
      is_fun : Mem (fun_at fs j) (rows (fun_at fs) 0 z.funs) → Mem (fun v (kind_of_code k) x (y_of fs j) (fee fs j)) (rows (fun_at fs) 0 z.funs)
      is_fun m = rw (← a, ← b, ← c) m

      is_link : from ls i ≡ v → Mem (link_at ls i) (rows (link_at ls) 0 z.links) → Mem (link (number ls i) v (to ls i) (toll ls i)) (rows (link_at ls) 0 z.links)
      is_link f m = rw (← f) m

  -- the function and the link of a step
  pub record Found (l : ℕ) (c : Kind) (x y v u w : ℕ) : Type 0 where
    pub j : ℕ
    pub i : ℕ
    pub of_fun : j < z.funs
    pub of_link : i < z.links
    pub at_node : node fs j ≡ v
    pub at_from : from ls i ≡ v
    pub has_kind : kind_of_code (kind fs j) ≡ c
    pub has_x : x_of fs j ≡ x
    pub has_y : y_of fs j ≡ y
    pub has_to : to ls i ≡ u
    pub has_weight : w ≡ fee fs j + toll ls i
    pub has_number : number ls i ≡ l

  pub found : (l : ℕ) (c : Kind) (x y v u w : ℕ) → h (key l c x y) v ≡ some (u, w) → Found l c x y v u w
  unfolding hop_of net_of link_rows fun_rows link_at fun_at
  found l c x y v u w e = go (behind z.nodes z.protocols (rows (link_at ls) 0 z.links) (rows (fun_at fs) 0 z.funs) l c x y v u w e)
    where
      go : Behind (rows (link_at ls) 0 z.links) (rows (fun_at fs) 0 z.funs) l c x y v u w → Found l c x y v u w
      go b =
          let r = mem_row z.links 0 (link_at ls) (link l v u b.toll) b.has_link in
          let q = mem_row z.funs 0 (fun_at fs) (fun v c x y b.fee) b.has_fun in
          let f : b.fee ≡ fee fs q.at = cc q.is in
          let t : b.toll ≡ toll ls r.at = cc r.is in
          record {
            j = q.at;
            i = r.at;
            of_fun = omega (arith, q.high);
            of_link = omega (arith, r.high);
            at_node = cc q.is;
            at_from = cc r.is;
            has_kind = cc q.is;
            has_x = cc q.is;
            has_y = cc q.is;
            has_to = cc r.is;
            has_weight = omega (arith, b.sum);
            has_number = cc r.is;
          }

  -- the code of a function's kind
  pub kind_is : (c : Kind) (j : ℕ) → j < z.funs → kind_of_code (kind fs j) ≡ c → kind fs j ≡ code c
  kind_is c j hj e = sym (kind_code (kind fs j) (valid.fun_kind j hj)) ∙ ap code e

  -- steps lead to places
  pub steps_inside : fixpoint.Valid h z.nodes z.protocols
  steps_inside = record { inside = λ l c x y v u w e. go l c x y v u w (found l c x y v u w e) }
    where
      go : (l : ℕ) (c : Kind) (x y v u w : ℕ) → Found l c x y v u w → (u < z.nodes) × (y < z.protocols)
      go l c x y v u w f = (rw (← f.has_to) (valid.link_to f.i f.of_link), rw (← f.has_y) (valid.fun_y f.j f.of_fun))
