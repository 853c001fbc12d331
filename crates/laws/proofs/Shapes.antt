-- What a line says, read backwards: a shape comes from one spelling only.
-- Assumes nothing.
use mathlib.Core.Path.{◌≡◌, refl, ap, ◌∙◌}
use mathlib.Core.Bool.{true, ◌&&◌}
use mathlib.Core.List.{List, [], ◌∷◌, ◌++◌}
use mathlib.Core.Option.{Option, none, some, none-ne-some, some-injective}
use Prim.Native.Nat.{ℕ, ◌*◌, ◌<◌, ◌≤◌}
use native.Mathlib.Omega.{arith}
use lib.Dec.{eqb, leb, ltb}
use lib.ListN.{length}
use borrow.Author.Tests.{eqb-true, leb-true, ltb-true}
use Rattle.paper.specs.Net.{Kind, conv, wrap, unwrap, Link, link, Fun, fun}
use Rattle.paper.specs.Text.{fields, number, decimal, same, net_word, link_word, fun_word, conv_word, wrap_word, unwrap_word, tabbed}
use Rattle.paper.specs.File.{net_fits, link_fits, fun_fits, Shape, misshapen, net_line, link_line, fun_line, kind_of, net_of, link_of, fun_of, field, shaped}
use Rattle.paper.specs.Normal.{kind_word}
use Rattle.laws.proofs.Before.{Test, holds, fails, test, and_left, and_right, same_eq}
use Rattle.laws.proofs.Spelling.{one_spelling, Parted, parted, fields_parted}

-- ## The fields of a shape

pub data Fields (fs : List (List ℕ)) : Shape → Type 0 where
  as_none : Fields fs misshapen
  as_net : (a b : List ℕ) (n p : ℕ) → fs ≡ net_word ∷ a ∷ b ∷ [] → number a ≡ some n → number b ≡ some p → Fields fs (net_line n p)
  as_link : (a b c d : List ℕ) (l u v w : ℕ) → fs ≡ link_word ∷ a ∷ b ∷ c ∷ d ∷ [] → number a ≡ some l → number b ≡ some u → number c ≡ some v → number d ≡ some w
      → Fields fs (link_line (link l u v w))
  as_fun : (a b c d e : List ℕ) (v : ℕ) (k : Kind) (x y w : ℕ) → fs ≡ fun_word ∷ a ∷ b ∷ c ∷ d ∷ e ∷ [] → number a ≡ some v → kind_of b ≡ some k → number c ≡ some x
      → number d ≡ some y → number e ≡ some w → Fields fs (fun_line (fun v k x y w))

three_fields : (fs : List (List ℕ)) → length fs ≡ 3 → fs ≡ field fs 0 ∷ field fs 1 ∷ field fs 2 ∷ []
unfolding field
three_fields [] e = absurd (omega arith)
three_fields (a ∷ []) e = absurd (omega arith)
three_fields (a ∷ b ∷ []) e = absurd (omega arith)
three_fields (a ∷ b ∷ c ∷ []) e = refl
three_fields (a ∷ b ∷ c ∷ d ∷ fs) e = absurd (omega arith)

five_fields : (fs : List (List ℕ)) → length fs ≡ 5 → fs ≡ field fs 0 ∷ field fs 1 ∷ field fs 2 ∷ field fs 3 ∷ field fs 4 ∷ []
unfolding field
five_fields [] e = absurd (omega arith)
five_fields (a ∷ []) e = absurd (omega arith)
five_fields (a ∷ b ∷ []) e = absurd (omega arith)
five_fields (a ∷ b ∷ c ∷ []) e = absurd (omega arith)
five_fields (a ∷ b ∷ c ∷ d ∷ []) e = absurd (omega arith)
five_fields (a ∷ b ∷ c ∷ d ∷ f ∷ []) e = refl
five_fields (a ∷ b ∷ c ∷ d ∷ f ∷ g ∷ fs) e = absurd (omega arith)

six_fields : (fs : List (List ℕ)) → length fs ≡ 6 → fs ≡ field fs 0 ∷ field fs 1 ∷ field fs 2 ∷ field fs 3 ∷ field fs 4 ∷ field fs 5 ∷ []
unfolding field
six_fields [] e = absurd (omega arith)
six_fields (a ∷ []) e = absurd (omega arith)
six_fields (a ∷ b ∷ []) e = absurd (omega arith)
six_fields (a ∷ b ∷ c ∷ []) e = absurd (omega arith)
six_fields (a ∷ b ∷ c ∷ d ∷ []) e = absurd (omega arith)
six_fields (a ∷ b ∷ c ∷ d ∷ f ∷ []) e = absurd (omega arith)
six_fields (a ∷ b ∷ c ∷ d ∷ f ∷ g ∷ []) e = refl
six_fields (a ∷ b ∷ c ∷ d ∷ f ∷ g ∷ h ∷ fs) e = absurd (omega arith)

module _ (fs : List (List ℕ)) where
  net_fields : (w : same (field fs 0) net_word ≡ true) → length fs ≡ 3
      → (a b : Option ℕ) → number (field fs 1) ≡ a → number (field fs 2) ≡ b → Fields fs (net_of a b)
  unfolding net_of
  net_fields w e none b p q = as_none
  net_fields w e (some n) none p q = as_none
  net_fields w e (some n) (some m) p q = as_net (field fs 1) (field fs 2) n m (cc (three_fields fs e, same_eq (field fs 0) net_word w)) p q

  link_fields : (w : same (field fs 0) link_word ≡ true) → length fs ≡ 5
      → (a b c d : Option ℕ) → number (field fs 1) ≡ a → number (field fs 2) ≡ b → number (field fs 3) ≡ c → number (field fs 4) ≡ d → Fields fs (link_of a b c d)
  unfolding link_of
  link_fields w e none b c d p q r s = as_none
  link_fields w e (some l) none c d p q r s = as_none
  link_fields w e (some l) (some u) none d p q r s = as_none
  link_fields w e (some l) (some u) (some v) none p q r s = as_none
  link_fields w e (some l) (some u) (some v) (some x) p q r s = as_link (field fs 1) (field fs 2) (field fs 3) (field fs 4) l u v x (cc (five_fields fs e, same_eq (field fs 0) link_word w)) p q r s

  fun_fields : (w : same (field fs 0) fun_word ≡ true) → length fs ≡ 6
      → (a : Option ℕ) (k : Option Kind) (c d z : Option ℕ) → number (field fs 1) ≡ a → kind_of (field fs 2) ≡ k → number (field fs 3) ≡ c → number (field fs 4) ≡ d → number (field fs 5) ≡ z
      → Fields fs (fun_of a k c d z)
  unfolding fun_of
  fun_fields w e none b c d z p q r s t = as_none
  fun_fields w e (some l) none c d z p q r s t = as_none
  fun_fields w e (some l) (some u) none d z p q r s t = as_none
  fun_fields w e (some l) (some u) (some v) none z p q r s t = as_none
  fun_fields w e (some l) (some u) (some v) (some x) none p q r s t = as_none
  fun_fields w e (some l) (some u) (some v) (some x) (some y) p q r s t = as_fun (field fs 1) (field fs 2) (field fs 3) (field fs 4) (field fs 5) l u v x y (cc (six_fields fs e, same_eq (field fs 0) fun_word w)) p q r s t

  pub shaped_fields : Fields fs (shaped fs)
  unfolding shaped
  shaped_fields = go (test (same (field fs 0) net_word)) (test (same (field fs 0) link_word)) (test (same (field fs 0) fun_word)) (test (eqb (length fs) 3)) (test (eqb (length fs) 5)) (test (eqb (length fs) 6))
    where
      go : Test (same (field fs 0) net_word) → Test (same (field fs 0) link_word) → Test (same (field fs 0) fun_word)
          → Test (eqb (length fs) 3) → Test (eqb (length fs) 5) → Test (eqb (length fs) 6) → Fields fs (shaped fs)
      go (holds a) b c (holds d) e f = rw (a, d) (net_fields a (eqb-true (length fs) 3 d) _ _ refl refl)
      go (holds a) b c (fails d) e f = rw (a, d) as_none
      go (fails a) (holds b) c d (holds e) f = rw (a, b, e) (link_fields b (eqb-true (length fs) 5 e) _ _ _ _ refl refl refl refl)
      go (fails a) (holds b) c d (fails e) f = rw (a, b, e) as_none
      go (fails a) (fails b) (holds c) d e (holds f) = rw (a, b, c, f) (fun_fields c (eqb-true (length fs) 6 f) _ _ _ _ _ refl refl refl refl refl)
      go (fails a) (fails b) (holds c) d e (fails f) = rw (a, b, c, f) as_none
      go (fails a) (fails b) (fails c) d e f = rw (a, b, c) as_none

pub kind_word_lem : (f : List ℕ) (k : Kind) → kind_of f ≡ some k → f ≡ kind_word k
unfolding kind_of kind_word
kind_word_lem f k e = go (test (same f conv_word)) (test (same f wrap_word)) (test (same f unwrap_word))
  where
    to : (j : Kind) → some j ≡ some k → kind_word j ≡ kind_word k
    to j g = ap kind_word (some-injective j k g)

    go : Test (same f conv_word) → Test (same f wrap_word) → Test (same f unwrap_word) → f ≡ kind_word k
    go (holds a) b c = same_eq f conv_word a ∙ to conv (rw a at e)
    go (fails a) (holds b) c = same_eq f wrap_word b ∙ to wrap (rw (a, b) at e)
    go (fails a) (fails b) (holds c) = same_eq f unwrap_word c ∙ to unwrap (rw (a, b, c) at e)
    go (fails a) (fails b) (fails c) = absurd (none-ne-some k (rw (a, b, c) at e))

-- ## The bytes of a line

unfoldable pub link_body : Link → List ℕ
link_body (link l u v w) = link_word ++ tabbed (decimal l ∷ decimal u ∷ decimal v ∷ decimal w ∷ [])

unfoldable pub fun_body : Fun → List ℕ
fun_body (fun v k x y w) = fun_word ++ tabbed (decimal v ∷ kind_word k ∷ decimal x ∷ decimal y ∷ decimal w ∷ [])

unfoldable pub net_body : ℕ → ℕ → List ℕ
net_body n p = net_word ++ tabbed (decimal n ∷ decimal p ∷ [])

whole : (l : List ℕ) (fs : List (List ℕ)) (w : List ℕ) (gs : List (List ℕ)) → Parted l fs → fs ≡ w ∷ gs → l ≡ w ++ tabbed gs
whole l (v ∷ hs) w gs p e = go p
  where
    go : Parted l (v ∷ hs) → l ≡ w ++ tabbed gs
    go (parted a b f) = cc
whole l [] w gs p e = elim p [ ]

pub net_range : (n p : ℕ) → net_fits n p ≡ true → (1 ≤ n) × (n ≤ 256) × (1 ≤ p) × (p ≤ 16) × (n * p ≤ 1024)
unfolding net_fits
net_range n p e =
    let a = and_left (leb 1 n && leb n 256 && leb 1 p && leb p 16) (leb (n * p) 1024) e in
    let b = and_left (leb 1 n && leb n 256 && leb 1 p) (leb p 16) a in
    let c = and_left (leb 1 n && leb n 256) (leb 1 p) b in (
      leb-true 1 n (and_left (leb 1 n) (leb n 256) c),
      leb-true n 256 (and_right (leb 1 n) (leb n 256) c),
      leb-true 1 p (and_right (leb 1 n && leb n 256) (leb 1 p) b),
      leb-true p 16 (and_right (leb 1 n && leb n 256 && leb 1 p) (leb p 16) a),
      leb-true (n * p) 1024 (and_right (leb 1 n && leb n 256 && leb 1 p && leb p 16) (leb (n * p) 1024) e),
    )

pub link_range : (n l u v w : ℕ) → link_fits n (link l u v w) ≡ true → (l ≤ 65535) × (u < n) × (v < n) × (w ≤ 1000000000)
unfolding link_fits
link_range n l u v w e =
    let a = and_left (leb l 65535 && ltb u n && ltb v n) (leb w 1000000000) e in
    let b = and_left (leb l 65535 && ltb u n) (ltb v n) a in (
      leb-true l 65535 (and_left (leb l 65535) (ltb u n) b),
      ltb-true u n (and_right (leb l 65535) (ltb u n) b),
      ltb-true v n (and_right (leb l 65535 && ltb u n) (ltb v n) a),
      leb-true w 1000000000 (and_right (leb l 65535 && ltb u n && ltb v n) (leb w 1000000000) e),
    )

pub fun_range : (n p v : ℕ) (k : Kind) (x y w : ℕ) → fun_fits n p (fun v k x y w) ≡ true → (v < n) × (x < p) × (y < p) × (w ≤ 1000000000)
unfolding fun_fits
fun_range n p v k x y w e =
    let a = and_left (ltb v n && ltb x p && ltb y p) (leb w 1000000000) e in
    let b = and_left (ltb v n && ltb x p) (ltb y p) a in (
      ltb-true v n (and_left (ltb v n) (ltb x p) b),
      ltb-true x p (and_right (ltb v n) (ltb x p) b),
      ltb-true y p (and_right (ltb v n && ltb x p) (ltb y p) a),
      leb-true w 1000000000 (and_right (ltb v n && ltb x p && ltb y p) (leb w 1000000000) e),
    )

pub net_bytes : (n p : ℕ) (l : List ℕ) → shaped (fields l) ≡ net_line n p → net_fits n p ≡ true → l ≡ net_body n p
unfolding net_body
net_bytes n p l e f = go (shaped (fields l)) (shaped_fields (fields l)) e
  where
    go : (s : Shape) → Fields (fields l) s → s ≡ net_line n p → l ≡ net_word ++ tabbed (decimal n ∷ decimal p ∷ [])
    go s as_none g = cc
    go s (as_net a b m q h i j) g =
        let mn : m ≡ n = cc in
        let qp : q ≡ p = cc in
        let r = net_range n p f in
        cc (whole l (fields l) net_word (a ∷ b ∷ []) (fields_parted l) h, mn, qp, one_spelling a m i (omega (arith, r, mn)), one_spelling b q j (omega (arith, r, qp)))
    go s (as_link a b c d x u v w h i j y z) g = cc
    go s (as_fun a b c d z v k x y w h i j m q r) g = cc

pub link_bytes : (n : ℕ) (r : Link) (l : List ℕ) → shaped (fields l) ≡ link_line r → n ≤ 256 → link_fits n r ≡ true → l ≡ link_body r
unfolding link_body
link_bytes n (link x u v w) l e lim f = go (shaped (fields l)) (shaped_fields (fields l)) e
  where
    go : (s : Shape) → Fields (fields l) s → s ≡ link_line (link x u v w) → l ≡ link_word ++ tabbed (decimal x ∷ decimal u ∷ decimal v ∷ decimal w ∷ [])
    go s as_none g = cc
    go s (as_net a b m q h i j) g = cc
    go s (as_link a b c d x' u' v' w' h i j y z) g =
        let xx : x' ≡ x = cc in
        let uu : u' ≡ u = cc in
        let vv : v' ≡ v = cc in
        let ww : w' ≡ w = cc in
        let r = link_range n x u v w f in
        cc (
          whole l (fields l) link_word (a ∷ b ∷ c ∷ d ∷ []) (fields_parted l) h,
          xx,
          uu,
          vv,
          ww,
          one_spelling a x' i (omega (arith, r, xx)),
          one_spelling b u' j (omega (arith, r, uu)),
          one_spelling c v' y (omega (arith, r, vv)),
          one_spelling d w' z (omega (arith, r, ww)),
        )
    go s (as_fun a b c d z v k x y w h i j m q r) g = cc

pub fun_bytes : (n p : ℕ) (r : Fun) (l : List ℕ) → shaped (fields l) ≡ fun_line r → n ≤ 256 → p ≤ 16 → fun_fits n p r ≡ true → l ≡ fun_body r
unfolding fun_body
fun_bytes n p (fun v k x y w) l e lim lip f = go (shaped (fields l)) (shaped_fields (fields l)) e
  where
    go : (s : Shape) → Fields (fields l) s → s ≡ fun_line (fun v k x y w) → l ≡ fun_word ++ tabbed (decimal v ∷ kind_word k ∷ decimal x ∷ decimal y ∷ decimal w ∷ [])
    go s as_none g = cc
    go s (as_net a b m q h i j) g = cc
    go s (as_link a b c d x' u' v' w' h i j y z) g = cc
    go s (as_fun a b c d t v' k' x' y' w' h i j m q z) g =
        let vv : v' ≡ v = cc in
        let kk : k' ≡ k = cc in
        let xx : x' ≡ x = cc in
        let yy : y' ≡ y = cc in
        let ww : w' ≡ w = cc in
        let r = fun_range n p v k x y w f in
        cc (
          whole l (fields l) fun_word (a ∷ b ∷ c ∷ d ∷ t ∷ []) (fields_parted l) h,
          vv,
          kk,
          xx,
          yy,
          ww,
          one_spelling a v' i (omega (arith, r, vv)),
          kind_word_lem b k' j,
          one_spelling c x' m (omega (arith, r, xx)),
          one_spelling d y' q (omega (arith, r, yy)),
          one_spelling t w' z (omega (arith, r, ww)),
        )
