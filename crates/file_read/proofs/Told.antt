-- What was said of a line decides as the line itself does: a number cut down to 1,000,000,001 is in no range, as it was. Assumes nothing.
use mathlib.Core.Path.{◌≡◌, refl, ap, ◌∙◌}
use mathlib.Core.Bool.{Bool, true, false, ◌&&◌}
use mathlib.Core.List.{List, []}
use Prim.Native.Nat.{ℕ, ◌*◌, ◌≤◌, ◌<◌, min}
use native.Mathlib.Omega.{arith}
use native.Mathlib.Decide.{dec_lt}
use lib.Dec.{leb, ltb}
use borrow.Author.Tests.{le-leb, lt-leb, lt-ltb, le-ltb}
use Rattle.std.specs.Prelude.{Some, None}
use Rattle.paper.specs.Net.{Kind, conv, wrap, unwrap, Link, link, Fun, fun, Net, net}
use Rattle.paper.specs.File.{Shape, misshapen, net_line, link_line, fun_line, net_fits, link_fits, fun_fits, header, bad, good, put}
use Rattle.laws.proofs.Before.{Test, holds, fails, test}
use Rattle.laws.proofs.Shapes.{link_range, fun_range, net_range}
use Rattle.network_records.specs.Kinds.{named, link_of, fun_of}
use Rattle.network_records.specs.declared.record.Link as said
use Rattle.network_records.specs.declared.record.Fun as said_too
use Rattle.file_lines.specs.declared.Said.TheVariants.{Net as SaidNet, Link as SaidLink, Fun as SaidFun}
use Rattle.digits.specs.Read.{few}
use Rattle.file_lines.specs.Said.{kind_told, said_of}

-- ## Numbers cut down

leb_few : (x k : ℕ) → k ≤ 1000000000 → leb (few x) k ≡ leb x k
leb_few x k h = go (dec_lt k x)
  where
    go : Dec (k < x) → leb (min x 1000000001) k ≡ leb x k
    go (yes g) = rw (lt-leb x k g, lt-leb (min x 1000000001) k (omega arith))
    go (no g) = let i : x ≤ k = omega arith in rw (le-leb x k i, le-leb (min x 1000000001) k (omega arith))

ltb_few : (x n : ℕ) → n ≤ 1000000000 → ltb (few x) n ≡ ltb x n
ltb_few x n h = go (dec_lt x n)
  where
    go : Dec (x < n) → ltb (min x 1000000001) n ≡ ltb x n
    go (yes g) = rw (lt-ltb x n g, lt-ltb (min x 1000000001) n (omega arith))
    go (no g) = let i : n ≤ x = omega arith in rw (le-ltb x n i, le-ltb (min x 1000000001) n (omega arith))

few_is : (x : ℕ) → x ≤ 1000000000 → few x ≡ x
few_is x h = omega arith

-- ## Records on top of those kept

link_few : (n l u v w : ℕ) → n ≤ 256 → link_fits n (link (few l) (few u) (few v) (few w)) ≡ link_fits n (link l u v w)
unfolding link_fits
link_few n l u v w h = rw (leb_few l 65535 (omega arith), ltb_few u n (omega arith), ltb_few v n (omega arith), leb_few w 1000000000 (omega arith))

fun_few : (n p v : ℕ) (k : Kind) (x y w : ℕ) → n ≤ 256 → p ≤ 16 → fun_fits n p (fun (few v) k (few x) (few y) (few w)) ≡ fun_fits n p (fun v k x y w)
unfolding fun_fits
fun_few n p v k x y w h g = rw (ltb_few v n (omega arith), ltb_few x p (omega arith), ltb_few y p (omega arith), leb_few w 1000000000 (omega arith))

kind_named : (q : Kind) → named (kind_told q) ≡ q
unfolding kind_told
kind_named conv = refl
kind_named wrap = refl
kind_named unwrap = refl

module _ (n p : ℕ) (ls : List Link) (fs : List Fun) (h : n ≤ 256) (g : p ≤ 16) where
  put_link : (l u v w : ℕ) → put (net n p ls fs) (link_line (link l u v w)) ≡ put (net n p ls fs) (link_line (link (few l) (few u) (few v) (few w)))
  unfolding put
  put_link l u v w = go (test (link_fits n (link l u v w)))
    where
      go : Test (link_fits n (link l u v w)) → put (net n p ls fs) (link_line (link l u v w)) ≡ put (net n p ls fs) (link_line (link (few l) (few u) (few v) (few w)))
      go (fails t) = rw (link_few n l u v w h, t)
      go (holds t) =
          let r = link_range n l u v w t in
          rw (few_is l (omega (arith, r)), few_is u (omega (arith, r)), few_is v (omega (arith, r)), few_is w (omega (arith, r)))

  put_fun : (v : ℕ) (k : Kind) (x y w : ℕ) → put (net n p ls fs) (fun_line (fun v k x y w)) ≡ put (net n p ls fs) (fun_line (fun (few v) k (few x) (few y) (few w)))
  unfolding put
  put_fun v k x y w = go (test (fun_fits n p (fun v k x y w)))
    where
      go : Test (fun_fits n p (fun v k x y w)) → put (net n p ls fs) (fun_line (fun v k x y w)) ≡ put (net n p ls fs) (fun_line (fun (few v) k (few x) (few y) (few w)))
      go (fails t) = rw (fun_few n p v k x y w h g, t)
      go (holds t) =
          let r = fun_range n p v k x y w t in
          rw (few_is v (omega (arith, r)), few_is x (omega (arith, r)), few_is y (omega (arith, r)), few_is w (omega (arith, r)))

  pub said_link : (s : Shape) (l : said.Link) → Some (SaidLink l) ≡ said_of s → put (net n p ls fs) s ≡ put (net n p ls fs) (link_line (link_of l))
  unfolding said_of
  said_link misshapen l e = absurd (cc)
  said_link (net_line a b) l e = absurd (cc)
  said_link (link_line (link a b c d)) l e =
      let f : record { number = few a; from = few b; to = few c; weight = few d } ≡ l = cc in
      put_link a b c d ∙ ap (λ (r : said.Link). put (net n p ls fs) (link_line (link_of r))) f
  said_link (fun_line (fun a k b c d)) l e = absurd (cc)

  pub said_fun : (s : Shape) (g : said_too.Fun) → Some (SaidFun g) ≡ said_of s → put (net n p ls fs) s ≡ put (net n p ls fs) (fun_line (fun_of g))
  unfolding said_of
  said_fun misshapen g e = absurd (cc)
  said_fun (net_line a b) g e = absurd (cc)
  said_fun (link_line (link a b c d)) g e = absurd (cc)
  said_fun (fun_line (fun a k b c d)) g e =
      let f : record { node = few a; kind = kind_told k; x = few b; y = few c; weight = few d } ≡ g = cc in
      put_fun a k b c d ∙ rw (← kind_named k) (ap (λ (r : said_too.Fun). put (net n p ls fs) (fun_line (fun_of r))) f)

pub said_net : (k : Net) (s : Shape) (a b : ℕ) → Some (SaidNet a b) ≡ said_of s → put k s ≡ bad 2
unfolding said_of put
said_net k misshapen a b e = refl
said_net k (net_line x y) a b e = refl
said_net k (link_line (link x y z w)) a b e = absurd (cc)
said_net k (fun_line (fun v j x y w)) a b e = absurd (cc)

pub said_none : (k : Net) (s : Shape) → None ≡ said_of s → put k s ≡ bad 2
unfolding said_of put
said_none k misshapen e = refl
said_none k (net_line x y) e = refl
said_none k (link_line (link x y z w)) e = absurd (cc)
said_none k (fun_line (fun v j x y w)) e = absurd (cc)

-- ## The first line

net_few : (n p : ℕ) → net_fits (few n) (few p) ≡ net_fits n p
unfolding net_fits
net_few n p = go (dec_lt 256 n) (dec_lt 16 p)
  where
    no_and : (a b c : Bool) → a && false && b ≡ a && false && c
    no_and true b c = refl
    no_and false b c = refl

    go : Dec (256 < n) → Dec (16 < p) → net_fits (few n) (few p) ≡ net_fits n p
    go (yes h) d = rw (le-leb 1 n (omega arith), lt-leb n 256 h, le-leb 1 (min n 1000000001) (omega arith), lt-leb (min n 1000000001) 256 (omega arith))
    go (no h) (no g) = let e : min n 1000000001 ≡ n = omega arith in let f : min p 1000000001 ≡ p = omega arith in rw (e, f)
    go (no h) (yes g) =
        let e : min n 1000000001 ≡ n = omega arith in
        rw (e, le-leb 1 p (omega arith), lt-leb p 16 g, le-leb 1 (min p 1000000001) (omega arith), lt-leb (min p 1000000001) 16 (omega arith))
        (no_and (leb 1 n && leb n 256 && true) (leb (n * min p 1000000001) 1024) (leb (n * p) 1024))

header_few : (n p : ℕ) → header (net_line n p) ≡ header (net_line (few n) (few p))
unfolding header
header_few n p = go (test (net_fits n p))
  where
    go : Test (net_fits n p) → header (net_line n p) ≡ header (net_line (few n) (few p))
    go (fails t) = rw (net_few n p, t)
    go (holds t) = let r = net_range n p t in rw (few_is n (omega (arith, r.1)), few_is p (omega (arith, r.3)))

header_said : (s : Shape) (n p : ℕ) → Some (SaidNet n p) ≡ said_of s → header s ≡ header (net_line n p)
unfolding said_of
header_said misshapen n p e = absurd (cc)
header_said (net_line a b) n p e = let f : net_line (few a) (few b) ≡ net_line n p = cc in header_few a b ∙ ap header f
header_said (link_line (link a b c d)) n p e = absurd (cc)
header_said (fun_line (fun a k b c d)) n p e = absurd (cc)

pub header_net : (s : Shape) (n p : ℕ) → Some (SaidNet n p) ≡ said_of s → net_fits n p ≡ true → header s ≡ good (net n p [] [])
unfolding header
header_net s n p e f = header_said s n p e ∙ rw f

pub header_wide : (s : Shape) (n p : ℕ) → Some (SaidNet n p) ≡ said_of s → net_fits n p ≡ false → header s ≡ bad 3
unfolding header
header_wide s n p e f = header_said s n p e ∙ rw f

pub header_link : (s : Shape) (l : said.Link) → Some (SaidLink l) ≡ said_of s → header s ≡ bad 2
unfolding said_of header
header_link misshapen l e = refl
header_link (net_line x y) l e = absurd (cc)
header_link (link_line (link x y z t)) l e = refl
header_link (fun_line (fun q j x y t)) l e = refl

pub header_fun : (s : Shape) (g : said_too.Fun) → Some (SaidFun g) ≡ said_of s → header s ≡ bad 2
unfolding said_of header
header_fun misshapen g e = refl
header_fun (net_line n p) g e = absurd (cc)
header_fun (link_line (link l u q t)) g e = refl
header_fun (fun_line (fun q j s u t)) g e = refl

pub header_none : (s : Shape) → None ≡ said_of s → header s ≡ bad 2
unfolding said_of header
header_none misshapen e = refl
header_none (net_line n p) e = absurd (cc)
header_none (link_line (link l u v w)) e = refl
header_none (fun_line (fun v k x y w)) e = refl
