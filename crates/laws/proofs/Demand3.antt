-- Demand 3, of files: the normal file of an accepted file, and files whose lines stand in another order.
-- Assumes nothing.
use mathlib.Core.Path.{◌≡◌, refl, sym, ap, ◌∙◌, subst}
use mathlib.Core.Bool.{Bool, true, false}
use mathlib.Core.List.{List, [], ◌∷◌, ◌++◌, map, append_assoc, append-nil}
use mathlib.Core.Logic.{◌↔◌}
use Prim.Native.Nat.{ℕ, zero, suc, ◌+◌, ◌/◌, ◌%◌, ◌≤◌}
use native.Mathlib.Omega.{arith}
use lib.Dec.{eqb, ltb}
use lib.ListN.{length}
use borrow.Author.Tests.{ne_eqb, ltb-false, le-ltb}
use Rattle.paper.specs.Net.{Kind, conv, wrap, unwrap, Link, link, Fun, fun, Net, net}
use Rattle.paper.specs.Text.{Line, ended, cut, lines, lines_on, fields, decimal_to, decimal, net_word, link_word, fun_word, conv_word, wrap_word, unwrap_word, tabbed, written}
use Rattle.paper.specs.File.{link_key, fun_key, net_fits, Shape, misshapen, net_line, link_line, fun_line, shaped, shape, bad, good, header, onward, from_top, Judged, refused, accepted, judge}
use Rattle.paper.specs.Normal.{kind_word, link_text, fun_text, net_text, texts, normal}
use Rattle.laws.specs.Sets.{Mem, Alike, Perm, none, keep, swap, both}
use Rattle.laws.proofs.Before.{Test, holds, fails, test}
use Rattle.laws.proofs.Insert.{perm_sym, Sorted, sorted_alike}
use Rattle.laws.proofs.Spelling.{free, free_append, lines_text}
use Rattle.laws.proofs.Shapes.{link_body, fun_body, net_body, net_bytes}
use Rattle.laws.proofs.Fold.{SoundAt, went, any_order, body, head, Sound, ran}

-- ## The text of a network, line by line

free_decimal_to : (m n : ℕ) → free 10 (decimal_to m n) ≡ true
unfolding decimal_to free
free_decimal_to zero n = refl
free_decimal_to (suc m) n = go (test (ltb n 10)) (free_decimal_to m (n / 10))
  where
    one : (d : ℕ) → free 10 ((48 + d) ∷ []) ≡ true
    one d = rw (ne_eqb (48 + d) 10 (λ e. absurd (omega arith)))

    go : Test (ltb n 10) → free 10 (decimal_to m (n / 10)) ≡ true → free 10 (decimal_to (suc m) n) ≡ true
    go (holds t) h = rw t (one n)
    go (fails t) h = rw t (free_append 10 (decimal_to m (n / 10)) ((48 + n % 10) ∷ []) h (one (n % 10)))

free_decimal : (n : ℕ) → free 10 (decimal n) ≡ true
unfolding decimal
free_decimal n = free_decimal_to 20 n

free_tab : (f : List ℕ) (fs : List (List ℕ)) → free 10 f ≡ true → free 10 (tabbed fs) ≡ true → free 10 (tabbed (f ∷ fs)) ≡ true
unfolding tabbed
free_tab f fs p q = free_append 10 (9 ∷ f) (tabbed fs) (unfold free in p) q

free_tab_none : free 10 (tabbed []) ≡ true
unfolding tabbed free
free_tab_none = refl

free_kind : (k : Kind) → free 10 (kind_word k) ≡ true
unfolding kind_word conv_word wrap_word unwrap_word free
free_kind conv = refl
free_kind wrap = refl
free_kind unwrap = refl

free_link_word : free 10 link_word ≡ true
unfolding link_word free
free_link_word = refl

free_fun_word : free 10 fun_word ≡ true
unfolding fun_word free
free_fun_word = refl

free_net_word : free 10 net_word ≡ true
unfolding net_word free
free_net_word = refl

free_link : (r : Link) → free 10 (link_body r) ≡ true
unfolding link_body
free_link (link l u v w) =
    free_append 10 link_word (tabbed (decimal l ∷ decimal u ∷ decimal v ∷ decimal w ∷ [])) free_link_word
    (free_tab (decimal l) (decimal u ∷ decimal v ∷ decimal w ∷ []) (free_decimal l)
    (free_tab (decimal u) (decimal v ∷ decimal w ∷ []) (free_decimal u)
    (free_tab (decimal v) (decimal w ∷ []) (free_decimal v)
    (free_tab (decimal w) [] (free_decimal w) free_tab_none))))

free_fun : (r : Fun) → free 10 (fun_body r) ≡ true
unfolding fun_body
free_fun (fun v k x y w) =
    free_append 10 fun_word (tabbed (decimal v ∷ kind_word k ∷ decimal x ∷ decimal y ∷ decimal w ∷ [])) free_fun_word
    (free_tab (decimal v) (kind_word k ∷ decimal x ∷ decimal y ∷ decimal w ∷ []) (free_decimal v)
    (free_tab (kind_word k) (decimal x ∷ decimal y ∷ decimal w ∷ []) (free_kind k)
    (free_tab (decimal x) (decimal y ∷ decimal w ∷ []) (free_decimal x)
    (free_tab (decimal y) (decimal w ∷ []) (free_decimal y)
    (free_tab (decimal w) [] (free_decimal w) free_tab_none)))))

free_net : (n p : ℕ) → free 10 (net_body n p) ≡ true
unfolding net_body
free_net n p =
    free_append 10 net_word (tabbed (decimal n ∷ decimal p ∷ [])) free_net_word
    (free_tab (decimal n) (decimal p ∷ []) (free_decimal n) (free_tab (decimal p) [] (free_decimal p) free_tab_none))

module _ {A : Type 0} (text bytes : A → List ℕ) (is : (r : A) → text r ≡ bytes r ++ (10 ∷ [])) (clear : (r : A) → free 10 (bytes r) ≡ true) where
  lines_texts : (rs : List A) (rest : List ℕ) → lines (texts text rs ++ rest) ≡ map (λ r. ended (bytes r)) rs ++ lines rest
  unfolding texts
  lines_texts [] rest = refl
  lines_texts (r ∷ rs) rest =
      let e : text r ++ texts text rs ++ rest ≡ bytes r ++ 10 ∷ (texts text rs ++ rest) = rw (is r) (append_assoc (bytes r ++ (10 ∷ [])) (texts text rs) rest ∙ append_assoc (bytes r) (10 ∷ []) (texts text rs ++ rest)) in
      rw e (lines_text (bytes r) (texts text rs ++ rest) (clear r) ∙ ap (λ (ls : List Line). ended (bytes r) ∷ ls) (lines_texts rs rest))

link_text_lem : (r : Link) → link_text r ≡ link_body r ++ (10 ∷ [])
unfolding link_text link_body written
link_text_lem (link l u v w) = refl

fun_text_lem : (r : Fun) → fun_text r ≡ fun_body r ++ (10 ∷ [])
unfolding fun_text fun_body written
fun_text_lem (fun v k x y w) = refl

net_text_lem : (n p : ℕ) → net_text n p ≡ net_body n p ++ (10 ∷ [])
unfolding net_text net_body written
net_text_lem n p = refl

pub lines_normal : (k : Net) → lines (normal k) ≡ head k ∷ body k
unfolding normal head body
lines_normal (net n p ls fs) =
    let e : net_text n p ++ texts link_text ls ++ texts fun_text fs ≡ net_body n p ++ 10 ∷ (texts link_text ls ++ (texts fun_text fs ++ [])) =
    rw (net_text_lem n p, append-nil (texts fun_text fs)) (append_assoc (net_body n p ++ (10 ∷ [])) (texts link_text ls) (texts fun_text fs) ∙ append_assoc (net_body n p) (10 ∷ []) (texts link_text ls ++ texts fun_text fs)) in
    let f : lines (texts fun_text fs ++ []) ≡ map (λ f. ended (fun_body f)) fs = lines_texts fun_text fun_body fun_text_lem free_fun fs [] ∙ ends (map (λ f. ended (fun_body f)) fs) in
    rw e
    (lines_text (net_body n p) (texts link_text ls ++ (texts fun_text fs ++ [])) (free_net n p)
    ∙ ap (λ (r : List Line). ended (net_body n p) ∷ r)
    (lines_texts link_text link_body link_text_lem free_link ls (texts fun_text fs ++ []) ∙ ap (λ (r : List Line). map (λ l. ended (link_body l)) ls ++ r) f))
  where
    ends : (r : List Line) → r ++ lines [] ≡ r
    ends r = unfold lines in append-nil r

-- ## Lengths

unfoldable pub sizes : List Line → ℕ
sizes [] = 0
sizes (ended l ∷ ls) = suc (length l) + sizes ls
sizes (cut l ∷ ls) = length l + sizes ls

pub sizes_lines : (bs : List ℕ) → sizes (lines bs) ≡ length bs
unfolding lines sizes lines_on
sizes_lines [] = refl
sizes_lines (b ∷ bs) = go (eqb b 10) (lines bs) (sizes_lines bs)
  where
    go : (t : Bool) (ls : List Line) → sizes ls ≡ length bs → sizes (lines_on t b ls) ≡ suc (length bs)
    go true ls e = omega arith
    go false [] e = omega arith
    go false (ended l ∷ ls) e = omega arith
    go false (cut l ∷ ls) e = omega arith

pub sizes_perm : {xs ys : List Line} → Perm xs ys → sizes xs ≡ sizes ys
unfolding sizes
sizes_perm none = refl
sizes_perm (keep {a = ended l} p) = omega (arith, sizes_perm p)
sizes_perm (keep {a = cut l} p) = omega (arith, sizes_perm p)
sizes_perm (swap {a = ended l} {b = ended m} {xs}) = omega arith
sizes_perm (swap {a = ended l} {b = cut m} {xs}) = omega arith
sizes_perm (swap {a = cut l} {b = ended m} {xs}) = omega arith
sizes_perm (swap {a = cut l} {b = cut m} {xs}) = omega arith
sizes_perm (both p q) = sizes_perm p ∙ sizes_perm q

-- ## An accepted file, opened

record Started (h : Line) (k : Net) : Type 0 where
  first : h ≡ head k
  sound : Sound k
  none_yet : body k ≡ []

none_sound : (n p : ℕ) → net_fits n p ≡ true → SoundAt n p [] []
unfolding Sorted Mem
none_sound n p e =
    record {
      fits = e;
      links = tt;
      funs = tt;
      links_fit = λ l m. absurd m;
      funs_fit = λ f m. absurd m;
      few_links = omega arith;
      few_funs = omega arith;
    }

started : (h : Line) (k : Net) → header (shape h) ≡ good k → Started h k
unfolding shape header
started (cut l) k e = absurd (let z : ◌≡◌ {A = ℕ} 0 1 = cc in omega arith)
started (ended l) k e = go (shaped (fields l)) refl e
  where
    go : (s : Shape) → shaped (fields l) ≡ s → header s ≡ good k → Started (ended l) k
    go misshapen d f = absurd (let z : ◌≡◌ {A = ℕ} 0 1 = cc in omega arith)
    go (link_line r) d f = absurd (let z : ◌≡◌ {A = ℕ} 0 1 = cc in omega arith)
    go (fun_line r) d f = absurd (let z : ◌≡◌ {A = ℕ} 0 1 = cc in omega arith)
    go (net_line n p) d f = fit (test (net_fits n p))
      where
        fit : Test (net_fits n p) → Started (ended l) k
        fit (fails t) = absurd (let g : bad 3 ≡ good k = rw t at f in let z : ◌≡◌ {A = ℕ} 0 1 = cc in omega arith)
        fit (holds t) =
            let g : good (net n p [] []) ≡ good k = rw t at f in
            let i : net n p [] [] ≡ k = cc in
            subst (λ (j : Net). Started (ended l) j) i
            (record {
              first = unfold head in (ap ended (net_bytes n p l d t));
              sound = none_sound n p t;
              none_yet = unfold body in refl;
            })

record Opened (file : List ℕ) (m : Net) : Type 0 where
  small : length file ≤ 65536
  first : Line
  rest : List Line
  are : lines file ≡ first ∷ rest
  at : Net
  top : header (shape first) ≡ good at
  on : onward 1 rest (good at) ≡ accepted m

opened : (file : List ℕ) (m : Net) → judge file ≡ accepted m → Opened file m
unfolding judge from_top
opened file m e = go (test (ltb 65536 (length file)))
  where
    through : (ls : List Line) → lines file ≡ ls → length file ≤ 65536 → from_top ls ≡ accepted m → Opened file m
    through [] d s f = absurd (let z : ◌≡◌ {A = ℕ} 0 1 = cc in omega arith)
    through (l ∷ ls) d s f = let w = went ls 1 (header (shape l)) m f in record { small = s; first = l; rest = ls; are = d; at = w.after; top = w.kept; on = w.rest }

    go : Test (ltb 65536 (length file)) → Opened file m
    go (holds t) = absurd (let f : refused 1 0 ≡ accepted m = rw t at e in let z : ◌≡◌ {A = ℕ} 0 1 = cc in omega arith)
    go (fails t) = through (lines file) refl (ltb-false 65536 (length file) t) (rw t at e)

closed : (file : List ℕ) (h : Line) (ls : List Line) (k m : Net) → length file ≤ 65536 → lines file ≡ h ∷ ls → header (shape h) ≡ good k → onward 1 ls (good k) ≡ accepted m
    → judge file ≡ accepted m
unfolding judge from_top
closed file h ls k m s e f g = rw (le-ltb 65536 (length file) s, e, f) g

-- what is known of an accepted file
pub record Known (file : List ℕ) (m : Net) : Type 0 where
  pub sound : Sound m
  pub order : Perm (lines file) (lines (normal m))
  pub again : judge (normal m) ≡ accepted m

pub known : (file : List ℕ) (m : Net) → judge file ≡ accepted m → Known file m
known file m e =
    let o = opened file m e in
    let s = started o.first o.at o.top in
    let r = ran o.rest 1 o.at m s.sound o.on in
    let p : Perm o.rest (body m) = rw (append-nil o.rest) at (rw s.none_yet at r.lines) in
    let h : o.first ≡ head m = s.first ∙ sym r.top in
    let q : Perm (lines file) (lines (normal m)) = rw (o.are, lines_normal m, h) (keep p) in
    let z : length (normal m) ≡ length file = sym (sizes_lines (normal m)) ∙ sym (sizes_perm q) ∙ sizes_lines file in
    record {
      sound = r.sound;
      order = q;
      again = closed (normal m) (head m) (body m) o.at m (rw z o.small) (lines_normal m) (rw h at o.top) (any_order p 1 1 o.at m o.on);
    }

-- ## Demand 3

-- (c) the normal file is exactly as long as the file that it came from
pub normal_length : (file : List ℕ) (m : Net) → judge file ≡ accepted m → length (normal m) ≡ length file
normal_length file m e = sym (sizes_lines (normal m)) ∙ sym (sizes_perm (known file m e).order) ∙ sizes_lines file

-- (b) the normal file is accepted with the same header and records; so its own normal file is itself
pub normal_again : (file : List ℕ) (m : Net) → judge file ≡ accepted m → judge (normal m) ≡ accepted m
normal_again file m e = (known file m e).again

-- it holds the lines of the file, in another order
pub normal_lines : (file : List ℕ) (m : Net) → judge file ≡ accepted m → Perm (lines file) (lines (normal m))
normal_lines file m e = (known file m e).order

-- (a) normal files are equal exactly when header and sets of records are the same
pub record Same (n p : ℕ) (ls : List Link) (fs : List Fun) (m q : ℕ) (ms : List Link) (gs : List Fun) : Type 0 where
  pub nodes : n ≡ m
  pub protocols : p ≡ q
  pub links : Alike ls ms
  pub funs : Alike fs gs

alike_eq : {A : Type 0} (xs ys : List A) → xs ≡ ys → Alike xs ys
alike_eq xs ys e = rw e (record { there = λ a m. m; back = λ a m. m })

-- two accepted files with the same header and records hold the same network
pub same_network : (file other : List ℕ) (n p : ℕ) (ls : List Link) (fs : List Fun) (m q : ℕ) (ms : List Link) (gs : List Fun)
    → judge file ≡ accepted (net n p ls fs) → judge other ≡ accepted (net m q ms gs)
    → Same n p ls fs m q ms gs → net n p ls fs ≡ net m q ms gs
same_network file other n p ls fs m q ms gs e f s =
    let k = (known file (net n p ls fs) e).sound in
    let j = (known other (net m q ms gs) f).sound in
    let u : ls ≡ ms = sorted_alike link_key ls ms k.links j.links s.links in
    let v : fs ≡ gs = sorted_alike fun_key fs gs k.funs j.funs s.funs in
    let x = s.nodes in
    let y = s.protocols in
    cc

pub normal_same : (file other : List ℕ) (n p : ℕ) (ls : List Link) (fs : List Fun) (m q : ℕ) (ms : List Link) (gs : List Fun)
    → judge file ≡ accepted (net n p ls fs) → judge other ≡ accepted (net m q ms gs)
    → normal (net n p ls fs) ≡ normal (net m q ms gs) ↔ Same n p ls fs m q ms gs
normal_same file other n p ls fs m q ms gs e f = (there, λ s. ap normal (same_network file other n p ls fs m q ms gs e f s))
  where
    there : normal (net n p ls fs) ≡ normal (net m q ms gs) → Same n p ls fs m q ms gs
    there g =
        let h : accepted (net n p ls fs) ≡ accepted (net m q ms gs) =
        sym (normal_again file (net n p ls fs) e) ∙ ap judge g ∙ normal_again other (net m q ms gs) f in
        record { nodes = cc; protocols = cc; links = alike_eq ls ms (cc); funs = alike_eq fs gs (cc) }

-- lines below the first in another order: the same network
pub other_order : (file other : List ℕ) (h : Line) (ls ms : List Line) (m : Net) → lines file ≡ h ∷ ls → lines other ≡ h ∷ ms → Perm ls ms
    → judge file ≡ accepted m → judge other ≡ accepted m
other_order file other h ls ms m d e p j =
    let o = opened file m j in
    let both_are : o.first ∷ o.rest ≡ h ∷ ls = sym o.are ∙ d in
    let hh : o.first ≡ h = cc in
    let ll : o.rest ≡ ls = cc in
    let size : length other ≡ length file = sym (sizes_lines other) ∙ (rw (e, d) (sym (sizes_perm (keep p)))) ∙ sizes_lines file in
    closed other h ms o.at m (rw size o.small) e (rw hh at o.top) (any_order p 1 1 o.at m (rw ll at o.on))

-- (d) a refused file stays refused for every order of the lines below its first
pub record Refused (file : List ℕ) : Type 0 where
  pub number : ℕ
  pub line : ℕ
  pub so : judge file ≡ refused number line

pub still_refused : (file other : List ℕ) (h : Line) (ls ms : List Line) → lines file ≡ h ∷ ls → lines other ≡ h ∷ ms → Perm ls ms → Refused file → Refused other
still_refused file other h ls ms d e p r = go (judge other) refl
  where
    go : (j : Judged) → judge other ≡ j → Refused other
    go (refused n i) f = record { number = n; line = i; so = f }
    go (accepted m) f =
        absurd
        (let g : judge file ≡ accepted m = other_order other file h ms ls m e d (perm_sym p) f in
        let i = sym r.so ∙ g in
        let z : ◌≡◌ {A = ℕ} 0 1 = cc in omega arith)
