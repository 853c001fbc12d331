-- The fold over the lines: in whatever order the lines below the first stand, it keeps the same network.
-- Assumes nothing.
use mathlib.Core.Path.{◌≡◌, refl, sym, ◌∙◌, subst}
use mathlib.Core.Bool.{Bool, true, false, not}
use mathlib.Core.List.{List, [], ◌∷◌, ◌++◌, map}
use mathlib.Core.Logic.{◌⊎◌, inl, inr}
use Prim.Native.Nat.{ℕ, suc, ◌<◌, ◌≤◌}
use native.Mathlib.Omega.{arith}
use lib.Dec.{leb}
use lib.ListN.{length}
use borrow.Author.Tests.{leb-false, lt-leb}
use Rattle.paper.specs.Net.{Link, Fun, Net, net}
use Rattle.paper.specs.Text.{Line, ended, cut, fields}
use Rattle.paper.specs.File.{link_key, fun_key, net_fits, link_fits, fun_fits, insert, given, Shape, misshapen, net_line, link_line, fun_line, shaped, shape, Kept, bad, good, put, onward, refused, accepted}
use Rattle.laws.specs.Sets.{Mem, Perm, none, keep, swap, both}
use Rattle.laws.proofs.Before.{Test, holds, fails, test, not-true}
use Rattle.laws.proofs.Insert.{perm_refl, perm_middle, perm_front, perm_back, length_insert, insert_perm, swapped, Sorted, mem_insert, sorted_insert}
use Rattle.laws.proofs.Shapes.{link_body, fun_body, net_body, link_bytes, fun_bytes, net_range}

-- ## One line

-- a line that is kept, and what it makes of the network
pub data Added (n p : ℕ) (ls : List Link) (fs : List Fun) : Shape → Net → Type 0 where
  link_added : (l : Link) → link_fits n l ≡ true → given link_key l ls ≡ false → length ls < 1024 → Added n p ls fs (link_line l) (net n p (insert link_key l ls) fs)
  fun_added : (f : Fun) → fun_fits n p f ≡ true → given fun_key f fs ≡ false → length fs < 1024 → Added n p ls fs (fun_line f) (net n p ls (insert fun_key f fs))

abbrev pub AddedTo : Net → Shape → Net → Type 0
AddedTo (net n p ls fs) s m = Added n p ls fs s m

pub put_added : (k : Net) (s : Shape) (m : Net) → AddedTo k s m → put k s ≡ good m
unfolding put
put_added (net n p ls fs) s m (link_added l f g h) = rw (f, g, lt-leb 1024 (length ls) h)
put_added (net n p ls fs) s m (fun_added l f g h) = rw (f, g, lt-leb 1024 (length fs) h)

pub added : (k : Net) (s : Shape) (m : Net) → put k s ≡ good m → AddedTo k s m
unfolding put
added k misshapen m e = absurd (let z : ◌≡◌ {A = ℕ} 0 1 = cc in omega arith)
added k (net_line a b) m e = absurd (let z : ◌≡◌ {A = ℕ} 0 1 = cc in omega arith)
added (net n p ls fs) (link_line l) m e = go (test (not (link_fits n l))) (test (given link_key l ls)) (test (leb 1024 (length ls)))
  where
    to : good (net n p (insert link_key l ls) fs) ≡ good m → link_fits n l ≡ true → given link_key l ls ≡ false → length ls < 1024 → Added n p ls fs (link_line l) m
    to e f g h = let d : net n p (insert link_key l ls) fs ≡ m = cc in subst (λ (k : Net). Added n p ls fs (link_line l) k) d (link_added l f g h)

    no : (d : ℕ) → bad d ≡ good m → Added n p ls fs (link_line l) m
    no d e = absurd (let z : ◌≡◌ {A = ℕ} 0 1 = cc in omega arith)

    go : Test (not (link_fits n l)) → Test (given link_key l ls) → Test (leb 1024 (length ls)) → Added n p ls fs (link_line l) m
    go (holds a) b c = no 3 (rw a at e)
    go (fails a) (holds b) c = no 4 (rw (a, b) at e)
    go (fails a) (fails b) (holds c) = no 5 (rw (a, b, c) at e)
    go (fails a) (fails b) (fails c) = to (rw (a, b, c) at e) (not-true (link_fits n l) a) b (leb-false 1024 (length ls) c)
added (net n p ls fs) (fun_line l) m e = go (test (not (fun_fits n p l))) (test (given fun_key l fs)) (test (leb 1024 (length fs)))
  where
    to : good (net n p ls (insert fun_key l fs)) ≡ good m → fun_fits n p l ≡ true → given fun_key l fs ≡ false → length fs < 1024 → Added n p ls fs (fun_line l) m
    to e f g h = let d : net n p ls (insert fun_key l fs) ≡ m = cc in subst (λ (k : Net). Added n p ls fs (fun_line l) k) d (fun_added l f g h)

    no : (d : ℕ) → bad d ≡ good m → Added n p ls fs (fun_line l) m
    no d e = absurd (let z : ◌≡◌ {A = ℕ} 0 1 = cc in omega arith)

    go : Test (not (fun_fits n p l)) → Test (given fun_key l fs) → Test (leb 1024 (length fs)) → Added n p ls fs (fun_line l) m
    go (holds a) b c = no 3 (rw a at e)
    go (fails a) (holds b) c = no 4 (rw (a, b) at e)
    go (fails a) (fails b) (holds c) = no 5 (rw (a, b, c) at e)
    go (fails a) (fails b) (fails c) = to (rw (a, b, c) at e) (not-true (fun_fits n p l) a) b (leb-false 1024 (length fs) c)

-- ## Two lines, the other way round

record Other (k : Net) (s t : Shape) (m : Net) : Type 0 where
  mid : Net
  one : AddedTo k t mid
  two : AddedTo mid s m

other_way : (k : Net) (s t : Shape) (j m : Net) → AddedTo k s j → AddedTo j t m → Other k s t m
other_way (net n p ls fs) s t j m (link_added a f g h) (link_added b u v w) =
    let x = swapped link_key a b ls g v in
    let y = length_insert link_key a ls in
    let z = length_insert link_key b ls in
    record {
      mid = net n p (insert link_key b ls) fs;
      one = link_added b u x.other (omega arith);
      two = subst (λ (k : List Link). Added n p (insert link_key b ls) fs (link_line a) (net n p k fs)) x.laid (link_added a f x.one (omega arith));
    }
other_way (net n p ls fs) s t j m (link_added a f g h) (fun_added b u v w) = record { mid = net n p ls (insert fun_key b fs); one = fun_added b u v w; two = link_added a f g h }
other_way (net n p ls fs) s t j m (fun_added a f g h) (link_added b u v w) = record { mid = net n p (insert link_key b ls) fs; one = link_added b u v w; two = fun_added a f g h }
other_way (net n p ls fs) s t j m (fun_added a f g h) (fun_added b u v w) =
    let x = swapped fun_key a b fs g v in
    let y = length_insert fun_key a fs in
    let z = length_insert fun_key b fs in
    record {
      mid = net n p ls (insert fun_key b fs);
      one = fun_added b u x.other (omega arith);
      two = subst (λ (k : List Fun). Added n p ls (insert fun_key b fs) (fun_line a) (net n p ls k)) x.laid (fun_added a f x.one (omega arith));
    }

-- ## All lines

pub onward_bad : (i d : ℕ) (xs : List Line) → onward i xs (bad d) ≡ refused d i
unfolding onward
onward_bad i d [] = refl
onward_bad i d (x ∷ xs) = refl

-- where the lines after what was kept are accepted, something was kept
pub record Went (xs : List Line) (i : ℕ) (r : Kept) (m : Net) : Type 0 where
  pub after : Net
  pub kept : r ≡ good after
  pub rest : onward i xs (good after) ≡ accepted m

pub went : (xs : List Line) (i : ℕ) (r : Kept) (m : Net) → onward i xs r ≡ accepted m → Went xs i r m
went xs i (bad d) m e = absurd (let f = sym (onward_bad i d xs) ∙ e in let z : ◌≡◌ {A = ℕ} 0 1 = cc in omega arith)
went xs i (good k) m e = record { after = k; kept = refl; rest = e }

-- the number of the line does not matter to what is accepted
pub recount : (xs : List Line) (i j : ℕ) (k m : Net) → onward i xs (good k) ≡ accepted m → onward j xs (good k) ≡ accepted m
unfolding onward
recount [] i j k m e = e
recount (x ∷ xs) i j k m e = let w = went xs (suc i) (put k (shape x)) m e in rw w.kept (recount xs (suc i) (suc j) w.after m w.rest)

pub onward_step : (i : ℕ) (x : Line) (xs : List Line) (k j : Net) → put k (shape x) ≡ good j → onward i (x ∷ xs) (good k) ≡ onward (suc i) xs (good j)
unfolding onward
onward_step i x xs k j e = rw e

pub any_order : {xs ys : List Line} → Perm xs ys → (i j : ℕ) (k m : Net) → onward i xs (good k) ≡ accepted m → onward j ys (good k) ≡ accepted m
unfolding onward
any_order none i j k m e = e
any_order (keep {a} {xs} {ys} p) i j k m e =
    let w = went xs (suc i) (put k (shape a)) m e in rw w.kept (any_order p (suc i) (suc j) w.after m w.rest)
any_order (swap {a} {b} {xs}) i j k m e =
    let w = went (b ∷ xs) (suc i) (put k (shape a)) m e in
    let v = went xs (suc (suc i)) (put w.after (shape b)) m w.rest in
    let o = other_way k (shape a) (shape b) w.after v.after (added k (shape a) w.after w.kept) (added w.after (shape b) v.after v.kept) in
    onward_step j b (a ∷ xs) k o.mid (put_added k (shape b) o.mid o.one)
    ∙ onward_step (suc j) a xs o.mid v.after (put_added o.mid (shape a) v.after o.two)
    ∙ recount xs (suc (suc i)) (suc (suc j)) v.after m v.rest
any_order (both {xs} {ys} {zs} p q) i j k m e = any_order q i j k m (any_order p i i k m e)

-- ## What is kept is the lines read

-- the lines below the first that a network has in its normal file
unfoldable pub body : Net → List Line
body (net n p ls fs) = map (λ l. ended (link_body l)) ls ++ map (λ f. ended (fun_body f)) fs

perm_map : {A B : Type 0} (f : A → B) {xs ys : List A} → Perm xs ys → Perm (map f xs) (map f ys)
perm_map f none = none
perm_map f (keep p) = keep (perm_map f p)
perm_map f swap = swap
perm_map f (both p q) = both (perm_map f p) (perm_map f q)

-- the header is in range, and the records are in order, in range and few
pub record SoundAt (n p : ℕ) (ls : List Link) (fs : List Fun) : Type 0 where
  pub fits : net_fits n p ≡ true
  pub links : Sorted link_key ls
  pub funs : Sorted fun_key fs
  pub links_fit : (l : Link) → Mem l ls → link_fits n l ≡ true
  pub funs_fit : (f : Fun) → Mem f fs → fun_fits n p f ≡ true
  pub few_links : length ls ≤ 1024
  pub few_funs : length fs ≤ 1024

each_insert : {A : Type 0} (key : A → List ℕ) (b : A → Bool) (r : A) (ss : List A) → b r ≡ true → ((t : A) → Mem t ss → b t ≡ true) → (t : A) → Mem t (insert key r ss) → b t ≡ true
each_insert key b r ss e h t m = go (mem_insert key t r ss m)
  where
    go : (t ≡ r) ⊎ Mem t ss → b t ≡ true
    go (inl q) = rw q e
    go (inr n) = h t n

abbrev pub Sound : Net → Type 0
Sound (net n p ls fs) = SoundAt n p ls fs

-- the net line of a network
unfoldable pub head : Net → Line
head (net n p ls fs) = ended (net_body n p)

pub record Grown (k : Net) (x : Line) (m : Net) : Type 0 where
  pub sound : Sound m
  pub top : head m ≡ head k
  pub lines : Perm (x ∷ body k) (body m)

grown_at : (n p : ℕ) (ls : List Link) (fs : List Fun) (l : List ℕ) (t : Shape) (m : Net) → SoundAt n p ls fs → shaped (fields l) ≡ t → Added n p ls fs t m
    → Grown (net n p ls fs) (ended l) m
unfolding head body
grown_at n p ls fs l t m s e (link_added r f g h) =
    let is = link_bytes n r l e (net_range n p s.fits).1 f in
    record {
      sound =
          record {
            fits = s.fits;
            links = sorted_insert link_key r ls g s.links;
            funs = s.funs;
            links_fit = each_insert link_key (link_fits n) r ls f s.links_fit;
            funs_fit = s.funs_fit;
            few_links = omega (arith, length_insert link_key r ls);
            few_funs = s.few_funs;
          };
      top = refl;
      lines = rw is (perm_back (map (λ f. ended (fun_body f)) fs) (perm_map (λ l. ended (link_body l)) (insert_perm link_key r ls)));
    }
grown_at n p ls fs l t m s e (fun_added r f g h) =
    let is = fun_bytes n p r l e (net_range n p s.fits).1 (net_range n p s.fits).3 f in
    record {
      sound =
          record {
            fits = s.fits;
            links = s.links;
            funs = sorted_insert fun_key r fs g s.funs;
            links_fit = s.links_fit;
            funs_fit = each_insert fun_key (fun_fits n p) r fs f s.funs_fit;
            few_links = s.few_links;
            few_funs = omega (arith, length_insert fun_key r fs);
          };
      top = refl;
      lines =
          rw is
          (both (perm_middle (ended (fun_body r)) (map (λ l. ended (link_body l)) ls) (map (λ f. ended (fun_body f)) fs))
          (perm_front (map (λ l. ended (link_body l)) ls) (perm_map (λ f. ended (fun_body f)) (insert_perm fun_key r fs))));
    }

not_cut : (n p : ℕ) (ls : List Link) (fs : List Fun) (t : Shape) (m : Net) → t ≡ misshapen → Added n p ls fs t m → ⊥
not_cut n p ls fs t m e (link_added r f g h) = let z : ◌≡◌ {A = ℕ} 0 1 = cc in omega arith
not_cut n p ls fs t m e (fun_added r f g h) = let z : ◌≡◌ {A = ℕ} 0 1 = cc in omega arith

pub grown : (k : Net) (x : Line) (m : Net) → Sound k → AddedTo k (shape x) m → Grown k x m
unfolding shape
grown (net n p ls fs) (cut l) m s a = absurd (not_cut n p ls fs misshapen m refl a)
grown (net n p ls fs) (ended l) m s a = grown_at n p ls fs l (shaped (fields l)) m s refl a

-- the lines read, with what was kept before them, are the lines kept, in another order
pub record Ran (k : Net) (xs : List Line) (m : Net) : Type 0 where
  pub sound : Sound m
  pub top : head m ≡ head k
  pub lines : Perm (xs ++ body k) (body m)

pub ran : (xs : List Line) (i : ℕ) (k m : Net) → Sound k → onward i xs (good k) ≡ accepted m → Ran k xs m
unfolding onward
ran [] i k m s e = let f : k ≡ m = cc in subst (λ (j : Net). Ran k [] j) f (record { sound = s; top = refl; lines = perm_refl (body k) })
ran (x ∷ xs) i k m s e =
    let w = went xs (suc i) (put k (shape x)) m e in
    let g = grown k x w.after s (added k (shape x) w.after w.kept) in
    let r = ran xs (suc i) w.after m g.sound w.rest in
    record {
      sound = r.sound;
      top = r.top ∙ g.top;
      lines = both (perm_middle x xs (body k)) (both (perm_front xs g.lines) r.lines);
    }
