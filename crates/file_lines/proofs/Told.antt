-- What the reader says of a line by its number of fields, from the numbers that it read there. Assumes nothing.
use Rattle.std.proofs.Common.{◌≡◌, ◌∙◌, refl, ap, List, [], ◌∷◌, ℕ, get_or, Option, Some, None}
use Rattle.std.specs.Option.{option_map, option_and_then}
use mathlib.Core.Option as maths
use Rattle.paper.specs.Text.{number}
use Rattle.paper.specs.Net as net
use Rattle.paper.specs.File.{Shape, kind_of, net_of, link_of, fun_of}
use Rattle.digits.specs.Read.{told}
use Rattle.network_records.specs.Kinds.{named}
use Rattle.network_records.specs.declared.kind.Kind.{Kind}
use Rattle.file_fields.specs.Fields.{field_of, numbers}
use Rattle.file_lines.specs.declared.Said.{Said}
use Rattle.file_lines.specs.declared.Said.TheVariants.{Net as SaidNet, Link as SaidLink, Fun as SaidFun}
use Rattle.file_lines.specs.Said.{kind_told, told_kind, said_of}

abbrev pub net_said : List ℕ → Said
net_said vs = SaidNet (get_or vs 0 0) (get_or vs 1 0)

abbrev pub link_said : List ℕ → Said
link_said vs = SaidLink (record { number = get_or vs 0 0; from = get_or vs 1 0; to = get_or vs 2 0; weight = get_or vs 3 0 })

abbrev pub fun_said : ℕ → Kind → List ℕ → Said
fun_said v k vs = SaidFun (record { node = v; kind = k; x = get_or vs 0 0; y = get_or vs 1 0; weight = get_or vs 2 0 })

module _ (l : List ℕ) where
  abbrev pub net_shape : Shape
  net_shape = net_of (number (field_of l 1)) (number (field_of l 2))

  abbrev pub link_shape : Shape
  link_shape = link_of (number (field_of l 1)) (number (field_of l 2)) (number (field_of l 3)) (number (field_of l 4))

  abbrev pub fun_shape : Shape
  fun_shape = fun_of (number (field_of l 1)) (kind_of (field_of l 2)) (number (field_of l 3)) (number (field_of l 4)) (number (field_of l 5))

  -- ## All that is read is told

  net_told : option_map net_said (numbers l 1 2) ≡ said_of net_shape
  unfolding numbers told net_of said_of
  net_told = go (number (field_of l 1)) (number (field_of l 2))
    where
      go : (a b : maths.Option ℕ) → option_map net_said (option_and_then (λ v. option_map (λ vs. v ∷ vs) (option_and_then (λ w. Some (w ∷ [])) (told b))) (told a)) ≡ said_of (net_of a b)
      go maths.none b = refl
      go (maths.some n) maths.none = refl
      go (maths.some n) (maths.some p) = refl

  link_told : option_map link_said (numbers l 1 4) ≡ said_of link_shape
  unfolding numbers told link_of said_of
  link_told = go (number (field_of l 1)) (number (field_of l 2)) (number (field_of l 3)) (number (field_of l 4))
    where
      on : maths.Option ℕ → Option (List ℕ) → Option (List ℕ)
      on a o = option_and_then (λ v. option_map (λ vs. v ∷ vs) o) (told a)

      go : (a b c d : maths.Option ℕ) → option_map link_said (on a (on b (on c (on d (Some []))))) ≡ said_of (link_of a b c d)
      go maths.none b c d = refl
      go (maths.some n) maths.none c d = refl
      go (maths.some n) (maths.some u) maths.none d = refl
      go (maths.some n) (maths.some u) (maths.some v) maths.none = refl
      go (maths.some n) (maths.some u) (maths.some v) (maths.some w) = refl

  fun_told : option_and_then (λ v. option_and_then (λ k. option_map (fun_said v k) (numbers l 3 3)) (told_kind (kind_of (field_of l 2)))) (told (number (field_of l 1))) ≡ said_of fun_shape
  unfolding numbers told told_kind fun_of said_of
  fun_told = go (number (field_of l 1)) (kind_of (field_of l 2)) (number (field_of l 3)) (number (field_of l 4)) (number (field_of l 5))
    where
      on : maths.Option ℕ → Option (List ℕ) → Option (List ℕ)
      on a o = option_and_then (λ v. option_map (λ vs. v ∷ vs) o) (told a)

      go : (a : maths.Option ℕ) (b : maths.Option net.Kind) (c d e : maths.Option ℕ) → option_and_then (λ v. option_and_then (λ k. option_map (fun_said v k) (on c (on d (on e (Some []))))) (told_kind b)) (told a) ≡ said_of (fun_of a b c d e)
      go maths.none b c d e = refl
      go (maths.some v) maths.none c d e = refl
      go (maths.some v) (maths.some k) maths.none d e = refl
      go (maths.some v) (maths.some k) (maths.some x) maths.none e = refl
      go (maths.some v) (maths.some k) (maths.some x) (maths.some y) maths.none = refl
      go (maths.some v) (maths.some k) (maths.some x) (maths.some y) (maths.some w) = refl

  -- ## At each exit

  pub net_some : (vs : List ℕ) → Some vs ≡ numbers l 1 2 → Some (net_said vs) ≡ said_of net_shape
  net_some vs e = ap (option_map net_said) e ∙ net_told

  pub net_none : None ≡ numbers l 1 2 → None ≡ said_of net_shape
  net_none e = ap (option_map net_said) e ∙ net_told

  pub link_some : (vs : List ℕ) → Some vs ≡ numbers l 1 4 → Some (link_said vs) ≡ said_of link_shape
  link_some vs e = ap (option_map link_said) e ∙ link_told

  pub link_none : None ≡ numbers l 1 4 → None ≡ said_of link_shape
  link_none e = ap (option_map link_said) e ∙ link_told

  pub fun_some : (v : ℕ) (k : Kind) (vs : List ℕ) → Some v ≡ told (number (field_of l 1)) → Some k ≡ told_kind (kind_of (field_of l 2)) → Some vs ≡ numbers l 3 3
      → Some (fun_said v k vs) ≡ said_of fun_shape
  fun_some v k vs e f g = rw (← e, ← f, ← g) at fun_told

  pub fun_no_node : None ≡ told (number (field_of l 1)) → None ≡ said_of fun_shape
  fun_no_node e = rw (← e) at fun_told

  pub fun_no_kind : (v : ℕ) → Some v ≡ told (number (field_of l 1)) → None ≡ told_kind (kind_of (field_of l 2)) → None ≡ said_of fun_shape
  fun_no_kind v e f = rw (← e, ← f) at fun_told

  pub fun_no_numbers : (v : ℕ) (k : Kind) → Some v ≡ told (number (field_of l 1)) → Some k ≡ told_kind (kind_of (field_of l 2)) → None ≡ numbers l 3 3 → None ≡ said_of fun_shape
  fun_no_numbers v k e f g = rw (← e, ← f, ← g) at fun_told

pub ruleset nets = (net_some, net_none)

pub ruleset links = (link_some, link_none)

pub ruleset funs = (fun_some, fun_no_node, fun_no_kind, fun_no_numbers)

-- a kind that is told is the paper's
pub named_told : (k : net.Kind) → named (kind_told k) ≡ k
unfolding kind_told
named_told net.conv = refl
named_told net.wrap = refl
named_told net.unwrap = refl
