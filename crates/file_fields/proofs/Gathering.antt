-- Numbers of a row of fields, gathered one after another. Assumes nothing.
use Rattle.std.proofs.Common.{◌≡◌, ◌∙◌, refl, sym, ap, List, [], ◌∷◌, ◌++◌, length, take, set, ℕ, suc, ◌+◌, ◌-◌, ◌<◌, Option, Some, None, arith, append_assoc, append-nil}
use Rattle.std.proofs.Math.Seq.{take-length}
use Rattle.std.proofs.lemmas.List.{take_more_set}
use Rattle.std.proofs.Math.ListN.{length-set}
use Rattle.std.specs.Option.{option_map}
use Rattle.paper.specs.Text.{number}
use Rattle.digits.specs.Read.{told}
use Rattle.file_fields.specs.Fields.{field_of, numbers}

-- what is told of n fields from field k on is what is told of those past the first i, behind the first i numbers of out
pub record Gathered (l : List ℕ) (k n i : ℕ) (out : List ℕ) : Type 0 where
  pub size : length out ≡ n
  pub same : numbers l k n ≡ option_map (λ vs. take i out ++ vs) (numbers l (k + i) (n - i))

in_front : (a : List ℕ) (v : ℕ) (o : Option (List ℕ)) → option_map (λ vs. a ++ vs) (option_map (λ vs. v ∷ vs) o) ≡ option_map (λ vs. (a ++ v ∷ []) ++ vs) o
in_front a v None = refl
in_front a v (Some vs) = ap Some (sym (append_assoc a (v ∷ []) vs))

nothing_in_front : (o : Option (List ℕ)) → o ≡ option_map (λ vs. [] ++ vs) o
nothing_in_front None = refl
nothing_in_front (Some vs) = refl

pub gathered_start : (l : List ℕ) (k n : ℕ) (out : List ℕ) → length out ≡ n → Gathered l k n 0 out
gathered_start l k n out h =
    let p : k + 0 ≡ k = omega arith in
    let q : n - 0 ≡ n = omega arith in
    record { size = h; same = rw (p, q) (nothing_in_front (numbers l k n)) }

pub gathered_more : (l : List ℕ) (k n i v : ℕ) (out : List ℕ) → Gathered l k n i out → i < n → Some v ≡ told (number (field_of l (k + i))) → Gathered l k n (i + 1) (set out i v)
unfolding numbers
gathered_more l k n i v out g h e =
    let p : n - i ≡ suc (n - (i + 1)) = omega arith in
    let q : k + (i + 1) ≡ suc (k + i) = omega arith in
    let b : i < length out = omega (arith, g.size) in
    record { size = length-set out i v ∙ g.size; same = g.same ∙ rw (p, ← e, q, take_more_set out i v b) (in_front (take i out) v (numbers l (suc (k + i)) (n - (i + 1)))) }

pub gathered_none : (l : List ℕ) (k n i : ℕ) (out : List ℕ) → Gathered l k n i out → i < n → None ≡ told (number (field_of l (k + i))) → None ≡ numbers l k n
unfolding numbers
gathered_none l k n i out g h e =
    let p : n - i ≡ suc (n - (i + 1)) = omega arith in
    rw (g.same, p, ← e)

pub gathered_all : (l : List ℕ) (k n i : ℕ) (out : List ℕ) → Gathered l k n i out → i ≡ n → Some out ≡ numbers l k n
unfolding numbers
gathered_all l k n i out g e =
    let p : n - i ≡ 0 = omega arith in
    let q : i ≡ length out = omega (arith, g.size) in
    rw (g.same, p, q, take-length out, append-nil out)

pub ruleset gathered = (gathered_start, gathered_more, gathered_none, gathered_all)
