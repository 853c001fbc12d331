-- One enquiry of a run; between two of them the tables and the cleared choice room stay as they are. Assumes nothing.
use mathlib.Core.Path.{◌≡◌, sym, ap, ◌∙◌}
use mathlib.Core.Bool.{Bool, true, false}
use mathlib.Core.List.{List}
use mathlib.Core.Option.{Option}
use Prim.Native.Nat.{ℕ, ◌≤◌}
use native.Mathlib.Nat.{mul-le-mul}
use native.Mathlib.Omega.{arith}
use lib.ListN.{length}
use Rattle.paper.specs.Net.{Key}
use Rattle.paper.specs.Trace.{trace}
use Rattle.paper.specs.Program.{Replies, six, seven, on}
use Rattle.paper.specs.declared.outcome.Outcome.{Outcome as Returned}
use Rattle.paper.specs.Outcome.{Outcome, outcome, outcome_of, refusal, known, Ends, eight, nine, ten, eleven, zero as found}
use Rattle.laws.proofs.Laid.{length_laid}
use Rattle.network.specs.Network.{places}
use Rattle.tables.specs.Lent.{Lent}
use Rattle.enquiry.specs.Ready.{Ready, cleared}

told : Outcome → ℕ
told (outcome d i w s l) = l

module _ {hop : Key → ℕ → Option (ℕ × ℕ)} {n p S a D b : ℕ} {tabled : Bool} {Q T : List ℕ} where
  pub is_6 : (k : Bool) → k ≡ known n p S a D b → k ≡ false → Replies hop n p S a D b tabled Q T (refusal 6 0) Q T
  is_6 k e f = six (sym e ∙ f)

  pub is_7 : (k : Bool) → k ≡ known n p S a D b → k ≡ true → tabled ≡ false → Replies hop n p S a D b tabled Q T (refusal 7 0) Q T
  is_7 k e f t = seven (sym e ∙ f) t

  pub goes_on : (k : Bool) {o : Outcome} {Q' T' : List ℕ} → k ≡ known n p S a D b → k ≡ true → tabled ≡ true → Ends hop n p S a D b Q T o Q' T' → Replies hop n p S a D b tabled Q T o Q' T'
  goes_on k e f t h = on (sym e ∙ f) t h

  -- what is told to be in the text room is there
  pub in_room : (o : Returned) {u : Outcome} {Q' T' : List ℕ} → outcome_of o ≡ u → Replies hop n p S a D b tabled Q T u Q' T' → o.length ≤ length T'
  unfolding told
  in_room o e r = omega (arith, ap told e, go r)
    where
      ends : {o : Outcome} {Q' T' : List ℕ} → Ends hop n p S a D b Q T o Q' T' → told o ≤ length T'
      ends (eight h) = omega arith
      ends (nine h) = omega arith
      ends (ten h g) = omega arith
      ends (eleven h g) = omega arith
      ends (found {ks = ks} {w = w} h g) = omega (arith, g, length_laid T 0 (trace hop S a ks w))

      go : {o : Outcome} {Q' T' : List ℕ} → Replies hop n p S a D b tabled Q T o Q' T' → told o ≤ length T'
      go (six h) = omega arith
      go (seven h t) = omega arith
      go (on h t e) = ends e

pub still_ready : (g W C X X' : List ℕ) → X' ≡ cleared g X → Ready g W C X → Ready g W C X'
still_ready g W C X X' e r = let f : X' ≡ X = e ∙ sym r.clear in rw f r

-- the tables of 64 places fit the program's rooms
pub small : (g : List ℕ) (N : ℕ) (W C X : List ℕ) → N ≡ places g → N ≤ 64 → length W ≡ 4096 → length C ≡ 4096 → length X ≡ 32768 → Lent g W C X
small g N W C X e h w c x =
    let m : places g ≤ 64 = rw e at h in
    let q = mul-le-mul m m in
    record { weights = omega (arith, q); counts = omega (arith, q); choices = omega (arith, q) }
