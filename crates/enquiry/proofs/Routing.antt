-- From a file in memory to the outcome table. Assumes nothing.
use Prim.Native.Nat.{ℕ}
use mathlib.Core.Path.{◌≡◌, refl, sym, ap, ◌∙◌}
use mathlib.Core.List.{List}
use Rattle.std.specs.Prelude.{Ok, Err}
use Rattle.paper.specs.File.{refused, judge}
use Rattle.paper.specs.Outcome.{Outcome, refusal, Rooms, Routed, bad_file, good_file}
use Rattle.paper.specs.Faults.{number_of}
use Rattle.paper.specs.declared.fault.Refusal.{Refusal}
use Rattle.paper.specs.declared.place.Enquiry.{Enquiry}
use Rattle.network_records.specs.declared.Size.{Size}
use Rattle.network_records.specs.Columns.{link_rows, fun_rows, net_of, hop_of}
use Rattle.file_read.specs.Judge.{judged_of}
use Rattle.network.specs.Network.{nodes, protocols, hop_in}
use Rattle.network.specs.Arranged.{Arranged}
use Rattle.network_arrange.specs.Arrangement.{Arrangement}
use Rattle.enquiry.specs.Loaded.{Holds}
use Rattle.enquiry.specs.Ready.{AnswersIn}

module _ (file : List ℕ) (ls fs : List ℕ) where
  pub loaded_bad : (r : Refusal) → judged_of (Err r) ls fs ≡ judge file → judge file ≡ refused (number_of r.fault) r.line
  loaded_bad r e = sym e

  pub loaded_good : (z : Size) (g : List ℕ) → judged_of (Ok z) ls fs ≡ judge file → Arrangement z ls fs g → Arranged g → hop_in g ≡ hop_of z ls fs → Holds file g
  unfolding net_of hop_of
  loaded_good z g e a o l =
      let n : nodes g ≡ z.nodes = ap (λ (y : Size). y.nodes) a.headed in
      let p : protocols g ≡ z.protocols = ap (λ (y : Size). y.protocols) a.headed in
      record {
        arranged = o;
        links = link_rows z.links ls;
        funs = fun_rows z.funs fs;
        accepts = rw (n, p) (sym e);
        leads = l ∙ rw (n, p) refl;
      }

module _ (file : List ℕ) (S a D b : ℕ) (o : Outcome) where
  pub routed_bad : (q : Refusal) (r : Rooms) → judge file ≡ refused (number_of q.fault) q.line → o ≡ refusal (number_of q.fault) q.line → Routed file S a D b r o r
  routed_bad q r e f = rw f (bad_file e)

  pub routed_good : (g : List ℕ) (e : Enquiry) (r s : Rooms) (u : Outcome) → Holds file g → e.start.node ≡ S → e.start.protocol ≡ a → e.end.node ≡ D → e.end.protocol ≡ b
      → AnswersIn g e.start e.end r u s → o ≡ u → Routed file S a D b r o s
  routed_good g e r s u h eS ea eD eb y f = rw f (good_file h.accepts (rw (h.leads, eS, ea, eD, eb) at y))
