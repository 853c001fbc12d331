-- A text written piece by piece, and how long it is. Assumes nothing.
use mathlib.Core.Path.{◌≡◌, refl, sym, ap, ◌∙◌}
use mathlib.Core.List.{List, [], ◌∷◌, ◌++◌, append_assoc, append-nil}
use Prim.Native.Nat.{ℕ, ◌+◌}
use native.Mathlib.Omega.{arith}
use lib.ListN.{length, get_or, length-append}
use Rattle.paper.specs.Net.{Key, key}
use Rattle.paper.specs.Route.{At, at}
use Rattle.paper.specs.Text.{decimal, tabbed, written, step_word}
use Rattle.paper.specs.Normal.{kind_word}
use Rattle.paper.specs.Trace.{dotted, step_line}
use Rattle.network_records.specs.Columns.{kind_of_code}
use Rattle.digits.specs.declared.write.Writer.{Writer}
use Rattle.digits.specs.Write.{Wrote, Leaves}
use Rattle.digits.proofs.Writing.{leaves_all, leaves_less, leaves_none}
use Rattle.trace_stack.specs.Items.{below}
use Rattle.trace_replay.specs.declared.packet.Packet.{Packet}
use Rattle.trace_replay.specs.Keys.{key_of}
use Rattle.trace_replay.specs.Packet.{whereabouts}
use Rattle.trace_stepline.specs.Texts.{joined, pieces, key_text, end_text}

-- of the pieces us, which go into w's room, ts are left, and w is now v
pub record Pieces (w v : Writer) (us ts : List (List ℕ)) : Type 0 where
  pub left : Leaves w v (joined us) (joined ts)

pub begin : (w : Writer) (us : List (List ℕ)) → Pieces w w us us
begin w us = record { left = leaves_all w (joined us) }

module _ {w v : Writer} {us ts : List (List ℕ)} {t : List ℕ} where
  pub go_on : {x : Writer} → Pieces w v us (t ∷ ts) → Wrote v x t → Pieces w x us ts
  unfolding joined
  go_on l p = record { left = leaves_less l.left p }

pub ended : {w v : Writer} {us : List (List ℕ)} → Pieces w v us [] → Wrote w v (joined us)
unfolding joined
ended l = leaves_none l.left

-- ## Lines as pieces

tabbed_pieces : (fs : List (List ℕ)) → tabbed fs ++ (10 ∷ []) ≡ joined (pieces fs)
unfolding tabbed joined pieces
tabbed_pieces [] = refl
tabbed_pieces (f ∷ fs) = append_assoc (9 ∷ f) (tabbed fs) (10 ∷ []) ∙ ap (λ (t : List ℕ). (9 ∷ f) ++ t) (tabbed_pieces fs)

pub written_pieces : (w : List ℕ) (fs : List (List ℕ)) → written w fs ≡ joined (w ∷ pieces fs)
unfolding written joined
written_pieces w fs = append_assoc w (tabbed fs) (10 ∷ []) ∙ ap (λ (t : List ℕ). w ++ t) (tabbed_pieces fs)

joined_append : (ts us : List (List ℕ)) → joined (ts ++ us) ≡ joined ts ++ joined us
unfolding joined
joined_append [] us = refl
joined_append (t ∷ ts) us = ap (λ (r : List ℕ). t ++ r) (joined_append ts us) ∙ sym (append_assoc t (joined ts) (joined us))

-- the pieces of keyText, of a key as four numbers
abbrev pub key_pieces : List ℕ → List (List ℕ)
key_pieces k = step_word ∷ (9 ∷ decimal (get_or k 0 0)) ∷ (9 ∷ kind_word (kind_of_code (get_or k 1 0))) ∷ (9 ∷ decimal (get_or k 2 0)) ∷ (9 ∷ decimal (get_or k 3 0)) ∷ []

-- and of endText
abbrev pub end_pieces : ℕ → List ℕ → List (List ℕ)
end_pieces v s = (9 ∷ decimal v) ∷ (9 ∷ dotted s) ∷ (10 ∷ []) ∷ []

-- the two parts of a step line
pub two_parts : (k : Key) (c : At) → step_line k c ≡ joined (key_text k ∷ end_text c ∷ [])
unfolding step_line key_text end_text pieces joined
two_parts (key l c x y) (at v s w) =
    written_pieces step_word (decimal l ∷ kind_word c ∷ decimal x ∷ decimal y ∷ decimal v ∷ dotted s ∷ [])
    ∙ joined_append (step_word ∷ (9 ∷ decimal l) ∷ (9 ∷ kind_word c) ∷ (9 ∷ decimal x) ∷ (9 ∷ decimal y) ∷ []) (end_pieces v s)
    ∙ ap (λ (t : List ℕ). key_text (key l c x y) ++ t) (sym (append-nil (joined (end_pieces v s))))

-- ## How long the parts are

pub key_size : (k : List ℕ) → length (key_text (key_of k))
    ≡ 8 + length (decimal (get_or k 0 0)) + length (kind_word (kind_of_code (get_or k 1 0))) + length (decimal (get_or k 2 0)) + length (decimal (get_or k 3 0))
unfolding key_text key_of joined step_word
key_size k = simp length-append (omega arith)

pub end_size : (p : Packet) (cs : List ℕ) → length (end_text (whereabouts p cs)) ≡ 3 + length (decimal p.node) + length (dotted (below cs p.height))
unfolding end_text whereabouts joined
end_size p cs = simp length-append (omega arith)

pub step_size : (k : Key) (c : At) → length (step_line k c) ≡ length (key_text k) + length (end_text c)
unfolding joined
step_size k c = omega (arith, ap length (two_parts k c), length-append (key_text k) (end_text c ++ []), length-append (end_text c) [])
