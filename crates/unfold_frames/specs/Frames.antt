-- The records of the open levels, held in the choice room one after another: record k begins at entry (words + 5) × k.
-- A record is: place, hidden protocol, weight left (low half, high half), steps left, then a bit for each place, 16 to a word.
-- Assumes nothing: these are definitions.
use Rattle.std.specs.Prelude.{ℕ, zero, suc, ◌+◌, ◌*◌, ◌/◌, ◌%◌, ◌^◌, ◌<◌, ◌≡◌, Bool, ◌&&◌, List, [], ◌∷◌, eqb, ltb, get_or, set, replicate}
use Rattle.std.specs.Int.Bits.{bit_or}
use Rattle.paper.specs.Net.{place}
use Rattle.laws.specs.Unfold.{Frame, frame}

-- the words that hold a bit for each of m places
abbrev pub words_for : ℕ → ℕ
words_for m = (m + 15) / 16

-- digit b of the word w is set
unfoldable pub bit : ℕ → ℕ → Bool
bit w b = eqb (w / 2 ^ b % 2) 1

-- a record of these numbers, with no place marked
unfoldable pub blank : (words place hidden weight steps : ℕ) → List ℕ
blank words place hidden weight steps = place ∷ hidden ∷ weight % 65536 ∷ weight / 65536 ∷ steps ∷ replicate words 0

-- the record that begins at entry o has these numbers, whatever it marks
pub record Headed (L : List ℕ) (o place hidden weight steps : ℕ) : Type 0 where
  pub at_place : get_or L o 0 ≡ place
  pub at_hidden : get_or L (o + 1) 0 ≡ hidden
  pub at_low : get_or L (o + 2) 0 ≡ weight % 65536
  pub at_high : get_or L (o + 3) 0 ≡ weight / 65536
  pub at_steps : get_or L (o + 4) 0 ≡ steps

-- the room with place i marked in the record that begins at entry o
unfoldable pub with_mark : List ℕ → ℕ → ℕ → List ℕ
with_mark L o i = set L (o + 5 + i / 16) (bit_or (get_or L (o + 5 + i / 16) 0) (2 ^ (i % 16)))

-- whether place i is marked in the record that begins at entry o
unfoldable pub mark : (words : ℕ) → List ℕ → ℕ → ℕ → Bool
mark words L o i = ltb i (16 * words) && bit (get_or L (o + 5 + i / 16) 0) (i % 16)

module _ (p words : ℕ) where
  -- the record that begins at entry o
  unfoldable pub held_at : List ℕ → ℕ → Frame
  held_at L o = frame (get_or L o 0 / p) (get_or L o 0 % p) (get_or L (o + 1) 0) (get_or L (o + 2) 0 + 65536 * get_or L (o + 3) 0) (get_or L (o + 4) 0) (λ u y. mark words L o (place p u y))

  -- record k
  abbrev pub held : List ℕ → ℕ → Frame
  held L k = held_at L ((words + 5) * k)

  -- the records before number k, the last first
  unfoldable pub below : List ℕ → ℕ → List Frame
  below L zero = []
  below L (suc k) = held L k ∷ below L k

  -- the records up to number k are the same
  pub record Kept (k : ℕ) (L L' : List ℕ) : Type 0 where
    pub same : (i : ℕ) → i < (words + 5) * suc k → get_or L i 0 ≡ get_or L' i 0
