-- The rule of the queue between the loader and the parsers.
use Rattle.std.specs.Prelude.{◌≡◌, ◌≢◌, ℕ, ◌+◌, List, [], AllPairs, sum_by}
use mathlib.Core.Option.{some}
use lib.ListN.{get_elem?}
use Rattle.piped_reads.specs.declared.pieces.Piece.{Piece}
use Rattle.piped_reads.specs.declared.pieces.Piece.TheVariants.{Loaded, End}
use Rattle.piped_reads.specs.declared.rule.Hand.{Hand}

abbrev pub hand : (put taken : List Piece) → Hand
hand put taken = record { put = put; taken = taken }

-- two pieces are not of one index
abbrev pub IsApart : Piece → Piece → Type 0
IsApart (Loaded i _) (Loaded j _) = i ≢ j
IsApart (End i) (End j) = i ≢ j
IsApart _ _ = Unit {0}

-- Only the first pass, the loader's, has put anything, and no two pieces of one index. What it has put is what all passes have taken and what the
-- queue holds, each piece as often: whatever pieces weigh, both weigh the same.
pub record IsFair (items : List Piece) (views : List Hand) : Type 0 where
  pub others : (seat : ℕ) (v : Hand) → get_elem? views seat ≡ some v → seat ≢ 0 → v.put ≡ []
  pub apart : (v : Hand) → get_elem? views 0 ≡ some v → AllPairs IsApart v.put
  pub fair : (weight : Piece → ℕ) → sum_by (λ (v : Hand). sum_by weight v.put) views ≡ sum_by (λ (v : Hand). sum_by weight v.taken) views + sum_by weight items
