-- The unwind records have no byte in common with the sections.
use Rattle.std.proofs.Common.{ℕ, ◌+◌, ◌-◌, ◌<◌, ◌≤◌, List, [], ◌∷◌, length, flat_map, slice_index_or, arith, inl, inr}
use Rattle.std.specs.List.{All}
use Rattle.std.proofs.lemmas.Bool.{cases_lt}
use Rattle.std.proofs.lemmas.List.Elements.{All-nil, All-head, All-tail, All-append}
use Rattle.lk_base.specs.declared.abi.TheConstants.{IMAGE_BASE}
use Rattle.link_sections.specs.declared.members.Member.{Member}
use Rattle.elf_out.proofs.MemberPieces.{MemberUp}
use Rattle.elf_out.proofs.OneByOne.{GoUp, IsAway, each_ends, each_starts}
use Rattle.reloc_apply.specs.Image.{Piece}

-- pieces that start after one, and those that end before it
pub away_after : (p : Piece) (from to : ℕ) (ps : List Piece) → p.at + length p.bytes ≤ from → GoUp from to ps → All (IsAway p) ps
away_after p from to ps end up = λ i d lt.
    let start = each_starts from to ps up i d lt in
    let le : p.at + length p.bytes ≤ (slice_index_or ps i d).at = omega (arith, end, start) in
    inl le

away_before : (p : Piece) (from to : ℕ) (ps : List Piece) → to ≤ p.at → GoUp from to ps → All (IsAway p) ps
away_before p from to ps start up = λ i d lt.
    let end = each_ends from to ps up i d lt in
    let le : (slice_index_or ps i d).at + length (slice_index_or ps i d).bytes ≤ p.at = omega (arith, start, end) in
    inr le

-- a piece between two addresses, of members none of which stands among these
one_away : (p : Piece) (from to : ℕ) (f : Member → List Piece) (m : Member) → from - IMAGE_BASE ≤ p.at → p.at + length p.bytes ≤ to - IMAGE_BASE → MemberUp f m
    → (from < m.start + m.size → to ≤ m.start) → All (IsAway p) (f m)
one_away p from to f m start end up beside = elim (cases_lt from (m.start + m.size)) [
  | inl reaches ↦
      let after : to ≤ m.start = beside reaches in
      away_after p (m.start - IMAGE_BASE) (m.start + m.size - IMAGE_BASE) (f m) (omega (arith, end, after)) up
  | inr before ↦ away_before p (m.start - IMAGE_BASE) (m.start + m.size - IMAGE_BASE) (f m) (omega (arith, start, before)) up
]

pub away_members : (p : Piece) (from to : ℕ) (f : Member → List Piece) (ms : List Member) → from - IMAGE_BASE ≤ p.at → p.at + length p.bytes ≤ to - IMAGE_BASE
    → All (MemberUp f) ms → All (λ m. from < m.start + m.size → to ≤ m.start) ms → All (IsAway p) (flat_map f ms)
away_members p from to f [] start end up beside = All-nil (IsAway p)
away_members p from to f (m ∷ ms) start end up beside =
    All-append (IsAway p) (f m) (flat_map f ms)
    (one_away p from to f m start end (All-head (MemberUp f) m ms up) (All-head (λ (k : Member). from < k.start + k.size → to ≤ k.start) m ms beside))
    (away_members p from to f ms start end (All-tail (MemberUp f) m ms up) (All-tail (λ (k : Member). from < k.start + k.size → to ≤ k.start) m ms beside))
