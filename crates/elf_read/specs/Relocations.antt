-- What the steps of reading a relocation section give: relocations with the numbers of their entries, and which of them meets an
-- earlier one.
use Rattle.std.specs.Prelude.{ℕ, ◌+◌, Bool, ◌&&◌, ◌||◌, nat_lt, Option, Some, None, if◌then◌else◌, List, [], ◌∷◌, length, map, slice_index_or}
use Rattle.std.specs.List.{range_with_len}
use Rattle.lk_base.specs.RelocKinds.{moves_bytes}
use Rattle.lk_tables.specs.declared.objects.Reloc.{Reloc}
use Rattle.lk_tables.specs.Files.{no_reloc}
use Rattle.lk_tables.specs.Relocations.{end_of, reloc}
use Rattle.elf_read.specs.declared.relocations.Extent.{Extent}
use Rattle.elf_read.specs.declared.relocations.Numbered.{Numbered}

-- relocations with their numbers
abbrev pub numbered : List ℕ → (i j : ℕ) → Numbered
numbered b i j = record { number = j; reloc = reloc b i j }

abbrev pub number_at : List Reloc → ℕ → Numbered
number_at rs k = record { number = k; reloc = slice_index_or rs k no_reloc }

abbrev pub all_numbered : List Reloc → List Numbered
all_numbered rs = map (number_at rs) (range_with_len 0 (length rs))

abbrev pub offset_of : Numbered → ℕ
offset_of e = e.reloc.offset

-- the bytes of a relocation
abbrev pub extent_of : (contents : List ℕ) → Reloc → Extent
extent_of contents r = record { from = r.offset; end = end_of contents r; moves = moves_bytes r.kind }

-- the furthest end of bytes so far, that of those after which bytes may move, and bytes that start before one of them
unfoldable pub later_end : ℕ → Extent → ℕ
later_end end p = if nat_lt p.from p.end && nat_lt end p.end then p.end else end

unfoldable pub later_moving_end : ℕ → Extent → ℕ
later_moving_end end p = if (nat_lt p.from p.end && p.moves) && nat_lt end p.end then p.end else end

unfoldable pub is_met : Extent → (moving_end end : ℕ) → Bool
is_met q moving_end end = nat_lt q.from q.end && (nat_lt q.from moving_end || (q.moves && nat_lt q.from end))

-- the number of the first that is met, counted from `at`
unfoldable pub first_met : (moving_end end at : ℕ) → List Extent → Option ℕ
first_met moving_end end at [] = None
first_met moving_end end at (q ∷ qs) =
    if is_met q moving_end end then Some at else first_met (later_moving_end moving_end q) (later_end end q) (at + 1) qs
