-- What a relocation stands for once equal pieces of sections are merged (RISC-V ELF psABI, "Relocations": S and A).
use Rattle.std.specs.Prelude.{ℕ, ◌-◌, nat_le, ℤ, Option, Some, None, List, slice_index_or}
use Rattle.std.specs.List.{prefix_len}
use Rattle.lk_tables.specs.declared.bounds.Spot.{Spot}
use Rattle.lk_tables.specs.declared.bounds.Spot.TheVariants as spots
use Rattle.lk_tables.specs.Binding.{Bindings}
use Rattle.lk_tables.specs.Files.{File}
use Rattle.lk_tables.specs.Sites as sites
use Rattle.link_sections.specs.declared.pieces.Part.{Part}
use Rattle.link_sections.specs.declared.targets.Target.{Target}
use Rattle.link_sections.specs.declared.targets.Target.TheVariants as targets
use Rattle.link_sections.specs.PoolViews.{Merged, merged_at}

abbrev pub no_part : Part
no_part = record { start = 0; piece = 0 }

-- the part that holds an offset of a section: the last one that starts there or before, so that the section's end belongs to its last part
unfoldable pub part_at : List Part → (offset : ℕ) → Part
part_at parts offset = slice_index_or parts (prefix_len (λ p. nat_le p.start offset) parts - 1) no_part

abbrev pub in_part : (pool : ℕ) → Part → (offset : ℕ) → (rest : ℤ) → Target
in_part pool part offset rest = targets.Piece pool part.piece (offset - part.start) rest

abbrev pub in_section : Option Merged → (section offset : ℕ) → (rest : ℤ) → Target
in_section None section offset rest = targets.Section section offset rest
in_section (Some m) section offset rest = in_part m.pool (part_at m.parts offset) offset rest

-- the target of a spot, in a piece if its section is merged
unfoldable pub piece_target : List (Option Merged) → Spot → Target
piece_target merged (spots.Section section offset rest) = in_section (merged_at merged section) section offset rest
piece_target merged (spots.Number n) = targets.Number n
piece_target merged spots.Zero = targets.Zero
piece_target merged (spots.Linker name) = targets.Linker name
piece_target merged spots.Unbound = targets.Unbound

-- what relocation number `reloc` of a section stands for
abbrev pub target_at : List File → Bindings → List (Option Merged) → (section reloc : ℕ) → Target
target_at files b merged section reloc = piece_target merged (sites.spot_at files b section reloc)
