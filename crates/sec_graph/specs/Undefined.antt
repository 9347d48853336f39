-- Symbols that kept sections, or their functions' unwind records, refer to and that stand for nothing (System V gABI, "Symbol Table": an undefined
-- WEAK symbol is 0).
use Rattle.std.specs.Prelude.{ℕ, ◌&&◌, ◌||◌, Bool, false, Option, Some, None, if◌then◌else◌, List, [], ◌∷◌, flat_map}
use Rattle.link_sections.specs.Leaders.{is_kept}
use Rattle.lk_base.specs.RelocKinds.{names_a_symbol}
use Rattle.lk_base.specs.declared.defects.Defect.{Defect}
use Rattle.lk_base.specs.declared.kinds.TheConstants.{UNDEFINED}
use Rattle.lk_tables.specs.declared.objects.Reloc.{Reloc}
use Rattle.lk_tables.specs.declared.records.FrameNo.{FrameNo}
use Rattle.lk_tables.specs.Binding.{Bindings}
use Rattle.lk_tables.specs.Files.{File, section_no}
use Rattle.lk_tables.specs.Frames.{RecordList, all_lists, frames_where}
use Rattle.lk_tables.specs.Targets.{is_undefined}
use Rattle.lk_tables.specs.Walks.{over_relocs, reloc_defect}
use Rattle.sec_graph.specs.FrameRelocs.{frame_relocs, has_reloc, list_in}

-- an FDE is for a function of a kept section
abbrev pub is_kept_owner : (kept : List Bool) → Option ℕ → Bool
is_kept_owner kept None = false
is_kept_owner kept (Some a) = is_kept kept a

module _ (files : List File) (b : Bindings) (kept : List Bool) where
  -- the FDEs of a section's records for such functions
  abbrev pub kept_frames : Option RecordList → List FrameNo
  kept_frames None = []
  kept_frames (Some l) = frames_where files b (is_kept_owner kept) l

  -- the relocations of these, and of their CIEs
  unfoldable pub needed_relocs : (section : ℕ) → List Reloc
  needed_relocs section = flat_map (frame_relocs (all_lists files)) (kept_frames (list_in (all_lists files) section))

  -- the link needs relocation r of section k of file f: the section is kept, or r is one of an FDE for a function of a kept section, or of its CIE
  abbrev pub is_needed : (f k : ℕ) → Reloc → Bool
  is_needed f k r = is_kept kept (section_no files f k) || has_reloc (needed_relocs (section_no files f k)) r

-- relocation r of section k of file f, if it is needed and the symbol is undefined
unfoldable pub undefined_at : List File → Bindings → (kept : List Bool) → (f k : ℕ) → Reloc → List Defect
undefined_at files b kept f k r = if is_needed files b kept f k r && (names_a_symbol r.kind && is_undefined files b f r.symbol)
    then reloc_defect UNDEFINED f k r 0 ∷ [] else []

abbrev pub undefined_defects : List File → Bindings → (kept : List Bool) → List Defect
undefined_defects files b kept = over_relocs files (undefined_at files b kept)
