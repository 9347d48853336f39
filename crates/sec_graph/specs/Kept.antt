-- Which sections a kept section keeps, in the rules' own words (System V gABI, "Sections": SHF_LINK_ORDER; "Section Groups"; LSB Core, "Exception
-- Frames").
use Rattle.std.specs.Prelude.{◌≡◌, ◌≢◌, ℕ, ◌<◌, ℤ, bit_and, Bool, true, Contains, List, length}
use Rattle.link_sections.specs.InputSections.{input_at, input_of, may_stay}
use Rattle.lk_base.specs.RelocKinds.{names_a_symbol}
use Rattle.lk_base.specs.declared.abi.TheConstants.{SHF_LINK_ORDER}
use Rattle.lk_tables.specs.declared.bounds.Spot.TheVariants.{Linker, Section}
use Rattle.lk_tables.specs.declared.objects.Reloc.{Reloc}
use Rattle.lk_tables.specs.declared.records.FrameNo.{FrameNo}
use Rattle.lk_tables.specs.Binding.{Bindings}
use Rattle.lk_tables.specs.Files.{File, file_at, section_at, section_count, section_no, relocs_at}
use Rattle.lk_tables.specs.Frames.{all_lists, frames_at}
use Rattle.lk_tables.specs.LinkerSymbols.{bound_section, is_bound_no}
use Rattle.lk_tables.specs.Objects.{GroupView}
use Rattle.lk_tables.specs.Reach.{ends_at}
use Rattle.lk_tables.specs.Sites.{place_of}
use Rattle.lk_tables.specs.Targets.{spot_of}
use Rattle.sec_graph.specs.FrameRelocs.{frame_relocs}

-- section k of file f takes part in the link and may be kept
pub record MayStay (files : List File) (b : Bindings) (f k : ℕ) : Type 0 where
  pub file : f < length files
  pub index : k < section_count (file_at files f)
  pub stays : may_stay files b f k ≡ true

-- index k is in the section table of file f
abbrev pub IsInTable : List File → (f k : ℕ) → Type 0
IsInTable files f k = k < length (file_at files f).head.sections

-- with each section that may be kept a set of section numbers has the target sections of its relocations, all sections of each name to whose
-- start or end they refer, the target sections of the other relocations of its FDEs and of those of their CIEs, the sections flagged LINK_ORDER of
-- which sh_link names it, and the members of its groups
pub record IsClosedByRules (files : List File) (b : Bindings) (s : ℕ → Bool) : Type 0 where
  pub targets : (f k : ℕ) (r : Reloc) (section offset : ℕ) (rest : ℤ) → MayStay files b f k → s (section_no files f k) ≡ true
      → Contains (relocs_at (file_at files f) k) r → names_a_symbol r.kind ≡ true → spot_of files b f r ≡ Section section offset rest
      → s section ≡ true
  pub bounds : (f k g j : ℕ) (r : Reloc) (n : ℕ) → MayStay files b f k → s (section_no files f k) ≡ true
      → Contains (relocs_at (file_at files f) k) r → names_a_symbol r.kind ≡ true → spot_of files b f r ≡ Linker n → is_bound_no n ≡ true
      → MayStay files b g j → (input_of files b g j).name ≡ (input_at files b (bound_section n)).name
      → s (section_no files g j) ≡ true
  pub frames : (f k : ℕ) (fde : FrameNo) (r : Reloc) (section offset : ℕ) (rest : ℤ) → MayStay files b f k → s (section_no files f k) ≡ true
      → Contains (frames_at files b (all_lists files) (section_no files f k)) fde → Contains (frame_relocs (all_lists files) fde) r
      → names_a_symbol r.kind ≡ true → spot_of files b (place_of files fde.section).file r ≡ Section section offset rest → s section ≡ true
  pub links : (f k j : ℕ) → MayStay files b f k → IsInTable files f k → s (section_no files f k) ≡ true
      → MayStay files b f j → bit_and (section_at (file_at files f) j).flags SHF_LINK_ORDER ≢ 0 → (section_at (file_at files f) j).link ≡ k → k ≢ 0
      → s (section_no files f j) ≡ true
  pub groups : (f i j : ℕ) (group : GroupView) → Contains (file_at files f).object.groups group → Contains group.members i → Contains group.members j
      → MayStay files b f i → IsInTable files f i → MayStay files b f j → IsInTable files f j → s (section_no files f i) ≡ true
      → s (section_no files f j) ≡ true

-- with each section a set of section numbers has the ends of its list
abbrev pub HasEnds : (lists : List (List ℕ)) → (s : ℕ → Bool) → Type 0
HasEnds lists s = (section end : ℕ) → s section ≡ true → Contains (ends_at lists section) end → s end ≡ true
