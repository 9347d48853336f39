-- Which sections may be folded, and what decides with which others (System V gABI, "Sections": what a section's header says of it).
use Rattle.std.specs.Prelude.{ℕ, ◌+◌, ◌-◌, ℤ, pos, ◌&&◌, ◌||◌, ◌==◌, not, bit_and, Bool, false, slice_index_or, Option, Some, None, if◌then◌else◌, List, [], ◌∷◌, ◌++◌, length, map, flat_map, take, drop, slice_index}
use Rattle.std.specs.List.{filter, range_with_len}
use Rattle.std.specs.Option.{option_map_or}
use Rattle.lk_base.specs.RelocKinds.{names_a_symbol}
use Rattle.lk_base.specs.declared.abi.TheConstants.{SHF_ALLOC, SHF_EXECINSTR, SHF_GNU_RETAIN, SHF_LINK_ORDER, SHF_MERGE, SHF_TLS, SHF_WRITE, SHT_PROGBITS}
use Rattle.lk_tables.specs.declared.bounds.Spot.{Spot}
use Rattle.lk_tables.specs.declared.bounds.Spot.TheVariants as spots
use Rattle.lk_tables.specs.declared.objects.Reloc.{Reloc}
use Rattle.lk_tables.specs.declared.records.FrameNo.{FrameNo}
use Rattle.lk_tables.specs.Binding.{Bindings}
use Rattle.lk_tables.specs.Files.{File, file_at, is_section_symbol, relocs_at, section_total, symbol_at}
use Rattle.lk_tables.specs.Frames.{all_lists, frames_at}
use Rattle.lk_tables.specs.LinkerSymbols.{is_c_identifier}
use Rattle.lk_tables.specs.OutputNames.{output_name, is_init_or_fini}
use Rattle.lk_tables.specs.Records.{RecordView, first_of}
use Rattle.lk_tables.specs.Sites.{place_of}
use Rattle.lk_tables.specs.Targets.{spot_of}
use Rattle.link_sections.specs.declared.fold_items.FoldReloc.{FoldReloc}
use Rattle.link_sections.specs.declared.targets.Target.{Target}
use Rattle.link_sections.specs.FoldItems.{FoldFrame, FoldItem}
use Rattle.link_sections.specs.InputSections.{InputSection, input_of}
use Rattle.link_sections.specs.Leaders.{is_kept}
use Rattle.link_sections.specs.MergeSections.{contents}
use Rattle.link_sections.specs.PieceTargets.{piece_target}
use Rattle.link_sections.specs.PoolViews.{Merged}
use Rattle.sec_graph.specs.FrameRelocs.{cie_no, others, record_by}

-- the linker gives its name no meaning
abbrev pub is_foldable_name : List ℕ → Bool
is_foldable_name name = not (is_init_or_fini name) && not (is_c_identifier name)

-- it is executed
abbrev pub is_code : ℕ → Bool
is_code flags = not (bit_and flags SHF_ALLOC == 0) && not (bit_and flags SHF_EXECINSTR == 0)

-- none of these flags says that the section is more than its bytes
abbrev pub barring : ℕ
barring = SHF_WRITE + SHF_MERGE + SHF_TLS + SHF_GNU_RETAIN + SHF_LINK_ORDER

unfoldable pub is_foldable_input : InputSection → Bool
is_foldable_input i = i.sh_type == SHT_PROGBITS && (is_code i.flags && (bit_and i.flags barring == 0 && (not (i.size == 0) && is_foldable_name i.name)))

-- a section is barred, by its number; past the end of the list none is
abbrev pub is_barred : (barred : List Bool) → (section : ℕ) → Bool
is_barred barred section = slice_index_or barred section false

-- so many bytes from an offset on
abbrev pub part : List ℕ → (from len : ℕ) → List ℕ
part bytes from len = take len (drop from bytes)

-- the byte of its section that a relocation stands for, and what is to be added to its address
abbrev pub offset_of : Spot → ℕ
offset_of (spots.Section section offset rest) = offset
offset_of (spots.Number n) = 0
offset_of spots.Zero = 0
offset_of (spots.Linker n) = 0
offset_of spots.Unbound = 0

abbrev pub rest_of : Spot → ℤ
rest_of (spots.Section section offset rest) = rest
rest_of (spots.Number n) = pos 0
rest_of spots.Zero = pos 0
rest_of (spots.Linker n) = pos 0
rest_of spots.Unbound = pos 0

module _ (files : List File) (b : Bindings) where
  -- an FDE and its CIE, whose section has these bytes, in file f: of the FDE's bytes all but the 4 of its CIE Pointer, which follow the 4 of its Length
  unfoldable pub frame_in : (f : ℕ) → (bytes : List ℕ) → (fde cie : RecordView) → FoldFrame
  frame_in f bytes fde cie = record {
    bytes = part bytes fde.from 4 ++ part bytes (fde.from + 8) (fde.len - 4);
    cie = part bytes cie.from (4 + cie.len);
    offset = option_map_or (λ r. offset_of (spot_of files b f r)) (first_of fde.relocs) 0;
    rest = option_map_or (λ r. rest_of (spot_of files b f r)) (first_of fde.relocs) (pos 0);
    others = length (others fde.relocs);
    shared = length cie.relocs;
  }

  abbrev pub frame_of : FrameNo → FoldFrame
  frame_of fde =
      let place = place_of files fde.section in
      let lists = all_lists files in
      frame_in place.file (contents (file_at files place.file) place.index) (record_by lists fde) (record_by lists (cie_no lists fde))

  -- a section that may be folded: it is kept, and not barred
  unfoldable pub is_foldable : (kept barred : List Bool) → (section : ℕ) → Bool
  is_foldable kept barred section = is_kept kept section && (not (is_barred barred section) && is_foldable_input (input_of files b (place_of files section).file (place_of files section).index))

  -- the sections that may be folded, in order of number
  unfoldable pub foldable : (kept barred : List Bool) → List ℕ
  foldable kept barred = filter (is_foldable kept barred) (range_with_len 0 (section_total files))

-- the bytes of a section
abbrev pub contents_at : List File → (section : ℕ) → List ℕ
contents_at files section = contents (file_at files (place_of files section).file) (place_of files section).index

module _ (files : List File) (b : Bindings) (merged : List (Option Merged)) where
  -- relocation r of file f; RELAX and ALIGN name no symbol
  unfoldable pub fold_target : (f : ℕ) → Reloc → Option Target
  fold_target f r = if names_a_symbol r.kind then Some (piece_target merged (spot_of files b f r)) else None

  abbrev pub fold_reloc : (f : ℕ) → Reloc → FoldReloc
  fold_reloc f r = record {
    offset = r.offset;
    kind = r.kind;
    addend = r.addend;
    is_section_symbol = is_section_symbol (symbol_at (file_at files f) r.symbol);
    target = fold_target f r;
  }

  -- a relocation of a record that starts at an offset of its section, as folding compares it
  abbrev pub record_reloc : (f from : ℕ) → Reloc → FoldReloc
  record_reloc f from r = record {
    offset = r.offset - from;
    kind = r.kind;
    addend = r.addend;
    is_section_symbol = is_section_symbol (symbol_at (file_at files f) r.symbol);
    target = fold_target f r;
  }

  -- the relocations of an FDE but that of PC Begin, and those of its CIE
  abbrev pub other_relocs : FrameNo → List FoldReloc
  other_relocs fde =
      let own = record_by (all_lists files) fde in
      map (record_reloc (place_of files fde.section).file own.from) (others own.relocs)

  abbrev pub cie_relocs : (cie : FrameNo) → List FoldReloc
  cie_relocs cie =
      let shared = record_by (all_lists files) cie in
      map (record_reloc (place_of files cie.section).file shared.from) shared.relocs

  abbrev pub frame_fold_relocs : FrameNo → List FoldReloc
  frame_fold_relocs fde = other_relocs fde ++ cie_relocs (cie_no (all_lists files) fde)

  -- section number n, which is section k of file f
  unfoldable pub item_in : (n f k : ℕ) → FoldItem
  item_in n f k = record {
    section = n;
    bytes = contents (file_at files f) k;
    flags = (input_of files b f k).flags;
    sh_type = (input_of files b f k).sh_type;
    align = (input_of files b f k).align;
    output = output_name (input_of files b f k).name;
    own = length (relocs_at (file_at files f) k);
    frames = map (frame_of files b) (frames_at files b (all_lists files) n);
    relocs = map (fold_reloc f) (relocs_at (file_at files f) k) ++ flat_map frame_fold_relocs (frames_at files b (all_lists files) n);
  }

  abbrev pub item_of : (section : ℕ) → FoldItem
  item_of section = item_in section (place_of files section).file (place_of files section).index

  -- the section at a place of a list
  abbrev pub item_there : (sections : List ℕ) → (place : ℕ) → FoldItem
  item_there sections place = item_of (slice_index sections place)

  -- a section, if it may be folded
  abbrev pub item_if : (kept barred : List Bool) → (section : ℕ) → List FoldItem
  item_if kept barred section = if is_foldable files b kept barred section then item_of section ∷ [] else []

  -- all of them, in order of section number
  unfoldable pub items : (kept barred : List Bool) → List FoldItem
  items kept barred = flat_map (item_if kept barred) (range_with_len 0 (section_total files))
