-- The bytes of a section with its relocations done, and what is wrong with them (RISC-V ELF psABI, "Relocations").
use Rattle.std.specs.Prelude.{ℕ, ◌+◌, ◌-◌, ◌==◌, ◌&&◌, not, nat_lt, min, max, ℤ, pos, ◌-ℤ◌, Bool, Option, Some, None, is_some, if◌then◌else◌, List, [], ◌∷◌, ◌++◌, zero, suc, length, take, drop, flat_map, slice_index_or}
use Rattle.std.specs.Int.{to_le_bytes, w64}
use Rattle.std.specs.List.{list_any, range_with_len}
use Rattle.lk_base.specs.Arithmetic.{bits_of}
use Rattle.lk_base.specs.Reaches.{Reach}
use Rattle.lk_base.specs.RelocKinds.{Kind, is_lower, is_uleb}
use Rattle.lk_base.specs.declared.abi.TheConstants.{IMAGE_BASE, SHT_NOBITS}
use Rattle.lk_base.specs.declared.defects.Defect.{Defect}
use Rattle.lk_base.specs.declared.kinds.TheConstants as kinds
use Rattle.lk_tables.specs.declared.bounds.Bound.{Bound}
use Rattle.lk_tables.specs.declared.bounds.Bound.TheVariants.{InSection, Number, Linker, Nobody}
use Rattle.lk_tables.specs.declared.objects.Reloc.{Reloc}
use Rattle.lk_tables.specs.Binding.{Bindings}
use Rattle.lk_tables.specs.Files.{File, no_reloc, section_total}
use Rattle.lk_tables.specs.Sites as sites
use Rattle.lk_tables.specs.Sites.{relocs_of}
use Rattle.lk_tables.specs.Targets.{bound}
use Rattle.lk_tables.specs.Misfits.{value_defects}
use Rattle.lk_tables.specs.Walks.{reloc_defect}
use Rattle.link_sections.specs.declared.got.GotEntry.{GotEntry}
use Rattle.link_sections.specs.declared.got.GotUse.{GotUse}
use Rattle.link_sections.specs.declared.got.GotUse.TheVariants.{Address, ThreadOffset, GeneralDynamic}
use Rattle.link_sections.specs.declared.members.Content.{Content}
use Rattle.link_sections.specs.declared.members.Content.TheVariants.{Section, Pool, Got}
use Rattle.link_sections.specs.declared.members.Member.{Member}
use Rattle.link_sections.specs.Addresses.{no_pool, symbol_address}
use Rattle.link_sections.specs.Calls.{acting_kind, width_in}
use Rattle.link_sections.specs.InputSections.{input_at}
use Rattle.link_sections.specs.LaidOut.{LaidOut, cuts_at, start_at}
use Rattle.link_sections.specs.Leaders.{is_number, leads}
use Rattle.rv_code.specs.Places.{patched, held_at}
use Rattle.rv_code.specs.Uleb.{uleb_patched, uleb_reach}
use Rattle.reloc_apply.specs.Image.{Piece, piece}
use Rattle.reloc_apply.specs.Staying.{staying}
use Rattle.reloc_apply.specs.Values.{offset_of, partner_of, sum_of, value_of}

-- which values a place takes that a kind fills: one that is a ULEB128 number as many bits as its bytes have
abbrev pub reach_in : (uleb : Bool) → Kind → (width : ℕ) → Reach
reach_in uleb kind width = if uleb then uleb_reach width else kind.reach

-- the bytes of a place with a value in it; without a value as they were
abbrev pub filled : (uleb : Bool) → Kind → Option ℤ → (place : List ℕ) → List ℕ
filled uleb kind None place = place
filled uleb kind (Some v) place = if uleb then uleb_patched v place else patched kind.field v place

-- the words of an entry of the linker's table: the address; the offset from the thread pointer; module 1 and the offset there, of which the
-- ABI takes 0x800 away. A symbol that nothing defines gives 0
abbrev pub offset_word : Bound → (address from : ℕ) → ℕ
offset_word Nobody address from = 0
offset_word (InSection section offset) address from = bits_of (pos address -ℤ pos from)
offset_word (Number n) address from = bits_of (pos address -ℤ pos from)
offset_word (Linker n) address from = bits_of (pos address -ℤ pos from)

abbrev pub entry_words : GotUse → Bound → (address thread : ℕ) → List ℕ
entry_words Address bound address thread = bits_of (pos address) ∷ []
entry_words ThreadOffset bound address thread = offset_word bound address thread ∷ []
entry_words GeneralDynamic bound address thread = 1 ∷ offset_word bound address (thread + 0x800) ∷ []

module _ (files : List File) (b : Bindings) (leaders : List (Option ℕ)) (laid : LaidOut) where
  -- how many bytes the place of relocation r of section n has
  abbrev pub width_at : (n : ℕ) → Reloc → ℕ
  width_at n r = width_in (sites.contents_at files n) (cuts_at laid n) r

  -- relocation number k of section n
  abbrev pub reloc_at : (n k : ℕ) → Reloc
  reloc_at n k = slice_index_or (relocs_of files n) k no_reloc

  -- V of relocation r: the number that its place holds; if the place is a ULEB128 number, S + A of p, the relocation before it, which is the
  -- first part of the pair
  unfoldable pub operand : (n : ℕ) → (p r : Reloc) → (held : ℤ) → ℤ
  operand n p r held = if is_uleb r.kind then sum_of files b leaders laid n p else held

  -- of relocation r, which comes after p: a lower part without a partner, or a value that does not fit; the kinds that add to what their
  -- place holds take every value
  unfoldable pub reloc_defects : (n : ℕ) → (p r : Reloc) → List Defect
  reloc_defects n p r = if is_lower r.kind && not (is_some (partner_of files b leaders laid n r))
      then reloc_defect kinds.NO_PARTNER (sites.place_of files n).file (sites.place_of files n).index r 0 ∷ []
      else value_defects (sites.place_of files n) r (reach_in (is_uleb r.kind) (acting_kind (cuts_at laid n) r) (width_at n r))
      (value_of files b leaders laid n r (operand n p r (pos 0)))

  -- of relocation number k of a section; before the first one nothing comes but that one itself
  abbrev pub defects_at : (n k : ℕ) → List Defect
  defects_at n k = reloc_defects n (reloc_at n (k - 1)) (reloc_at n k)

  -- of the relocations of a section, if it is its own leader
  unfoldable pub section_defects : (n : ℕ) → List Defect
  section_defects n = if leads leaders n then flat_map (defects_at n) (range_with_len 0 (length (relocs_of files n))) else []

  -- of all, in order of section number and offset, which is that of file, section and offset
  unfoldable pub relocation_defects : List Defect
  relocation_defects = flat_map section_defects (range_with_len 0 (section_total files))

  -- what relocation r of section n, which comes after p, makes of the section's bytes
  abbrev pub put : (n : ℕ) → (p r : Reloc) → List ℕ → List ℕ
  put n p r bytes =
      let at = offset_of files b leaders laid n r in
      let width = width_at n r in
      take at bytes
      ++ (filled (is_uleb r.kind) (acting_kind (cuts_at laid n) r) (value_of files b leaders laid n r (operand n p r (held_at width at bytes))) (take width (drop at bytes))
      ++ drop (at + width) bytes)

  -- the bytes that section n has in its file, and those of them that stay
  abbrev pub contents_at : (n : ℕ) → List ℕ
  contents_at n = sites.contents_at files n

  unfoldable pub staying_at : (n : ℕ) → List ℕ
  staying_at n = staying (cuts_at laid n) 0 (contents_at n)

  -- the bytes of section n once the first k of its relocations are done, in order
  unfoldable pub bytes_after : (n k : ℕ) → List ℕ
  bytes_after n zero = staying_at n
  bytes_after n (suc k) = put n (reloc_at n (k - 1)) (reloc_at n k) (bytes_after n k)

  -- the value of relocation k of section n: its place holds what the relocations before it left there
  unfoldable pub value_at : (n k : ℕ) → Option ℤ
  value_at n k =
      let r = reloc_at n k in
      value_of files b leaders laid n r (operand n (reloc_at n (k - 1)) r (held_at (width_at n r) (offset_of files b leaders laid n r) (bytes_after n k)))

  -- the bytes of section n in the executable
  unfoldable pub section_bytes : (n : ℕ) → List ℕ
  section_bytes n = bytes_after n (length (relocs_of files n))

  -- section n has bytes in its file
  abbrev pub has_bits : (n : ℕ) → Bool
  has_bits n = not ((input_at files b n).sh_type == SHT_NOBITS)

  -- the section with bytes in its file that a member is
  abbrev pub written_in : Content → Option ℕ
  written_in (Section n) = if has_bits n then Some n else None
  written_in (Pool p) = None
  written_in Got = None

  -- the pieces of pool p, each at its position from an offset of the file on
  abbrev pub placed_pieces : (at : ℕ) → (positions : List ℕ) → (texts : List (List ℕ)) → List Piece
  placed_pieces at [] texts = []
  placed_pieces at (position ∷ positions) [] = []
  placed_pieces at (position ∷ positions) (text ∷ texts) = piece (at + position) text ∷ placed_pieces at positions texts

  unfoldable pub pool_pieces : (at p : ℕ) → List Piece
  pool_pieces at p = placed_pieces at (slice_index_or laid.merging.pools p no_pool).positions (slice_index_or laid.merging.pools p no_pool).pieces

  -- the words of the linker's table, in order, as bytes
  unfoldable pub words_of : GotEntry → List ℕ
  words_of e = entry_words e.usage (bound files b e.file e.symbol) (symbol_address files b leaders laid e.file e.symbol) laid.bounds.tls_start

  unfoldable pub table_bytes : List ℕ
  table_bytes = flat_map (to_le_bytes w64) (flat_map words_of laid.table)

  -- what a member has in the file: an address stands at itself less IMAGE_BASE
  unfoldable pub content_pieces : (at : ℕ) → Content → List Piece
  content_pieces at (Section n) = if has_bits n then piece at (section_bytes n) ∷ [] else []
  content_pieces at (Pool p) = pool_pieces at p
  content_pieces at Got = piece at table_bytes ∷ []

  unfoldable pub member_pieces : Member → List Piece
  member_pieces m = content_pieces (m.start - IMAGE_BASE) m.content

  -- of all members with bytes in the file, in order of address
  unfoldable pub relocated_pieces : List Piece
  relocated_pieces = flat_map member_pieces laid.members

  -- section n is such a member
  unfoldable pub is_laid : (n : ℕ) → Bool
  is_laid n = list_any (λ m. is_number (written_in m.content) n) laid.members

  -- the place of relocation r of section n, and so many bytes of the file from an offset on, have a byte in common
  unfoldable pub touches : (from len n : ℕ) → Reloc → Bool
  touches from len n r =
      let at = start_at laid n - IMAGE_BASE + offset_of files b leaders laid n r in
      nat_lt (max at from) (min (at + width_at n r) (from + len))

  -- the defects of the relocations that touch them, in the same order
  unfoldable pub section_touching : (from len n : ℕ) → List Defect
  section_touching from len n =
      if is_laid n then flat_map (λ k. if touches from len n (reloc_at n k) then defects_at n k else []) (range_with_len 0 (length (relocs_of files n))) else []

  unfoldable pub touching_defects : (from len : ℕ) → List Defect
  touching_defects from len = flat_map (section_touching from len) (range_with_len 0 (section_total files))
