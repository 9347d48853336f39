-- The relocations of a section and the checks of their entries (System V gABI, "Relocation"; RISC-V ELF psABI,
-- "Relocations").
use Rattle.std.specs.Prelude.{ℕ, ◌+◌, ◌*◌, ◌/◌, ◌%◌, ℤ, pos, unsigned_abs, int_lt, Bool, true, false, not, ◌&&◌, ◌||◌, ◌==◌, nat_lt, nat_le, Option, Some, None, is_some, unwrap_or, if◌then◌else◌, List, [], ◌∷◌, ◌++◌, length, map, ◌-◌, slice_index, slice_index_or}
use Rattle.std.specs.List.{list_any, range_with_len}
use Rattle.std.specs.Ordering.{int_eq}
use Rattle.lk_base.specs.Order.{stable_order}
use Rattle.lk_base.specs.RelocKinds.{kind_of, is_frame_kind, is_linked, is_lower, is_uleb, moves_bytes}
use Rattle.lk_base.specs.declared.abi.TheConstants.{RELA_SIZE, R_RISCV_NONE, R_RISCV_SET_ULEB128, R_RISCV_SUB_ULEB128, SHT_NOBITS}
use Rattle.lk_base.specs.declared.defects.Flaw.{Flaw}
use Rattle.lk_base.specs.declared.relocations.Calculation.{Calculation}
use Rattle.lk_base.specs.declared.relocations.Calculation.TheVariants.{Padding}
use Rattle.lk_base.specs.declared.kinds.TheConstants.{BAD_RELOC, BAD_ULEB, RELOC_KIND}
use Rattle.lk_tables.specs.declared.objects.Reloc.{Reloc}
use Rattle.lk_tables.specs.declared.heads.Section.{Section}
use Rattle.lk_tables.specs.Checks.{Check, ◌says◌, flaw_at, from_on}
use Rattle.lk_tables.specs.Entries.{reloc_at}
use Rattle.lk_tables.specs.FileHeader.{ends_past}
use Rattle.lk_tables.specs.Sections.{section_of, contents_of, is_frame}
use Rattle.lk_tables.specs.Symbols.{symbol_count}
use Rattle.lk_tables.specs.UlebLengths.{uleb_len}

abbrev pub is_padding : Calculation → Bool
is_padding Padding = true
is_padding _ = false

-- its place is nops for an alignment
unfoldable pub is_alignment : Reloc → Bool
is_alignment r = is_padding (kind_of r.kind).calculation

-- how many bytes its place has: the nops of an alignment are as many as its addend
unfoldable pub place_width : Reloc → ℕ
place_width r = if is_alignment r then unsigned_abs r.addend else (kind_of r.kind).width

-- how many bytes a relocation's place has, if its kind is linked
unfoldable pub linked_width : Reloc → Option ℕ
linked_width r = if is_linked r.kind then Some (place_width r) else None

-- how many bytes its place has in a section of these contents: a ULEB128 number is as long as its bytes say
unfoldable pub width_of : (contents : List ℕ) → Reloc → Option ℕ
width_of contents r = if is_uleb r.kind then uleb_len contents r.offset else linked_width r

-- how many bytes its value is put into
unfoldable pub value_len : (contents : List ℕ) → Reloc → ℕ
value_len contents r = if is_uleb r.kind then unwrap_or (uleb_len contents r.offset) 0 else (kind_of r.kind).width

-- the end of its bytes in the section
abbrev pub end_of : (contents : List ℕ) → Reloc → ℕ
end_of contents r = r.offset + unwrap_or (width_of contents r) 0

-- entry j of the relocation section i, and where it stands
abbrev pub rela_count : List ℕ → ℕ → ℕ
rela_count b i = (section_of b i).size / RELA_SIZE

abbrev pub rela_place : List ℕ → ℕ → ℕ → ℕ
rela_place b i j = (section_of b i).offset + RELA_SIZE * j

abbrev pub reloc : List ℕ → ℕ → ℕ → Reloc
reloc b i j = reloc_at b (rela_place b i j)

-- the section that it relocates, and its bytes
abbrev pub relocated_section : List ℕ → ℕ → Section
relocated_section b i = section_of b (section_of b i).info

abbrev pub target_bytes : List ℕ → ℕ → List ℕ
target_bytes b i = contents_of b (relocated_section b i)

-- the relocation's bytes, of a ULEB128 number the first one, end past its section, or the section has none in the file
unfoldable pub is_past_target : Section → Reloc → Bool
is_past_target target r = target.sh_type == SHT_NOBITS || ends_past target.size r.offset (place_width r)

-- fewer bytes of nops than none, or half a nop
unfoldable pub is_bad_padding : (addend : ℤ) → Bool
is_bad_padding addend = int_lt addend (pos 0) || not (unsigned_abs addend % 2 == 0)

-- an alignment that cannot be; a lower part takes its value from the relocation at its label, and has no addend of its own
unfoldable pub is_bad_addend : Reloc → Bool
is_bad_addend r = (is_alignment r && is_bad_padding r.addend) || (not (int_eq r.addend (pos 0)) && is_lower r.kind)

abbrev pub unknown_kind : (section place kind : ℕ) → Flaw
unknown_kind section place kind = record { kind = RELOC_KIND; section = section; place = place; other = kind }

-- a kind that is not linked, or not in unwind records
unfoldable pub is_bad_kind : List ℕ → (target : Section) → (kind : ℕ) → Bool
is_bad_kind b target kind = not (is_linked kind) || (is_frame b target && not (is_frame_kind kind))

-- the checks of one entry
unfoldable pub entry_checks : List ℕ → ℕ → ℕ → List Check
entry_checks b i j =
    (nat_le (symbol_count b) (reloc b i j).symbol says flaw_at BAD_RELOC i (rela_place b i j))
    ∷ (is_bad_kind b (relocated_section b i) (reloc b i j).kind says unknown_kind i (rela_place b i j) (reloc b i j).kind)
    ∷ (is_past_target (relocated_section b i) (reloc b i j) says flaw_at BAD_RELOC i (rela_place b i j))
    ∷ (not (is_some (width_of (target_bytes b i) (reloc b i j))) says flaw_at BAD_ULEB i (rela_place b i j))
    ∷ (is_bad_addend (reloc b i j) says flaw_at BAD_RELOC i (rela_place b i j))
    ∷ []

-- the numbers of its entries in stable order of offset, and the relocations in this order
abbrev pub in_order : List ℕ → ℕ → List ℕ
in_order b i = stable_order (λ j. (reloc b i j).offset) (range_with_len 0 (rela_count b i))

abbrev pub relocs_of : List ℕ → ℕ → List Reloc
relocs_of b i = map (reloc b i) (in_order b i)

abbrev pub has_bytes : (contents : List ℕ) → Reloc → Bool
has_bytes contents r = nat_lt r.offset (end_of contents r)

-- in order of offset: the bytes of q meet those of the earlier p, and what stands after one of the two may move
unfoldable pub meets : (contents : List ℕ) → Reloc → Reloc → Bool
meets contents q p =
    has_bytes contents p
    && (has_bytes contents q && ((moves_bytes p.kind || moves_bytes q.kind) && nat_lt q.offset (end_of contents p)))

-- the checks of entries in order, with the relocations before them: none meets an earlier one
unfoldable pub overlap_checks : List ℕ → (i : ℕ) → (before : List Reloc) → (entries : List ℕ) → List Check
overlap_checks b i before [] = []
overlap_checks b i before (j ∷ js) =
    (list_any (meets (target_bytes b i) (reloc b i j)) before says flaw_at BAD_RELOC i (rela_place b i j))
    ∷ overlap_checks b i (before ++ (reloc b i j ∷ [])) js

-- what stands past the end of a list of relocations
abbrev pub no_reloc : Reloc
no_reloc = record { offset = 0; kind = R_RISCV_NONE; symbol = 0; addend = pos 0 }

-- the two parts of a pair, at one offset
unfoldable pub is_pair : Reloc → Reloc → Bool
is_pair first second = first.kind == R_RISCV_SET_ULEB128 && (second.kind == R_RISCV_SUB_ULEB128 && first.offset == second.offset)

-- of relocations in order, one of a pair that the other part is not next to
unfoldable pub is_unpaired : List Reloc → (k : ℕ) → Bool
is_unpaired rs k =
    is_uleb (slice_index_or rs k no_reloc).kind
    && not (is_pair (slice_index_or rs k no_reloc) (slice_index_or rs (k + 1) no_reloc) || is_pair (slice_index_or rs (k - 1) no_reloc) (slice_index_or rs k no_reloc))

-- the check of the relocation at place k in order of offset: if it is of a pair, the other part is next to it
unfoldable pub pair_check : List ℕ → (i k : ℕ) → Check
pair_check b i k = is_unpaired (relocs_of b i) k says flaw_at BAD_ULEB i (rela_place b i (slice_index (in_order b i) k))

unfoldable pub pair_checks : List ℕ → (i : ℕ) → List Check
pair_checks b i = map (pair_check b i) (range_with_len 0 (length (in_order b i)))

-- the entries of the relocation section i: each in file order, then all in order of offset
unfoldable pub entries_checks : List ℕ → ℕ → List Check
entries_checks b i = from_on (entry_checks b i) 0 (rela_count b i) ++ (overlap_checks b i [] (in_order b i) ++ pair_checks b i)
