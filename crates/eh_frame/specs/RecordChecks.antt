-- The checks of the records of a section `.eh_frame` and of its relocations (LSB Core, "Exception Frames"; DWARF, "Call Frame Information").
use Rattle.std.specs.Prelude.{ℕ, ◌+◌, ◌==◌, ◌&&◌, ◌||◌, not, nat_lt, nat_le, Bool, true, Option, Some, None, is_some, List, [], ◌∷◌, length}
use Rattle.std.specs.List.{list_any, range_with_len}
use Rattle.lk_base.specs.declared.abi.TheConstants.{R_RISCV_32_PCREL}
use Rattle.lk_base.specs.declared.kinds.TheConstants.{BAD_FRAME}
use Rattle.lk_tables.specs.declared.objects.Reloc.{Reloc}
use Rattle.lk_tables.specs.Checks.{Check, ◌says◌, flaw_at}
use Rattle.lk_tables.specs.Records.{cie_before, count, end_at, first_of, has_width, is_cie, len_at, start_of, relocs_in}
use Rattle.lk_tables.specs.Relocations.{place_width}
use Rattle.eh_frame.specs.declared.format.TheConstants.{EXTENDED_LENGTH, FDE_LEN_MIN, PC_BEGIN_AT}

-- it is that of PC Begin, the function's start: the distance to it
abbrev pub is_pc_begin : (from : ℕ) → Option Reloc → Bool
is_pc_begin from None = true
is_pc_begin from (Some r) = r.kind == R_RISCV_32_PCREL && r.offset == from + PC_BEGIN_AT

-- the Length is cut off, is that of a record of the extended form, has no room for a CIE ID, or leads past the section
unfoldable pub is_bad_length : List ℕ → (at : ℕ) → Bool
is_bad_length c at =
    nat_lt (length c) (at + 4) || (len_at c at == EXTENDED_LENGTH || (nat_lt (len_at c at) 4 || nat_lt (length c) (end_at c at)))

-- an FDE without room for its fields or without a CIE, or whose relocations do not begin with that of PC Begin
unfoldable pub is_bad_fde : List ℕ → List Reloc → (j : ℕ) → Bool
is_bad_fde c relocs j =
    nat_lt (len_at c (start_of c j)) FDE_LEN_MIN
    || (not (is_some (cie_before c j)) || not (is_pc_begin (start_of c j) (first_of (relocs_in relocs (start_of c j) (end_at c (start_of c j))))))

unfoldable pub is_bad_record : List ℕ → List Reloc → (j : ℕ) → Bool
is_bad_record c relocs j = is_bad_length c (start_of c j) || (not (is_cie c (start_of c j)) && is_bad_fde c relocs j)

-- the check of record j of a section of these bytes, which stands at an offset of its file
unfoldable pub record_checks : (section offset : ℕ) → List ℕ → List Reloc → (j : ℕ) → List Check
record_checks section offset c relocs j = (is_bad_record c relocs j says flaw_at BAD_FRAME section (offset + start_of c j)) ∷ []

-- the bytes of a relocation lie in a record that starts there and has this Length, after its CIE ID or CIE Pointer
abbrev pub lies_in : Reloc → (from len : ℕ) → Bool
lies_in r from len = nat_le (from + 8) r.offset && nat_le (r.offset + place_width r) (from + 4 + len)

-- they lie so in record j
unfoldable pub is_inside : List ℕ → Reloc → (j : ℕ) → Bool
is_inside c r j = lies_in r (start_of c j) (len_at c (start_of c j))

-- a relocation that has bytes, which lie so in no record
unfoldable pub is_stray : List ℕ → Reloc → Bool
is_stray c r = has_width r && not (list_any (is_inside c r) (range_with_len 0 (count c)))
