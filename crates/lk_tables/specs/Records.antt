-- The records of a section `.eh_frame`, each a CIE or an FDE (LSB Core, "Exception Frames"; DWARF, "Call Frame Information"): a Length of
-- 4 bytes and as many bytes after it, of which the first 4 are 0 in a CIE (CIE ID), and in an FDE lead back to its CIE (CIE Pointer).
use Rattle.std.specs.Prelude.{ℕ, zero, suc, ◌+◌, ◌==◌, ◌&&◌, not, nat_lt, nat_le, Bool, Option, None, if◌then◌else◌, List, length, map, find}
use Rattle.std.specs.List.{filter, prefix_len, range_with_len}
use Rattle.lk_tables.specs.declared.objects.Reloc.{Reloc}
use Rattle.lk_tables.specs.Numbers.{word_at}
use Rattle.lk_tables.specs.Relocations.{place_width}

-- a record: where it starts in its section, its Length, of an FDE the number of its CIE in the list, and the relocations that lie in it
pub record RecordView : Type 0 where
  pub from : ℕ
  pub len : ℕ
  pub cie : Option ℕ
  pub relocs : List Reloc

-- fields of the record at an offset: its Length, and the CIE ID or CIE Pointer
abbrev pub len_at : List ℕ → ℕ → ℕ
len_at c at = word_at c at

abbrev pub id_at : List ℕ → ℕ → ℕ
id_at c at = word_at c (at + 4)

abbrev pub is_cie : List ℕ → ℕ → Bool
is_cie c at = id_at c at == 0

-- where the record ends that starts at an offset, and the next may start
abbrev pub end_at : List ℕ → ℕ → ℕ
end_at c at = at + 4 + len_at c at

-- where record j starts
unfoldable pub start_of : List ℕ → ℕ → ℕ
start_of c zero = 0
start_of c (suc j) = end_at c (start_of c j)

-- a record starts there: neither does the section end, nor stands there a Length of 0, which ends the list
unfoldable pub is_there : List ℕ → ℕ → Bool
is_there c at = nat_lt at (length c) && not (nat_le (at + 4) (length c) && len_at c at == 0)

-- how many records there are, which is no more than the section has bytes
unfoldable pub count : List ℕ → ℕ
count c = prefix_len (λ j. is_there c (start_of c j)) (range_with_len 0 (length c))

-- record i is a CIE, and the CIE Pointer of record j leads to it
unfoldable pub is_pointed_to : List ℕ → (j i : ℕ) → Bool
is_pointed_to c j i = is_cie c (start_of c i) && start_of c i + id_at c (start_of c j) == start_of c j + 4

-- the CIE of record j, which stands before it; a CIE has none
unfoldable pub cie_before : List ℕ → (j : ℕ) → Option ℕ
cie_before c j = find (is_pointed_to c j) (range_with_len 0 j)

abbrev pub cie_of : List ℕ → (j : ℕ) → Option ℕ
cie_of c j = if is_cie c (start_of c j) then None else cie_before c j

-- the relocations that lie in so many bytes, by their offsets
unfoldable pub relocs_in : List Reloc → (from end : ℕ) → List Reloc
relocs_in relocs from end = filter (λ r. nat_le from r.offset && nat_lt r.offset end) relocs

-- the first relocation that has bytes
abbrev pub has_width : Reloc → Bool
has_width r = nat_lt 0 (place_width r)

unfoldable pub first_of : List Reloc → Option Reloc
first_of relocs = find has_width relocs

-- what record j says
unfoldable pub record_of : List ℕ → List Reloc → (j : ℕ) → RecordView
record_of c relocs j = record {
  from = start_of c j;
  len = len_at c (start_of c j);
  cie = cie_of c j;
  relocs = relocs_in relocs (start_of c j) (end_at c (start_of c j));
}

-- the first n records, and all
unfoldable pub first_records : List ℕ → List Reloc → (n : ℕ) → List RecordView
first_records c relocs n = map (record_of c relocs) (range_with_len 0 n)

abbrev pub records_of : List ℕ → List Reloc → List RecordView
records_of c relocs = first_records c relocs (count c)
