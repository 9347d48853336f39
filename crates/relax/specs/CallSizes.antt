-- How many bytes each call has (RISC-V ELF psABI, "Function Call Relaxation"): eight, the four of `jal`, or the two of `c.j`. The sizes are
-- the least that allow the upper distances of all calls, which no alignment can exceed, wherever the sections stand.
use Rattle.std.specs.Prelude.{◌≡◌, ℕ, zero, suc, ◌+◌, ◌-◌, ◌*◌, ◌/◌, ◌%◌, ◌<◌, ◌≤◌, ◌==◌, ◌&&◌, ◌||◌, not, nat_lt, nat_le, pos, bit_and, Bool, true, false, if◌then◌else◌, Option, Some, None, List, [], ◌∷◌, length, map, flat_map, slice_index, slice_index_or}
use Rattle.std.specs.List.{list_all, list_any, filter, position_or_len, range_with_len, sum_by}
use Rattle.std.specs.Ordering.{int_eq}
use Rattle.lk_base.specs.declared.abi.TheConstants.{EF_RISCV_RVC, R_RISCV_RELAX, SHT_NULL}
use Rattle.lk_tables.specs.declared.objects.Reloc.{Reloc}
use Rattle.lk_tables.specs.Binding.{Bindings}
use Rattle.lk_tables.specs.Files.{File, file_at, no_reloc, section_at, section_total}
use Rattle.lk_tables.specs.Relocations.{is_alignment, place_width}
use Rattle.lk_tables.specs.Sites.{place_of, relocs_of}
use Rattle.link_sections.specs.declared.targets.Target.{Target}
use Rattle.link_sections.specs.declared.targets.Target.TheVariants as targets
use Rattle.link_sections.specs.declared.members.Content.TheVariants.{Got}
use Rattle.link_sections.specs.Calls.{is_call}
use Rattle.link_sections.specs.Cuts.{Cut, new_offset}
use Rattle.link_sections.specs.Leaders.{leader_at}
use Rattle.link_sections.specs.PieceTargets.{target_at}
use Rattle.link_sections.specs.PoolViews.{Merged}
use Rattle.relax.specs.declared.calls.Call.{Call}
use Rattle.output_sections.specs.declared.rows.Row.{Row}
use Rattle.output_sections.specs.Order.{is_section, own_section}
use Rattle.relax.specs.Jumps.{allows, size_at}
use Rattle.relax.specs.Sizes.{has_nops}

-- the opcode of an instruction: the low seven bits of its first byte; rd: the highest bit of that byte, and the low four of the next
abbrev pub opcode_at : (bytes : List ℕ) → (at : ℕ) → ℕ
opcode_at bytes at = slice_index bytes at % 128

abbrev pub rd_at : (bytes : List ℕ) → (at : ℕ) → ℕ
rd_at bytes at = slice_index bytes at / 128 + 2 * (slice_index bytes (at + 1) % 16)

-- where a section's bytes begin in its file
abbrev pub bytes_from : List File → (n : ℕ) → ℕ
bytes_from files n = (section_at (file_at files (place_of files n).file) (place_of files n).index).offset

abbrev pub file_of : List File → (n : ℕ) → File
file_of files n = file_at files (place_of files n).file

-- auipc and jalr stand there
unfoldable pub has_words : (bytes : List ℕ) → (at : ℕ) → Bool
has_words bytes at = opcode_at bytes at == 0x17 && opcode_at bytes (at + 4) == 0x67

-- a tail call in a file that has compressed instructions may have two bytes, each other four
abbrev pub has_rvc : File → Bool
has_rvc file = not (bit_and file.head.flags EF_RISCV_RVC == 0)

unfoldable pub least_of : File → (at : ℕ) → ℕ
least_of file at = if has_rvc file && rd_at file.bytes (at + 4) == 0 then 2 else 4

-- a call without an addend, at an even offset
unfoldable pub is_plain : Reloc → Bool
is_plain r = is_call r.kind && (int_eq r.addend (pos 0) && r.offset % 2 == 0)

-- the linker may relax what stands at an offset
abbrev pub is_hint : (offset : ℕ) → Reloc → Bool
is_hint offset r = r.kind == R_RISCV_RELAX && r.offset == offset

abbrev pub has_hint : List Reloc → (offset : ℕ) → Bool
has_hint relocs offset = list_any (is_hint offset) relocs

abbrev pub hint_offsets : List Reloc → List ℕ
hint_offsets relocs = map (λ r. r.offset) (filter (λ r. r.kind == R_RISCV_RELAX) relocs)

abbrev pub no_member : Row
no_member = record { number = 0; content = Got; group = 0; rank = 0; priority = 0; sh_type = SHT_NULL; flags = 0; size = 0; align = 1 }

-- the place of section n among the members, or how many these are
abbrev pub is_at : (n : ℕ) → Row → Bool
is_at n m = is_section m && own_section m == n

module _ (ms : List Row) where
  abbrev pub member_at : (i : ℕ) → Row
  member_at i = slice_index_or ms i no_member

  unfoldable pub place_in : (n : ℕ) → ℕ
  place_in n = position_or_len (is_at n) ms

  -- a call of member i may be shortened that goes to this offset of member j: both are members of one output section, and code of two
  -- bytes may stand at both ends
  unfoldable pub is_near : (i j offset : ℕ) → Bool
  is_near i j offset = nat_lt j (length ms)
      && ((member_at i).group == (member_at j).group && (nat_le 2 (member_at i).align && (nat_le 2 (member_at j).align && offset % 2 == 0)))

-- a call before its target is known
abbrev pub call_of : (from : ℕ) → Reloc → (reloc least : ℕ) → Call
call_of from r reloc least = record { from = from; offset = r.offset; reloc = reloc; to = 0; target = 0; least = least }

-- the target is the leader of a section, at the same offset
unfoldable pub lands : List Row → Call → Option ℕ → (offset : ℕ) → List Call
lands ms c None offset = []
lands ms c (Some m) offset = if is_near ms c.from (place_in ms m) offset
    then record { from = c.from; offset = c.offset; reloc = c.reloc; to = place_in ms m; target = offset; least = c.least } ∷ [] else []

unfoldable pub reaches : (leaders : List (Option ℕ)) → List Row → Call → Target → List Call
reaches leaders ms c (targets.Section section offset rest) = lands ms c (leader_at leaders section) offset
reaches leaders ms c (targets.Piece pool piece offset rest) = []
reaches leaders ms c (targets.Number n) = []
reaches leaders ms c targets.Zero = []
reaches leaders ms c (targets.Linker n) = []
reaches leaders ms c targets.Unbound = []

-- relocation k of section n
abbrev pub reloc_of : List File → (n k : ℕ) → Reloc
reloc_of files n k = slice_index_or (relocs_of files n) k no_reloc

abbrev pub bytes_at : List File → (n k : ℕ) → ℕ
bytes_at files n k = bytes_from files n + (reloc_of files n k).offset

unfoldable pub is_candidate : List File → (n k : ℕ) → Bool
is_candidate files n k = is_plain (reloc_of files n k)
    && (has_words (file_of files n).bytes (bytes_at files n k) && has_hint (relocs_of files n) (reloc_of files n k).offset)

module _ (files : List File) (b : Bindings) (merged : List (Option Merged)) (leaders : List (Option ℕ)) (ms : List Row) where
  -- the call that relocation k of section n is, which is member i, if it may be relaxed
  unfoldable pub call_at : (i n k : ℕ) → List Call
  call_at i n k = if is_candidate files n k
      then reaches leaders ms (call_of i (reloc_of files n k) k (least_of (file_of files n) (bytes_at files n k))) (target_at files b merged n k) else []

  -- the calls of a section in order of offset, and those of all members
  unfoldable pub calls_in : (i n : ℕ) → List Call
  calls_in i n = flat_map (call_at i n) (range_with_len 0 (length (relocs_of files n)))

  unfoldable pub calls_of : (on : Bool) → (i : ℕ) → List Call
  calls_of on i = if on && is_section (member_at ms i) then calls_in i (own_section (member_at ms i)) else []

  unfoldable pub call_rows : (on : Bool) → List (List Call)
  call_rows on = map (calls_of on) (range_with_len 0 (length ms))

-- the target stands after the call, or where it stands
abbrev pub goes_forwards : Call → Bool
goes_forwards c = if c.from == c.to then nat_le c.offset c.target else nat_lt c.from c.to

abbrev pub is_size : (least size : ℕ) → Bool
is_size least size = nat_le least size && (size == 2 || (size == 4 || size == 8))

-- calls by number: rows one after the other
module _ (rows : List (List Call)) where
  abbrev pub row_at : (i : ℕ) → List Call
  row_at i = slice_index_or rows i []

  -- the number of a member's first call, and how many calls there are
  unfoldable pub first_call : (i : ℕ) → ℕ
  first_call i = length (flat_map row_at (range_with_len 0 i))

  abbrev pub all_calls : List Call
  all_calls = flat_map (λ row. row) rows

  abbrev pub call_no : (k : ℕ) → Call
  call_no k = slice_index_or all_calls k (record { from = 0; offset = 0; reloc = 0; to = 0; target = 0; least = 4 })

-- the calls of a section as cuts, the first of which has this number
abbrev pub sized : (z : List ℕ) → (number : ℕ) → List Call → List Cut
sized z number [] = []
sized z number (c ∷ cs) = record { at = c.offset; whole = 8; kept = size_at z number; is_align = false } ∷ sized z (number + 1) cs

module _ (ms : List Row) (rows : List (List Call)) (z : List ℕ) where
  -- the raw upper offset in member i: what stands before an offset of it, without the bytes that its calls lose, and with those of all
  -- alignments
  unfoldable pub upper_offset : (i offset : ℕ) → ℕ
  upper_offset i offset = new_offset (sized z (first_call rows i) (row_at rows i)) offset

  -- the bytes that a member takes at most, and how many stand before an offset of one, from the first member on
  abbrev pub room : (i : ℕ) → ℕ
  room i = ((member_at ms i).align - 1) + upper_offset i (member_at ms i).size

  unfoldable pub upper_place : (i offset : ℕ) → ℕ
  upper_place i offset = sum_by room (range_with_len 0 i) + ((member_at ms i).align - 1) + upper_offset i offset

  -- the upper distance from a call to its target
  unfoldable pub distance : Call → ℕ
  distance c = if goes_forwards c then upper_place c.to c.target - upper_place c.from c.offset
      else upper_place c.from c.offset - upper_place c.to c.target

  -- call k has a size that it may have, and that allows its distance
  unfoldable pub fits : (k : ℕ) → Bool
  fits k = is_size (call_no rows k).least (size_at z k) && allows (size_at z k) (goes_forwards (call_no rows k)) (distance (call_no rows k))

  -- the sizes are safe: one for each call, and all fit
  unfoldable pub is_safe : Bool
  is_safe = length z == length (all_calls rows) && list_all fits (range_with_len 0 (length (all_calls rows)))

-- all lists of so many sizes
abbrev pub all_assignments : (count : ℕ) → List (List ℕ)
all_assignments zero = [] ∷ []
all_assignments (suc n) = flat_map (λ z. (2 ∷ z) ∷ ((4 ∷ z) ∷ ((8 ∷ z) ∷ []))) (all_assignments n)

module _ (ms : List Row) (rows : List (List Call)) where
  -- some safe sizes give call k this size
  unfoldable pub is_possible : (k size : ℕ) → Bool
  is_possible k size = list_any (λ z. is_safe ms rows z && size_at z k == size) (all_assignments (length (all_calls rows)))

  -- the least size that a call has in any safe sizes
  unfoldable pub least_size : (k : ℕ) → ℕ
  least_size k = if is_possible k 2 then 2 else (if is_possible k 4 then 4 else 8)

  unfoldable pub least_sizes : List ℕ
  least_sizes = map least_size (range_with_len 0 (length (all_calls rows)))

-- the size of the call at relocation k of member i; eight if there is none
unfoldable pub size_in : (rows : List (List Call)) → (z : List ℕ) → (i k : ℕ) → ℕ
size_in rows z i k =
    let p = position_or_len (λ c. c.reloc == k) (row_at rows i) in
    if nat_lt p (length (row_at rows i)) then size_at z (first_call rows i + p) else 8

-- a call of less than eight bytes, or an alignment that has nops, keeps some of its bytes
unfoldable pub is_cut : (size : ℕ) → Reloc → Bool
is_cut size r = has_nops r || (is_call r.kind && nat_lt size 8)

unfoldable pub cut_of : (size : ℕ) → Reloc → Cut
cut_of size r = record {
  at = r.offset;
  whole = place_width r;
  kept = if is_alignment r then place_width r else size;
  is_align = is_alignment r;
}

-- the cuts of a section in order of offset, by the sizes of its relocations
abbrev pub cuts_by : (sizes : ℕ → ℕ) → List Reloc → List Cut
cuts_by sizes relocs = map (λ k. cut_of (sizes k) (slice_index_or relocs k no_reloc))
    (filter (λ k. is_cut (sizes k) (slice_index_or relocs k no_reloc)) (range_with_len 0 (length relocs)))

-- by section number, where each section loses bytes; `on` is whether calls are relaxed
unfoldable pub all_cuts : List File → List Row → List (List Call) → (z : List ℕ) → List (List Cut)
all_cuts files ms rows z =
    map (λ n. cuts_by (size_in rows z (place_in ms n)) (relocs_of files n)) (range_with_len 0 (section_total files))

-- the cuts of a link whose members are these
unfoldable pub cuts_of : List File → Bindings → (merged : List (Option Merged)) → (leaders : List (Option ℕ)) → List Row → (on : Bool) → List (List Cut)
cuts_of files b merged leaders ms on =
    let rows = call_rows files b merged leaders ms on in
    all_cuts files ms rows (least_sizes ms rows)

-- the sizes are safe, and no greater than any safe ones, call by call
pub record AreLeastSafe (ms : List Row) (rows : List (List Call)) (z : List ℕ) : Type 0 where
  pub safe : is_safe ms rows z ≡ true
  pub least : (y : List ℕ) → is_safe ms rows y ≡ true → (k : ℕ) → k < length (all_calls rows) → size_at z k ≤ size_at y k

abbrev pub IsLeastSafe : List File → Bindings → (merged : List (Option Merged)) → (leaders : List (Option ℕ)) → List Row → (on : Bool) → Type 0
IsLeastSafe files b merged leaders ms on =
    AreLeastSafe ms (call_rows files b merged leaders ms on) (least_sizes ms (call_rows files b merged leaders ms on))
