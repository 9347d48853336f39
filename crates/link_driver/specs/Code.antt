-- What code does at the places of relocations: where the processor goes from there, and what an upper and a lower part add up to (unprivileged manual,
-- "Control Transfer Instructions" and "Integer Register-Immediate Instructions"; RISC-V ELF psABI, "Relocations" and "Linker Relaxation").
use Rattle.std.specs.Prelude.{◌≡◌, ℕ, ◌+◌, ◌*◌, ◌%◌, ◌<◌, ◌≤◌, ◌⊎◌, true, false, if◌then◌else◌, ℤ, pos, ◌+ℤ◌, ◌-ℤ◌, Option, Some, List, [], ◌∷◌, All, length, take, drop, slice_index_or}
use Rattle.lk_base.specs.Formats.{i_format, s_format, u_format}
use Rattle.lk_base.specs.RelocKinds.{is_among, is_lower, is_uleb}
use Rattle.lk_base.specs.declared.abi.TheConstants.{R_RISCV_GOT_HI20, R_RISCV_HI20, R_RISCV_LO12_I, R_RISCV_LO12_S, R_RISCV_PCREL_HI20, R_RISCV_PCREL_LO12_I, R_RISCV_PCREL_LO12_S, R_RISCV_TLS_GD_HI20, R_RISCV_TLS_GOT_HI20, R_RISCV_TPREL_HI20, R_RISCV_TPREL_LO12_I, R_RISCV_TPREL_LO12_S}
use Rattle.lk_tables.specs.declared.objects.Reloc.{Reloc}
use Rattle.lk_tables.specs.Binding.{Bindings}
use Rattle.lk_tables.specs.Files.{File, section_total}
use Rattle.lk_tables.specs.Relocations.{place_width, value_len}
use Rattle.lk_tables.specs.Sites.{contents_at, place_of as site_of, relocs_of}
use Rattle.link_sections.specs.declared.got.GotEntry.{GotEntry}
use Rattle.link_sections.specs.declared.got.GotUse.{GotUse}
use Rattle.link_sections.specs.Calls.{IsOwnCall, acting_kind, acting_number, call_size, is_call}
use Rattle.link_sections.specs.Cuts.{Cut, new_offset}
use Rattle.link_sections.specs.GotEntries.{entry_of as entry_in, key_of, use_of}
use Rattle.link_sections.specs.InputSections.{input_at}
use Rattle.link_sections.specs.LaidOut.{LaidOut, cuts_at, start_at}
use Rattle.link_sections.specs.Leaders.{leads}
use Rattle.layout.specs.Cutting.{boundary}
use Rattle.relax.specs.CallSizes.{bytes_at, file_of, rd_at, reloc_of}
use Rattle.relax.specs.Sizes.{has_nops}
use Rattle.rv_code.specs.Instructions.{AreNops, IsJal, IsShortJump, rd_of}
use Rattle.rv_code.specs.Places.{ReadsBack, held_in, number_of}
use Rattle.rv_code.specs.Transfers.{Goes, signed}
use Rattle.reloc_apply.specs.Relocated.{bytes_after, has_bits, reloc_at, section_bytes, value_at, width_at}
use Rattle.reloc_apply.specs.Staying.{no_cut}
use Rattle.reloc_apply.specs.Values.{is_zero, offset_of, partner_of, place_of, sum_of, target_in}

-- the nops of an alignment are a cut of its section, which starts at `start`; and what stands after those that are kept has an address that is a multiple
-- of the least power of two above their number in the input
pub record IsAligned (start : ℕ) (cuts : List Cut) (r : Reloc) : Type 0 where
  pub index : ℕ
  pub among : index < length cuts
  pub at : (slice_index_or cuts index no_cut).at ≡ r.offset
  pub whole : (slice_index_or cuts index no_cut).whole ≡ place_width r
  pub is_align : (slice_index_or cuts index no_cut).is_align ≡ true
  pub after : (start + new_offset cuts (r.offset + place_width r)) % boundary (place_width r) ≡ 0

-- where a section loses bytes: each cut has some, and meets no place that a relocation fills but that of its own call; of a call only those two bytes are
-- left whose second instruction leaves no address behind; and each alignment is done, whether calls are shortened or not
pub record HaveOwnCuts (files : List File) (leaders : List (Option ℕ)) (laid : LaidOut) : Type 0 where
  pub some : (n : ℕ) → n < section_total files → leads leaders n ≡ true → All (λ c. 0 < c.whole) (cuts_at laid n)
  pub met : (n : ℕ) → n < section_total files → leads leaders n ≡ true → All (λ r. 0 < value_len (contents_at files n) r
      → All (λ c. (c.at + c.whole ≤ r.offset) ⊎ ((r.offset + value_len (contents_at files n) r ≤ c.at) ⊎ IsOwnCall c r)) (cuts_at laid n)) (relocs_of files n)
  pub short : (n k : ℕ) → n < section_total files → leads leaders n ≡ true → k < length (relocs_of files n) → is_call (reloc_of files n k).kind ≡ true
      → call_size (cuts_at laid n) (reloc_of files n k).offset ≡ 2 → rd_at (file_of files n).bytes (bytes_at files n k + 4) ≡ 0
  pub aligned : (n k : ℕ) → n < section_total files → leads leaders n ≡ true → k < length (relocs_of files n) → has_nops (reloc_of files n k) ≡ true
      → IsAligned (start_at laid n) (cuts_at laid n) (reloc_of files n k)

-- the kinds of an upper part, which lui and auipc have, and of a lower part, which the instructions with formats I and S have
abbrev pub upper_kinds : List ℕ
upper_kinds = R_RISCV_GOT_HI20 ∷ R_RISCV_TLS_GOT_HI20 ∷ R_RISCV_TLS_GD_HI20 ∷ R_RISCV_PCREL_HI20 ∷ R_RISCV_HI20 ∷ R_RISCV_TPREL_HI20 ∷ []

abbrev pub lower_i_kinds : List ℕ
lower_i_kinds = R_RISCV_PCREL_LO12_I ∷ R_RISCV_LO12_I ∷ R_RISCV_TPREL_LO12_I ∷ []

abbrev pub lower_s_kinds : List ℕ
lower_s_kinds = R_RISCV_PCREL_LO12_S ∷ R_RISCV_LO12_S ∷ R_RISCV_TPREL_LO12_S ∷ []

-- the parts of an address, and those of an offset in thread-local storage
abbrev pub address_kinds : List ℕ
address_kinds = R_RISCV_HI20 ∷ R_RISCV_LO12_I ∷ R_RISCV_LO12_S ∷ []

abbrev pub thread_kinds : List ℕ
thread_kinds = R_RISCV_TPREL_HI20 ∷ R_RISCV_TPREL_LO12_I ∷ R_RISCV_TPREL_LO12_S ∷ []

-- an upper part, and a lower part of a kind, in these places, add up to a value: the lower one counts as signed
pub record AddUp (kind : ℕ) (v : ℤ) (upper lower : List ℕ) : Type 0 where
  pub i : is_among lower_i_kinds kind ≡ true → signed 32 (held_in u_format (number_of upper)) +ℤ signed 12 (held_in i_format (number_of lower)) ≡ v
  pub s : is_among lower_s_kinds kind ≡ true → signed 32 (held_in u_format (number_of upper)) +ℤ signed 12 (held_in s_format (number_of lower)) ≡ v

module _ (files : List File) (b : Bindings) (leaders : List (Option ℕ)) (laid : LaidOut) where
  -- relocation k of section n; where its place stands in what the section has in the executable, and how many bytes it has
  abbrev pub reloc : (n k : ℕ) → Reloc
  reloc n k = reloc_at files b leaders laid n k

  abbrev pub at : (n k : ℕ) → ℕ
  at n k = offset_of files b leaders laid n (reloc n k)

  abbrev pub width : (n k : ℕ) → ℕ
  width n k = width_at files b leaders laid n (reloc n k)

  -- the bytes of its place there, and those before it was done
  abbrev pub placed : (n k : ℕ) → List ℕ
  placed n k = take (width n k) (drop (at n k) (section_bytes files b leaders laid n))

  abbrev pub placed_before : (n k : ℕ) → List ℕ
  placed_before n k = take (width n k) (drop (at n k) (bytes_after files b leaders laid n k))

  -- the second instruction of a call: its second four bytes in the input
  abbrev pub second_word : (n k : ℕ) → ℕ
  second_word n k = number_of (take 4 (drop 4 (drop (reloc n k).offset (contents_at files n))))

  -- S + A - P
  abbrev pub distance : (n k : ℕ) → ℤ
  distance n k = sum_of files b leaders laid n (reloc n k) -ℤ place_of files b leaders laid n (reloc n k)

  -- S + A - T; of a symbol that nothing defines A
  abbrev pub thread_offset : (n k : ℕ) → ℤ
  thread_offset n k = if is_zero (target_in files b leaders laid n (reloc n k)) then (reloc n k).addend else sum_of files b leaders laid n (reloc n k) -ℤ pos laid.bounds.tls_start

  -- the entry of the linker's table that relocation k of section n asks for: that of its symbol and of its kind's use
  pub record HasEntry (n k : ℕ) (e : GotEntry) : Type 0 where
    pub usage : GotUse
    pub asks : use_of (reloc n k).kind ≡ Some usage
    pub there : entry_in laid.table (key_of files (site_of files n).file (reloc n k).symbol) usage ≡ Some e

  -- section n is written, with bytes in the file
  pub record HasBytes (n : ℕ) : Type 0 where
    pub number : n < section_total files
    pub own : leads leaders n ≡ true
    pub bits : has_bits files b leaders laid n ≡ true
    pub some : 0 < (input_at files b n).size

  -- relocation k of such a section, none after which fills a byte of its place
  pub record IsLast (n k : ℕ) : Type 0 where
    pub section : HasBytes n
    pub among : k < length (relocs_of files n)
    pub later : (j : ℕ) → k < j → j < length (relocs_of files n) → 0 < width n j → (at n j + width n j ≤ at n k) ⊎ (at n k + width n k ≤ at n j)

  -- cut i of section n
  abbrev pub cut : (n i : ℕ) → Cut
  cut n i = slice_index_or (cuts_at laid n) i no_cut

  -- in a link whose relocations can all be done
  pub record CodeStands : Type 0 where
    -- a value that is put into a field reads back, and each bit that the field has not is as it was
    pub reads : (n k : ℕ) → IsLast n k → is_uleb (reloc n k).kind ≡ false → (v : ℤ) → value_at files b leaders laid n k ≡ Some v
        → ReadsBack (acting_kind (cuts_at laid n) (reloc n k)).field (placed_before n k) v (placed n k)
    -- from a branch, a jump or a call the processor goes to S + A
    pub goes : (n k : ℕ) → IsLast n k → Goes (acting_number (cuts_at laid n) (reloc n k)) (distance n k) (placed n k)
    -- an upper and a lower part that have one value add up to it; and a lower part of a distance has the value of its partner
    pub pairs : (n k m j : ℕ) → IsLast n k → IsLast m j → is_among upper_kinds (reloc n k).kind ≡ true → (v : ℤ)
        → value_at files b leaders laid n k ≡ Some v → value_at files b leaders laid m j ≡ Some v → AddUp (reloc m j).kind v (placed n k) (placed m j)
    pub partners : (n k p : ℕ) → is_lower (reloc n k).kind ≡ true → partner_of files b leaders laid n (reloc n k) ≡ Some (reloc n p)
        → value_at files b leaders laid n k ≡ value_at files b leaders laid n p
    -- the value of the parts of an address is S + A, that of an upper part of a distance S + A - P; that of the parts of an offset in thread-local storage is
    -- S + A - T; and that of an upper part that asks for an entry of the linker's table is what the address of the entry + A is past P
    pub address : (n k : ℕ) → is_among address_kinds (reloc n k).kind ≡ true → value_at files b leaders laid n k ≡ Some (sum_of files b leaders laid n (reloc n k))
    pub here : (n k : ℕ) → (reloc n k).kind ≡ R_RISCV_PCREL_HI20 → value_at files b leaders laid n k ≡ Some (distance n k)
    pub thread : (n k : ℕ) → is_among thread_kinds (reloc n k).kind ≡ true → value_at files b leaders laid n k ≡ Some (thread_offset n k)
    pub entry : (n k : ℕ) (e : GotEntry) → HasEntry n k e
        → value_at files b leaders laid n k ≡ Some ((pos (laid.got + 8 * e.word) +ℤ (reloc n k).addend) -ℤ place_of files b leaders laid n (reloc n k))
    -- a call of four bytes is `jal` with the register of its second instruction, and one of two `c.j`, whose register is x0, by its own distance
    pub jal : (n k : ℕ) → HasBytes n → k < length (relocs_of files n) → is_call (reloc n k).kind ≡ true → call_size (cuts_at laid n) (reloc n k).offset ≡ 4
        → IsJal (rd_of (second_word n k)) (distance n k) (number_of (placed n k))
    pub short_jump : (n k : ℕ) → HasBytes n → k < length (relocs_of files n) → is_call (reloc n k).kind ≡ true → call_size (cuts_at laid n) (reloc n k).offset ≡ 2
        → (rd_of (second_word n k) ≡ 0) × IsShortJump (distance n k) (number_of (placed n k))
    -- what an alignment keeps are nops
    pub nops : (n i : ℕ) → HasBytes n → i < length (cuts_at laid n) → (cut n i).is_align ≡ true
        → AreNops (take (cut n i).kept (drop (new_offset (cuts_at laid n) (cut n i).at) (section_bytes files b leaders laid n)))
