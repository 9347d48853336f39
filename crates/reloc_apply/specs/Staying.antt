-- The bytes of a section that stay (RISC-V ELF psABI, "Linker Relaxation").
use Rattle.std.specs.Prelude.{ℕ, ◌+◌, ◌-◌, ◌*◌, ◌/◌, ◌%◌, ◌^◌, ◌==◌, zero, suc, false, slice_index_or, if◌then◌else◌, List, [], ◌∷◌, ◌++◌, map, take, drop}
use Rattle.std.specs.Int.{to_le_bytes, w16, w32}
use Rattle.std.specs.List.{range_with_len}
use Rattle.link_sections.specs.Cuts.{Cut, new_offset}
use Rattle.rv_code.specs.Instructions.{nop_byte, rd_of}
use Rattle.rv_code.specs.Places.{number_of}

-- so many bytes of nops
abbrev pub nops : (count : ℕ) → List ℕ
nops count = map (nop_byte count) (range_with_len 0 count)

-- what a call becomes: `jal` with the register of its second instruction, or `c.j`, with a displacement of 0 until its relocation is done
-- (unprivileged manual, "RV32/64G Instruction Set Listings" and "RVC Instruction Set Listings"); of eight bytes, what it was
abbrev pub jal_word : (register : ℕ) → ℕ
jal_word register = 0x6f + register * 2 ^ 7

unfoldable pub call_bytes : (size : ℕ) → (raw : List ℕ) → List ℕ
call_bytes size raw = if size == 4 then to_le_bytes w32 (jal_word (rd_of (number_of (take 4 (drop 4 raw)))))
    else (if size == 2 then to_le_bytes w16 0xa001 else take size raw)

-- what stays of a cut: nops of an alignment, and else a jump in place of a call
abbrev pub kept_bytes : Cut → (raw : List ℕ) → List ℕ
kept_bytes c raw = if c.is_align then nops c.kept else call_bytes c.kept (drop c.at raw)

-- from an offset on, in order
abbrev pub staying : List Cut → (from : ℕ) → (raw : List ℕ) → List ℕ
staying [] from raw = drop from raw
staying (c ∷ cs) from raw = take (c.at - from) (drop from raw) ++ (kept_bytes c raw ++ staying cs (c.at + c.whole) raw)

-- a byte of nops by its place among them
abbrev pub nop_at : (count i : ℕ) → ℕ
nop_at count i = nop_byte count i

-- where the cut before cut k ends: its old offset, and its new one; 0 before the first
abbrev pub no_cut : Cut
no_cut = record { at = 0; whole = 0; kept = 0; is_align = false }

abbrev pub old_before : List Cut → ℕ → ℕ
old_before cuts zero = 0
old_before cuts (suc j) = (slice_index_or cuts j no_cut).at + (slice_index_or cuts j no_cut).whole

abbrev pub new_before : List Cut → ℕ → ℕ
new_before cuts zero = 0
new_before cuts (suc j) = new_offset cuts (slice_index_or cuts j no_cut).at + (slice_index_or cuts j no_cut).kept
