-- The headers of the executable (System V gABI, "ELF Header", "Program Header", "Section Header").
use Rattle.std.specs.Prelude.{ℕ, ◌+◌, ◌-◌, ◌%◌, ◌^◌, Option, Some, None, if◌then◌else◌, List, [], ◌∷◌, ◌++◌, length, codes, flat_map, bit_and, bit_or}
use Rattle.std.specs.List.{fold}
use Rattle.lk_base.specs.declared.abi.TheConstants.{ET_EXEC, EHDR_SIZE, PHDR_SIZE, IMAGE_BASE, PAGE, PT_LOAD, PT_TLS, PT_GNU_EH_FRAME, PT_GNU_STACK, PF_R, PF_W, PF_X, SHT_NULL, SHT_STRTAB, SHT_SYMTAB, SYM_SIZE, EF_RISCV_RVC, EF_RISCV_TSO, EF_RISCV_FLOAT_ABI}
use Rattle.elf_fields.specs.declared.headers.ProgramHeader.{ProgramHeader}
use Rattle.elf_fields.specs.declared.headers.SectionHeader.{SectionHeader}
use Rattle.elf_fields.specs.Headers.{file_header, program_header, section_header}
use Rattle.elf_fields.specs.Symbols.{zero_ended}
use Rattle.link_sections.specs.declared.layouts.Bounds.{Bounds}
use Rattle.link_sections.specs.LaidOut.{OutputSection}
use Rattle.elf_out.specs.Symbols.{SymbolTables}

-- the file header of an executable: its entry; program headers after this header, section headers at `table`; the flags; how many headers
-- of each kind there are, and the number of the section that has the names, the last one
unfoldable pub executable_header : (entry table flags segments sections : ℕ) → List ℕ
executable_header entry table flags segments sections = file_header (record {
  e_type = ET_EXEC;
  e_entry = entry;
  e_phoff = EHDR_SIZE;
  e_shoff = table;
  e_flags = flags;
  e_phentsize = PHDR_SIZE;
  e_phnum = segments;
  e_shnum = sections;
  e_shstrndx = sections - 1;
})

-- a segment that is loaded, from one address to another, of which `bits` ends what the file has
abbrev pub loaded : (flags start bits end : ℕ) → ProgramHeader
loaded flags start bits end = record {
  p_type = PT_LOAD;
  p_flags = flags;
  p_offset = start - IMAGE_BASE;
  p_vaddr = start;
  p_filesz = bits - start;
  p_memsz = end - start;
  p_align = PAGE;
}

-- the thread-local sections: those with bits first, which alone have bytes in the file
abbrev pub tls_segment : Bounds → ProgramHeader
tls_segment b = record {
  p_type = PT_TLS;
  p_flags = PF_R;
  p_offset = b.tls_start - IMAGE_BASE;
  p_vaddr = b.tls_start;
  p_filesz = if b.has_tls_bits then b.tls_bits_end - b.tls_start else 0;
  p_memsz = b.tls_end - b.tls_start;
  p_align = b.tls_align;
}

-- the table by which unwind records are found: `.eh_frame_hdr` (LSB Core, "Program Header")
abbrev pub frame_segment : Bounds → ProgramHeader
frame_segment b = record {
  p_type = PT_GNU_EH_FRAME;
  p_flags = PF_R;
  p_offset = b.frame_header - IMAGE_BASE;
  p_vaddr = b.frame_header;
  p_filesz = b.frame_header_end - b.frame_header;
  p_memsz = b.frame_header_end - b.frame_header;
  p_align = 4;
}

-- the stack is read and written
abbrev pub stack_segment : ProgramHeader
stack_segment = record { p_type = PT_GNU_STACK; p_flags = PF_R + PF_W; p_offset = 0; p_vaddr = 0; p_filesz = 0; p_memsz = 0; p_align = 16 }

-- read only, with the headers; read and execute; read and write; the thread-local sections; the unwind records; the stack
abbrev pub segments : Bounds → List ProgramHeader
segments b = loaded PF_R IMAGE_BASE b.r_end b.r_end
    ∷ (if b.has_rx then loaded (PF_R + PF_X) b.rx_start b.rx_end b.rx_end ∷ [] else [])
    ++ ((if b.has_rw then loaded (PF_R + PF_W) b.rw_start b.bits_end b.nobits_end ∷ [] else [])
    ++ ((if b.has_tls then tls_segment b ∷ [] else [])
    ++ ((if b.has_frames then frame_segment b ∷ [] else []) ++ stack_segment ∷ [])))

unfoldable pub program_headers : Bounds → List ℕ
program_headers b = flat_map program_header (segments b)

-- no section
abbrev pub null_section : SectionHeader
null_section = record { sh_name = 0; sh_type = SHT_NULL; sh_flags = 0; sh_addr = 0; sh_offset = 0; sh_size = 0; sh_link = 0; sh_info = 0; sh_addralign = 0; sh_entsize = 0 }

-- an output section whose name starts at `name` of the string table
abbrev pub output_section : (name : ℕ) → OutputSection → SectionHeader
output_section name s = record {
  sh_name = name % 2 ^ 32;
  sh_type = s.sh_type;
  sh_flags = s.flags;
  sh_addr = s.address;
  sh_offset = s.address - IMAGE_BASE;
  sh_size = s.size;
  sh_link = 0;
  sh_info = 0;
  sh_addralign = s.align;
  sh_entsize = 0;
}

-- a string table
abbrev pub strings_section : (name offset size : ℕ) → SectionHeader
strings_section name offset size = record {
  sh_name = name % 2 ^ 32;
  sh_type = SHT_STRTAB;
  sh_flags = 0;
  sh_addr = 0;
  sh_offset = offset;
  sh_size = size;
  sh_link = 0;
  sh_info = 0;
  sh_addralign = 1;
  sh_entsize = 0;
}

-- the symbol table, whose names are in the section of number `strings`; no symbol but the null one is local
abbrev pub symbols_section : (name offset size strings : ℕ) → SectionHeader
symbols_section name offset size strings = record {
  sh_name = name % 2 ^ 32;
  sh_type = SHT_SYMTAB;
  sh_flags = 0;
  sh_addr = 0;
  sh_offset = offset;
  sh_size = size;
  sh_link = strings % 2 ^ 32;
  sh_info = 1;
  sh_addralign = 8;
  sh_entsize = SYM_SIZE;
}

-- the section name string table: a zero byte, the names of the output sections, those of the symbol table and of its names, and its own
abbrev pub output_names : List OutputSection → List ℕ
output_names outputs = flat_map (λ s. zero_ended s.name) outputs

unfoldable pub symbols_name : List ℕ
symbols_name = zero_ended (codes ".symtab")

unfoldable pub strings_name : List ℕ
strings_name = zero_ended (codes ".strtab")

unfoldable pub own_name : List ℕ
own_name = zero_ended (codes ".shstrtab")

abbrev pub table_names : Option SymbolTables → List ℕ
table_names None = []
table_names (Some t) = symbols_name ++ strings_name

unfoldable pub section_names : List OutputSection → Option SymbolTables → List ℕ
section_names outputs tables = 0 ∷ output_names outputs ++ (table_names tables ++ own_name)

-- the headers of output sections, the first of whose names starts at `name`
abbrev pub output_headers : (name : ℕ) → List OutputSection → List ℕ
output_headers name [] = []
output_headers name (s ∷ ss) = section_header (output_section name s) ++ output_headers (name + length s.name + 1) ss

-- the section headers of the symbol table, which stands at the file offset `at`, and of its names: their own names start at `name`, the second of them has
-- the number `strings`
abbrev pub table_headers : (name at strings : ℕ) → Option SymbolTables → List ℕ
table_headers name at strings None = []
table_headers name at strings (Some t) =
    section_header (symbols_section name at (length t.symbols) strings)
    ++ section_header (strings_section (name + 8) (at + length t.symbols) (length t.strings))

-- the section headers, if the symbol table stands at the file offset `at` and the names at `offset`
unfoldable pub section_headers : List OutputSection → Option SymbolTables → (at offset : ℕ) → List ℕ
section_headers outputs tables at offset = section_header null_section
    ++ (output_headers 1 outputs
    ++ (table_headers (1 + length (output_names outputs)) at (length outputs + 2) tables
    ++ section_header (strings_section (1 + length (output_names outputs) + length (table_names tables)) offset (length (section_names outputs tables)))))

-- the flags of the code that an executable keeps: compressed instructions and total store order of any file, and the float ABI
-- of the first
abbrev pub flags_together : List ℕ → ℕ
flags_together flags = fold (λ found own. bit_or found own) 0 flags

abbrev pub first_flags : List ℕ → ℕ
first_flags [] = 0
first_flags (first ∷ rest) = first

unfoldable pub kept_flags : List ℕ → ℕ
kept_flags [] = 0
kept_flags (first ∷ rest) = bit_or (bit_and (flags_together (first ∷ rest)) (EF_RISCV_RVC + EF_RISCV_TSO)) (bit_and first EF_RISCV_FLOAT_ABI)
