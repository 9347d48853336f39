-- The bytes of headers, field after field (System V gABI, "ELF Header", "Program Header", "Section Header").
use Rattle.std.specs.Prelude.{ℕ, List, [], ◌∷◌, ◌++◌}
use Rattle.lk_base.specs.declared.abi.TheConstants.{ELFCLASS64, ELFDATA2LSB, EV_CURRENT, EM_RISCV, EHDR_SIZE, SHDR_SIZE}
use Rattle.elf_fields.specs.declared.headers.FileHeader.{FileHeader}
use Rattle.elf_fields.specs.declared.headers.ProgramHeader.{ProgramHeader}
use Rattle.elf_fields.specs.declared.headers.SectionHeader.{SectionHeader}
use Rattle.elf_fields.specs.Numbers.{half, long, word}

-- e_ident: 64 bits, little endian, version 1, and nine zeros
unfoldable pub identification : List ℕ
identification = 0x7f ∷ 0x45 ∷ 0x4c ∷ 0x46 ∷ ELFCLASS64 ∷ ELFDATA2LSB ∷ EV_CURRENT ∷ 0 ∷ 0 ∷ 0 ∷ 0 ∷ 0 ∷ 0 ∷ 0 ∷ 0 ∷ 0 ∷ []

-- Elf64_Ehdr, for RISC-V: e_machine, e_version, e_ehsize and e_shentsize are the same in each file
unfoldable pub file_header : FileHeader → List ℕ
file_header h =
    identification ++ (half h.e_type ++ (half EM_RISCV ++ (word EV_CURRENT ++ (long h.e_entry ++ (long h.e_phoff ++ (long h.e_shoff
    ++ (word h.e_flags ++ (half EHDR_SIZE ++ (half h.e_phentsize ++ (half h.e_phnum ++ (half SHDR_SIZE ++ (half h.e_shnum
    ++ half h.e_shstrndx))))))))))))

-- Elf64_Phdr, whose p_paddr is its p_vaddr
unfoldable pub program_header : ProgramHeader → List ℕ
program_header h =
    word h.p_type ++ (word h.p_flags ++ (long h.p_offset ++ (long h.p_vaddr ++ (long h.p_vaddr ++ (long h.p_filesz
    ++ (long h.p_memsz ++ long h.p_align))))))

-- Elf64_Shdr
unfoldable pub section_header : SectionHeader → List ℕ
section_header h =
    word h.sh_name ++ (word h.sh_type ++ (long h.sh_flags ++ (long h.sh_addr ++ (long h.sh_offset ++ (long h.sh_size
    ++ (word h.sh_link ++ (word h.sh_info ++ (long h.sh_addralign ++ long h.sh_entsize))))))))
