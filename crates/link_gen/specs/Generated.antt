-- The generated objects. What they have is the project's own.
use Rattle.std.specs.Prelude.{ℕ, ◌+◌, ◌*◌, ◌%◌, ◌^◌, ◌==◌, if◌then◌else◌, nat_lt, List, [], ◌∷◌, ◌++◌, length, map, filter, flat_map, codes, decimal, string_bytes, String}
use Rattle.std.specs.Global.{Global, Vec}
use Rattle.std.specs.List.{range_with_len}
use Rattle.lk_base.specs.declared.abi.TheConstants.{EF_RISCV_FLOAT_ABI_DOUBLE, EF_RISCV_RVC, SHT_PROGBITS, SHT_RELA, SHT_SYMTAB, SHF_WRITE, SHF_ALLOC, SHF_EXECINSTR, SHF_INFO_LINK, SHF_MERGE, SHF_STRINGS, RELA_SIZE, SYM_SIZE, STB_LOCAL, STB_GLOBAL, STT_NOTYPE, STT_FUNC, STT_SECTION, SHN_UNDEF, R_RISCV_64, R_RISCV_CALL_PLT, R_RISCV_RELAX}
use Rattle.elf_fields.specs.Numbers.{word}
use Rattle.elf_fields.specs.Symbols.{symbol_entry}
use Rattle.link_gen.specs.Elf.{Section, Symbol, entry_of, object_of, relocation, string_section, strings, symbol_entries, with_section_names, zeros}

-- the numbers of the sections that symbols and other sections name
abbrev pub f_section : ℕ
f_section = 1

abbrev pub g_section : ℕ
g_section = 3

abbrev pub d_section : ℕ
d_section = 4

abbrev pub rodata_section : ℕ
rodata_section = 5

abbrev pub data_section : ℕ
data_section = 6

abbrev pub symbol_section : ℕ
symbol_section = 8

abbrev pub name_section : ℕ
name_section = 9

-- the other objects whose f object k calls: 2k + 1 and 2k + 2, where these are there
abbrev pub called : (k n : ℕ) → List ℕ
called k n = filter (λ j. nat_lt j n) ((2 * k + 1) ∷ (2 * k + 2) ∷ [])

-- how many calls its f has: that of its g, and these
abbrev pub call_count : (k n : ℕ) → ℕ
call_count k n = 1 + length (called k n)

-- auipc ra, 0; jalr ra, 0(ra)
unfoldable pub call : List ℕ
call = word 0x97 ++ word 0x80e7

-- jalr x0, 0(ra)
unfoldable pub ret : List ℕ
ret = word 0x8067

-- f: so many calls
unfoldable pub f_code : (calls : ℕ) → List ℕ
f_code calls = flat_map (λ i. call) (range_with_len 0 calls) ++ ret

-- g: addi a0, x0, k mod 7
unfoldable pub g_code : (k : ℕ) → List ℕ
g_code k = word (0x513 + k % 7 * 2 ^ 20) ++ ret

-- the string, which every eleventh object has
unfoldable pub merged_string : (k : ℕ) → List ℕ
merged_string k = codes "s" ++ (decimal (k % 11) ++ 0 ∷ [])

-- a letter and a number, as in f12
abbrev pub numbered : (letter : List ℕ) (k : ℕ) → List ℕ
numbered letter k = letter ++ decimal k

-- a function at the start of a section that has nothing else
abbrev pub function : (name : List ℕ) (section size : ℕ) → Symbol
function name section size = record { name = name; info = STB_GLOBAL * 16 + STT_FUNC; section = section; size = size }

-- the f of another object
abbrev pub undefined : (j : ℕ) → Symbol
undefined j = record { name = numbered (codes "f") j; info = STB_GLOBAL * 16 + STT_NOTYPE; section = SHN_UNDEF; size = 0 }

-- object 0 has the function at which a program starts, which is its f
abbrev pub start : (k calls : ℕ) → List Symbol
start k calls = if k == 0 then function (codes "_start") f_section (length (f_code calls)) ∷ [] else []

-- the symbols that have names: those of the object's functions, and those of the functions that it calls in other objects
unfoldable pub named_symbols : (k n : ℕ) → List Symbol
named_symbols k n = start k (call_count k n)
    ++ (function (numbered (codes "f") k) f_section (length (f_code (call_count k n)))
    ∷ function (numbered (codes "g") k) g_section (length (g_code k))
    ∷ function (numbered (codes "d") k) d_section (length ret)
    ∷ map undefined (called k n))

-- symbol 0, which is no symbol; symbol 1, that of the string's section; and those that have names
unfoldable pub symbol_table : List Symbol → List ℕ
symbol_table named = symbol_entry (entry_of 0 0 0 0)
    ++ (symbol_entry (entry_of 0 (STB_LOCAL * 16 + STT_SECTION) rodata_section 0) ++ symbol_entries 1 named)

-- the symbol of the function that call i of object k is to: after the two symbols without names, and _start in object 0, stand f, g, d
-- and the others; call 0 is of g, call 1 of the first of the others
abbrev pub callee : (k i : ℕ) → ℕ
callee k i = 2 + (if k == 0 then 1 else 0) + (if i == 0 then 1 else 2 + i)

-- the relocations of a call of eight bytes, which may be made shorter
abbrev pub call_relocations : (k i : ℕ) → List ℕ
call_relocations k i = relocation (8 * i) R_RISCV_CALL_PLT (callee k i) ++ relocation (8 * i) R_RISCV_RELAX 0

unfoldable pub f_relocations : (k calls : ℕ) → List ℕ
f_relocations k calls = flat_map (call_relocations k) (range_with_len 0 calls)

-- code
abbrev pub code_section : (name contents : List ℕ) → Section
code_section name contents = record {
  name = name;
  sh_type = SHT_PROGBITS;
  flags = SHF_ALLOC + SHF_EXECINSTR;
  contents = contents;
  link = 0;
  info = 0;
  align = 4;
  entry_size = 0;
}

-- the relocations of a section
abbrev pub relocation_section : (name : List ℕ) (target : ℕ) (contents : List ℕ) → Section
relocation_section name target contents = record {
  name = name;
  sh_type = SHT_RELA;
  flags = SHF_INFO_LINK;
  contents = contents;
  link = symbol_section;
  info = target;
  align = 8;
  entry_size = RELA_SIZE;
}

-- strings of which equal ones are merged
abbrev pub merged_section : (name contents : List ℕ) → Section
merged_section name contents = record {
  name = name;
  sh_type = SHT_PROGBITS;
  flags = SHF_ALLOC + SHF_MERGE + SHF_STRINGS;
  contents = contents;
  link = 0;
  info = 0;
  align = 1;
  entry_size = 1;
}

-- data that is written while the program runs
abbrev pub written_section : (name contents : List ℕ) → Section
written_section name contents = record {
  name = name;
  sh_type = SHT_PROGBITS;
  flags = SHF_WRITE + SHF_ALLOC;
  contents = contents;
  link = 0;
  info = 0;
  align = 8;
  entry_size = 0;
}

-- the symbols, of which two are local
abbrev pub symbols_section : (name contents : List ℕ) → Section
symbols_section name contents = record {
  name = name;
  sh_type = SHT_SYMTAB;
  flags = 0;
  contents = contents;
  link = name_section;
  info = 2;
  align = 8;
  entry_size = SYM_SIZE;
}

-- the sections, from number 1 on, of an object with so many calls and these symbols
abbrev pub sections_with : (k calls : ℕ) → List Symbol → List Section
sections_with k calls named = with_section_names (code_section (codes ".text.f") (f_code calls)
    ∷ relocation_section (codes ".rela.text.f") f_section (f_relocations k calls)
    ∷ code_section (codes ".text.g") (g_code k)
    ∷ code_section (codes ".text.d") ret
    ∷ merged_section (codes ".rodata.str1.1") (merged_string k)
    ∷ written_section (codes ".data") (zeros 8)
    ∷ relocation_section (codes ".rela.data") data_section (relocation 0 R_RISCV_64 1)
    ∷ symbols_section (codes ".symtab") (symbol_table named)
    ∷ string_section (codes ".strtab") (strings (map (λ s. s.name) named))
    ∷ [])

-- object k of n
unfoldable pub object : (k n : ℕ) → List ℕ
object k n = object_of (EF_RISCV_RVC + EF_RISCV_FLOAT_ABI_DOUBLE) (sections_with k (call_count k n) (named_symbols k n))

abbrev pub object_name : (k : ℕ) → List ℕ
object_name k = codes "gen" ++ (decimal k ++ codes ".o")

-- object k of n: its name and its bytes
abbrev pub generated : (n k : ℕ) → List ℕ × List ℕ
generated n k = (object_name k, object k n)

abbrev pub objects : (n : ℕ) → List (List ℕ × List ℕ)
objects n = map (generated n) (range_with_len 0 n)

-- objects as they are handed out, as names and bytes
abbrev pub objects_in : List (String Global × Vec ℕ) → List (List ℕ × List ℕ)
objects_in list = map (λ o. (string_bytes o.0, o.1.items)) list
