-- The bytes of a symbol's entry, and of a name (System V gABI, "Symbol Table", "String Table").
use Rattle.std.specs.Prelude.{ℕ, List, [], ◌∷◌, ◌++◌}
use Rattle.elf_fields.specs.declared.symbols.SymbolEntry.{SymbolEntry}
use Rattle.elf_fields.specs.Numbers.{half, long, word}

-- Elf64_Sym
unfoldable pub symbol_entry : SymbolEntry → List ℕ
symbol_entry s = word s.st_name ++ (s.st_info ∷ s.st_other ∷ half s.st_shndx ++ (long s.st_value ++ long s.st_size))

-- a name as it stands in a string table
abbrev pub zero_ended : List ℕ → List ℕ
zero_ended name = name ++ 0 ∷ []
