-- The symbol table of the executable, and the names of its symbols (System V gABI, "Symbol Table", "String Table").
use Rattle.std.specs.Prelude.{ℕ, ◌+◌, ◌*◌, ◌%◌, ◌^◌, List, [], ◌∷◌, ◌++◌, length, flat_map, replicate}
use Rattle.lk_base.specs.declared.abi.TheConstants.{SHN_ABS, SYM_SIZE}
use Rattle.elf_fields.specs.declared.symbols.SymbolEntry.{SymbolEntry}
use Rattle.elf_fields.specs.Symbols.{symbol_entry, zero_ended}
use Rattle.symbol_table.specs.declared.symbols.TablePlace.{TablePlace}
use Rattle.symbol_table.specs.declared.symbols.TablePlace.TheVariants.{Absolute, Output}
use Rattle.symbol_table.specs.SymbolTable.{TableSymbol}

-- the bytes of the symbol table, and of the names
pub record SymbolTables : Type 0 where
  pub symbols : List ℕ
  pub strings : List ℕ

-- st_info: the binding has the high four bits, the type the low
abbrev pub info_of : TableSymbol → ℕ
info_of t = t.binding % 16 * 16 + t.sort % 16

-- st_shndx: output sections have the first section headers after the null one
abbrev pub index_of : TablePlace → ℕ
index_of Absolute = SHN_ABS
index_of (Output number) = number

-- the entry of a symbol whose name starts at `name` of the names; its st_other is 0
abbrev pub entry_of : (name : ℕ) → TableSymbol → SymbolEntry
entry_of name t = record {
  st_name = name % 2 ^ 32;
  st_info = info_of t;
  st_other = 0;
  st_shndx = index_of t.section;
  st_value = t.value;
  st_size = t.size;
}

unfoldable pub entry_bytes : (name : ℕ) → TableSymbol → List ℕ
entry_bytes name t = symbol_entry (entry_of name t)

abbrev pub symbol_entries : (name : ℕ) → List TableSymbol → List ℕ
symbol_entries name [] = []
symbol_entries name (t ∷ ts) = entry_bytes name t ++ symbol_entries (name + length t.name + 1) ts

abbrev pub symbol_names : List TableSymbol → List ℕ
symbol_names ts = flat_map (λ (t : TableSymbol). zero_ended t.name) ts

-- the null symbol and the symbols; a zero byte and their names
unfoldable pub symbol_tables : List TableSymbol → SymbolTables
symbol_tables ts = record { symbols = replicate SYM_SIZE 0 ++ symbol_entries 1 ts; strings = 0 ∷ symbol_names ts }
