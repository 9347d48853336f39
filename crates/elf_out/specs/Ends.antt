-- The file offsets of what follows the sections.
use Rattle.std.specs.Prelude.{◌≡◌, ◌+◌, ◌<◌, ◌≤◌, ◌^◌, Option, length}
use Rattle.link_sections.specs.LaidOut.{LaidOut}
use Rattle.elf_out.specs.declared.ends.Ends.{Ends}
use Rattle.elf_out.specs.Executable.{names_bytes, names_offset, symbols_offset, table_offset, file_length}
use Rattle.elf_out.specs.Symbols.{SymbolTables}

-- where the tables at the file's end stand, in order; 63 bits hold them
pub record AreEnds (laid : LaidOut) (tables : Option SymbolTables) (ends : Ends) : Type 0 where
  pub symbols_at : ends.symbols_at ≡ symbols_offset laid tables
  pub names_at : ends.names_at ≡ names_offset laid tables
  pub names_size : ends.names_size ≡ length (names_bytes laid tables)
  pub table_at : ends.table_at ≡ table_offset laid tables
  pub end : ends.end ≡ file_length laid tables
  pub symbols_small : ends.symbols_at < 2 ^ 32
  pub names_small : ends.names_size < 2 ^ 62
  pub after_names : ends.names_at + ends.names_size ≤ ends.table_at
  pub after_table : ends.table_at ≤ ends.end
  pub small : ends.end < 2 ^ 63
