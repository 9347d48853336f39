-- The bytes of the symbol table and of the names of its symbols, and those of the unwind records, as plain lists.
use Rattle.std.specs.Prelude.{Option, List, [], if◌then◌else◌, option_map}
use Rattle.lk_tables.specs.declared.frames.FrameBytes.{FrameBytes}
use Rattle.link_sections.specs.declared.views.View.{View}
use Rattle.link_sections.specs.Views.{binding_in, files_in, laid_in, leaders_in}
use Rattle.elf_out.specs.declared.symbols.SymbolTables.{SymbolTables as HeldTables}
use Rattle.elf_out.specs.Executable.{FrameContents, own_tables}
use Rattle.elf_out.specs.Symbols.{SymbolTables}
use Rattle.symbol_table.specs.SymbolTable.{TableSymbol, all_entries}

abbrev pub tables_view : HeldTables → SymbolTables
tables_view t = record { symbols = t.symbols.items; strings = t.strings.items }

abbrev pub tables_if : Option HeldTables → Option SymbolTables
tables_if t = option_map tables_view t

abbrev pub frame_contents : FrameBytes → FrameContents
frame_contents f = record { header = f.header.items; frame = f.frame.items }

-- the symbol table and its names, by a view
abbrev pub tables_in : View → Option SymbolTables
tables_in view = own_tables (files_in view) (binding_in view) view.kept.now view.strip (leaders_in view) (laid_in view)

-- the entries of its symbols in order of file and symbol, none where it has no symbol table
abbrev pub entries_in : View → List TableSymbol
entries_in view = if view.strip then [] else all_entries (files_in view) (binding_in view) view.kept.now (leaders_in view) (laid_in view)
