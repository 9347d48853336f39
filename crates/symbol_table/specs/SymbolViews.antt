-- Entries that hold their names by reference, as plain records.
use Rattle.std.specs.Prelude.{Option, option_map, List, [], map}
use Rattle.std.specs.List.{cons_option}
use Rattle.symbol_table.specs.declared.symbols.TableSymbol.{TableSymbol as HeldSymbol}
use Rattle.symbol_table.specs.SymbolTable.{TableSymbol}

abbrev pub symbol_view : HeldSymbol → TableSymbol
symbol_view t = record {
  name = t.name.now;
  binding = t.binding;
  sort = t.sort;
  value = t.value;
  size = t.size;
  section = t.section;
}

abbrev pub symbol_views : List HeldSymbol → List TableSymbol
symbol_views list = map symbol_view list

-- an entry that may be there
abbrev pub views_if : Option HeldSymbol → List TableSymbol
views_if entry = cons_option (option_map symbol_view entry) []
