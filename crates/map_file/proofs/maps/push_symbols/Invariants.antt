use Rattle.std.proofs.Common.{◌≡◌, ◌++◌, drop, flat_map}
use Rattle.symbol_table.specs.SymbolViews.{symbol_views}
use Rattle.map_file.specs.MapText.{symbol_line}
use Rattle.map_file.proofs.maps.push_symbols.Given as goal

abbrev pub invariant-loop-symbol : goal.invariant-loop-symbol
invariant-loop-symbol l =
    l.text.items ++ flat_map symbol_line (symbol_views (drop l.symbol-index l.symbols)) ≡ l.fn.text.items ++ flat_map symbol_line (symbol_views l.symbols)
