use Rattle.std.proofs.Common.{◌≡◌, ◌∷◌, ◌++◌, drop}
use Rattle.symbol_table.specs.SymbolViews.{symbol_views}
use Rattle.elf_out.specs.Symbols.{symbol_names}
use Rattle.elf_out.proofs.symbols.strings_of.Given as goal

abbrev pub invariant-loop-symbol : goal.invariant-loop-symbol
invariant-loop-symbol l =
    l.strings.items ++ symbol_names (symbol_views (drop l.symbol-index l.list)) ≡ 0 ∷ symbol_names (symbol_views l.list)
