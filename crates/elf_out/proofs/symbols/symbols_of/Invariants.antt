use Rattle.std.proofs.Common.{◌≡◌, ◌++◌, drop, replicate}
use Rattle.lk_base.specs.declared.abi.TheConstants.{SYM_SIZE}
use Rattle.symbol_table.specs.SymbolViews.{symbol_views}
use Rattle.elf_out.specs.Symbols.{symbol_entries}
use Rattle.elf_out.proofs.symbols.symbols_of.Given as goal

abbrev pub invariant-loop-symbol : goal.invariant-loop-symbol
invariant-loop-symbol l =
    l.symbols.items ++ symbol_entries l.name (symbol_views (drop l.symbol-index l.list)) ≡ replicate SYM_SIZE 0 ++ symbol_entries 1 (symbol_views l.list)
