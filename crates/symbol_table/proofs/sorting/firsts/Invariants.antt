use Rattle.std.proofs.Common.{◌≡◌, ◌++◌, None, drop}
use Rattle.lk_tables.specs.LinkerSymbols.{text_if}
use Rattle.symbol_table.specs.NamedViews.{named_views}
use Rattle.symbol_table.specs.Repeats.{firsts_after}
use Rattle.symbol_table.specs.SymbolTable.{TableSymbol}
use Rattle.symbol_table.specs.SymbolViews.{symbol_views}
use Rattle.symbol_table.proofs.sorting.firsts.Given as goal

abbrev pub invariant-loop-entry : goal.invariant-loop-entry
invariant-loop-entry l =
    symbol_views l.firsts.items ++ firsts_after (λ (t : TableSymbol). t.name) (text_if l.before) (named_views (drop l.entry-index l.list))
    ≡ firsts_after (λ (t : TableSymbol). t.name) None (named_views l.list)
