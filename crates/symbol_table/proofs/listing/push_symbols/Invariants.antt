use Rattle.std.proofs.Common.{◌≡◌, ◌++◌, flat_map}
use Rattle.std.specs.List.{range_with_len}
use Rattle.link_sections.specs.Views.{binding_in, files_in, laid_in, leaders_in}
use Rattle.symbol_table.specs.NamedViews.{named_views}
use Rattle.symbol_table.specs.Seen.{AreSeen}
use Rattle.symbol_table.specs.SymbolTable.{entry_of}
use Rattle.symbol_table.proofs.listing.push_symbols.Given as goal

abbrev pub invariant-loop-symbol : goal.invariant-loop-symbol
invariant-loop-symbol l =
    let v = l.view in
    let give = entry_of (files_in v) (binding_in v) v.kept.now (leaders_in v) (laid_in v) l.file in
    record {
      list : named_views l.list.items ≡ named_views l.fn.list.items ++ flat_map give (range_with_len 0 l.symbol);
      seen : AreSeen (files_in v) (binding_in v) (laid_in v) l.file l.seen.items;
    }
