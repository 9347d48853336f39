use Rattle.std.proofs.Common.{◌≡◌, ◌++◌, ◌-◌, flat_map}
use Rattle.std.specs.List.{range_with_len}
use Rattle.link_sections.specs.Views.{binding_in, files_in, laid_in, leaders_in}
use Rattle.symbol_table.specs.NamedViews.{named_views}
use Rattle.symbol_table.specs.SymbolTable.{entries_in}
use Rattle.symbol_table.proofs.listing.entries_of.Given as goal

abbrev pub invariant-loop-file : goal.invariant-loop-file
invariant-loop-file l =
    let v = l.view in
    let row = entries_in (files_in v) (binding_in v) v.kept.now (leaders_in v) (laid_in v) in
    named_views l.list.items ++ flat_map row (range_with_len l.file (l.fn.piece.end - l.file)) ≡ flat_map row (range_with_len l.fn.piece.start (l.fn.piece.end - l.fn.piece.start))
