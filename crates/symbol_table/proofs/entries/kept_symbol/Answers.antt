use Rattle.std.proofs.Common.{ap, ◌∙◌}
use Rattle.lk_tables.specs.Files.{file_at, symbol_at}
use Rattle.link_sections.specs.Views.{binding_in, files_in, laid_in, leaders_in}
use Rattle.symbol_table.specs.SymbolTable.{own_symbol, size_in}
use Rattle.symbol_table.proofs.entries.kept_symbol.Goals as goal

pub returns-clause-entry : goal.returns-clause-entry
returns-clause-entry c =
    let v = c.args.view.now in
    let files = files_in v in
    let b = binding_in v in
    let made = own_symbol files b v.kept.now (leaders_in v) (laid_in v) c.args.file c.args.symbol in
    c.own_symbol.ensures
    ∙ ap (λ n. made n c.place_noted-place.result) c.size_in-size.ensures
    ∙ ap (made (size_in files b v.kept.now (leaders_in v) (laid_in v) c.args.file c.args.section c.args.offset (symbol_at (file_at files c.args.file) c.args.symbol))) c.place_noted-place.ensures.place
