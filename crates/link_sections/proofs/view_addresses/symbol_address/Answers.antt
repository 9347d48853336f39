use Rattle.std.proofs.Common.{ℕ, List, ◌∙◌, ap, arith, length, slice_index}
use Rattle.lk_tables.specs.Files.{File}
use Rattle.lk_tables.proofs.ByNumber.{read_by_symbol}
use Rattle.link_sections.specs.Addresses.{symbol_address, symbol_addresses}
use Rattle.link_sections.specs.Views.{binding_in, files_in, laid_in, leaders_in}
use Rattle.link_sections.proofs.PastSymbols.{past_symbol}
use Rattle.link_sections.proofs.view_addresses.symbol_address.Goals as goal

pub returns-then-symbols-symbol : goal.returns-then-symbols-symbol
returns-then-symbols-symbol c =
    past_symbol (files_in c.args.view.now) (binding_in c.args.view.now) (leaders_in c.args.view.now) (laid_in c.args.view.now) c.args.file c.args.symbol
    (omega (arith, c.if-symbols-symbol.true, ap length c.symbols.ensures, ap (λ (file : File). length file.head.symbols) c.file.ensures))

pub returns : goal.returns
returns c =
    let files = files_in c.args.view.now in
    let b = binding_in c.args.view.now in
    let leaders = leaders_in c.args.view.now in
    let laid = laid_in c.args.view.now in
    c.number_at.ensures ∙ ap (λ (list : List ℕ). slice_index list c.symbol_no.result) c.as_slice.ensures.value
    ∙ ap (λ (list : List ℕ). slice_index list c.symbol_no.result) c.args.view.now.found.symbols
    ∙ ap (slice_index (symbol_addresses files b leaders laid)) c.symbol_no.ensures
    ∙ read_by_symbol files (symbol_address files b leaders laid) c.args.file c.args.symbol 0 c.requires
    (omega (arith, c.if-symbols-symbol.false, ap length c.symbols.ensures, ap (λ (file : File). length file.head.symbols) c.file.ensures))
