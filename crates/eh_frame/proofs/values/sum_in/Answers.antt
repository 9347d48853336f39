use Rattle.std.proofs.Common.{◌≡◌, ◌∙◌, ap, sym, pos, ◌+ℤ◌, rules}
use Rattle.lk_tables.specs.Files.{File, is_section_symbol, symbol_at}
use Rattle.link_sections.specs.declared.targets.Target.{Target}
use Rattle.link_sections.specs.Addresses.{target_address}
use Rattle.link_sections.specs.Sums.{addend_of}
use Rattle.link_sections.specs.Views.{binding_in, files_in, laid_in, leaders_in}
use Rattle.eh_frame.specs.Bytes.{sum_in}
use Rattle.eh_frame.proofs.values.sum_in.Goals as goal

pub plain_sum-requires-clause-plain : goal.plain_sum-requires-clause-plain
plain_sum-requires-clause-plain c =
    ap is_section_symbol (sym (c.symbol-symbol.ensures ∙ ap (λ (f : File). symbol_at f c.args.reloc.now.symbol) c.file.ensures))
    ∙ sym c.is_section_symbol.ensures ∙ c.if-is_section_symbol.false

pub returns-then-is_section_symbol-clause-value : goal.returns-then-is_section_symbol-clause-value
unfolding sum_in
returns-then-is_section_symbol-clause-value c =
    let files = files_in c.args.view.now in
    let b = binding_in c.args.view.now in
    let leaders = leaders_in c.args.view.now in
    let laid = laid_in c.args.view.now in
    let r = c.args.reloc.now in
    let same : c.target_sum.result ≡ sum_in files b leaders laid c.args.file r =
    c.target_sum.ensures.value ∙ ap (λ (t : Target). pos (target_address files b leaders laid t) +ℤ addend_of t r) c.target_of.ensures in
    search (rules, same)
