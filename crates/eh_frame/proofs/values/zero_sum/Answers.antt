use Rattle.std.proofs.Common.{◌≡◌, ◌∙◌, ap, pos, ◌+ℤ◌, rules}
use Rattle.link_sections.specs.Views.{binding_in, files_in, laid_in, leaders_in}
use Rattle.link_sections.proofs.SymbolSums.{zero_sum_is}
use Rattle.eh_frame.specs.Bytes.{sum_in, reloc_target}
use Rattle.eh_frame.proofs.values.zero_sum.Goals as goal

pub returns-clause-value : goal.returns-clause-value
unfolding sum_in reloc_target
returns-clause-value c =
    let files = files_in c.args.view.now in
    let b = binding_in c.args.view.now in
    let leaders = leaders_in c.args.view.now in
    let laid = laid_in c.args.view.now in
    let r = c.args.reloc.now in
    let same : pos c.symbol_address.result +ℤ r.addend ≡ sum_in files b leaders laid c.args.file r =
    ap (λ a. pos a +ℤ r.addend) c.symbol_address.ensures ∙ zero_sum_is files b leaders laid c.args.file r c.requires.live c.requires.zero in
    search (rules, same)
