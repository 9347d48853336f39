use Rattle.std.proofs.Common.{◌≡◌, ◌∙◌, ap, sym, pos, ◌+ℤ◌, rules}
use Rattle.link_sections.specs.Addresses.{linker_address}
use Rattle.link_sections.specs.Views.{binding_in, files_in, laid_in, leaders_in}
use Rattle.link_sections.proofs.SymbolSums.{linker_is}
use Rattle.eh_frame.specs.Bytes.{reloc_target}
use Rattle.eh_frame.proofs.values.target_sum.Goals as goal

pub returns-in-Linker-clause-value : goal.returns-in-Linker-clause-value
unfolding reloc_target
returns-in-Linker-clause-value c =
    let files = files_in c.args.view.now in
    let b = binding_in c.args.view.now in
    let leaders = leaders_in c.args.view.now in
    let laid = laid_in c.args.view.now in
    let r = c.args.reloc.now in
    let n = c.in-Linker.field-0 in
    let is = sym c.requires.target ∙ c.in-Linker.is in
    let same : pos c.symbol_address.result +ℤ r.addend ≡ pos (linker_address files b leaders laid n) +ℤ r.addend =
    ap (λ a. pos a +ℤ r.addend) (c.symbol_address.ensures ∙ linker_is files b leaders laid c.args.file r n c.requires.live is) in
    search (rules, same)
