use Rattle.std.proofs.Common.{◌≡◌, ◌∙◌, ap, sym, pos, ◌+ℤ◌, rules}
use Rattle.lk_tables.specs.declared.section_places.SectionPlace.{SectionPlace}
use Rattle.lk_tables.specs.Targets.{spot_of}
use Rattle.link_sections.specs.Addresses.{linker_address}
use Rattle.link_sections.specs.PieceTargets.{piece_target}
use Rattle.link_sections.specs.Views.{binding_in, files_in, laid_in, leaders_in}
use Rattle.link_sections.proofs.SymbolSums.{linker_is}
use Rattle.reloc_apply.specs.Values.{target_in}
use Rattle.reloc_apply.proofs.SitePlaces.{live_place}
use Rattle.reloc_apply.proofs.values.target_sum.Goals as goal

pub returns-in-Linker-clause-value : goal.returns-in-Linker-clause-value
unfolding target_in
returns-in-Linker-clause-value c =
    let files = files_in c.args.view.now in
    let b = binding_in c.args.view.now in
    let leaders = leaders_in c.args.view.now in
    let laid = laid_in c.args.view.now in
    let r = c.args.reloc.now in
    let place = c.args.site.place in
    let n = c.in-Linker.field-0 in
    let live = live_place files c.args.site.section place c.requires.site.law in
    let is = ap (λ (p : SectionPlace). piece_target laid.merging.merged (spot_of files b p.file r)) c.requires.site.place ∙ sym c.requires.target ∙ c.in-Linker.is in
    let same : pos c.symbol_address.result +ℤ r.addend ≡ pos (linker_address files b leaders laid n) +ℤ r.addend =
    ap (λ a. pos a +ℤ r.addend) (c.symbol_address.ensures ∙ linker_is files b leaders laid place.file r n live is) in
    search (rules, same)
