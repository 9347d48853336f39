use Rattle.std.proofs.Common.{◌≡◌, ◌∙◌, ap, pos, ◌+ℤ◌, rules}
use Rattle.lk_tables.specs.declared.section_places.SectionPlace.{SectionPlace}
use Rattle.lk_tables.specs.Targets.{spot_of}
use Rattle.link_sections.specs.Addresses.{target_address}
use Rattle.link_sections.specs.PieceTargets.{piece_target}
use Rattle.link_sections.specs.Views.{binding_in, files_in, laid_in, leaders_in}
use Rattle.link_sections.proofs.SymbolSums.{zero_sum_is}
use Rattle.reloc_apply.specs.Values.{addend_of, sum_of, target_in}
use Rattle.reloc_apply.proofs.SitePlaces.{live_place}
use Rattle.reloc_apply.proofs.values.zero_sum.Goals as goal

pub returns-clause-value : goal.returns-clause-value
unfolding sum_of target_in
returns-clause-value c =
    let files = files_in c.args.view.now in
    let b = binding_in c.args.view.now in
    let leaders = leaders_in c.args.view.now in
    let laid = laid_in c.args.view.now in
    let r = c.args.reloc.now in
    let place = c.args.site.place in
    let live = live_place files c.args.site.section place c.requires.site.law in
    let same : pos c.symbol_address.result +ℤ r.addend ≡ sum_of files b leaders laid c.args.site.section r =
    ap (λ a. pos a +ℤ r.addend) c.symbol_address.ensures
    ∙ zero_sum_is files b leaders laid place.file r live c.requires.zero
    ∙ ap (λ (p : SectionPlace). pos (target_address files b leaders laid (piece_target laid.merging.merged (spot_of files b p.file r)))
    +ℤ addend_of (piece_target laid.merging.merged (spot_of files b p.file r)) r) c.requires.site.place in
    search (rules, same)
