use Rattle.std.proofs.Common.{◌-◌, ◌∙◌, ap, arith, sym}
use Rattle.lk_base.specs.declared.abi.TheConstants.{IMAGE_BASE}
use Rattle.link_sections.specs.CutsView.{cut_views}
use Rattle.link_sections.specs.LaidOut.{cuts_at, start_at, with_contents}
use Rattle.link_sections.specs.Views.{binding_in, files_in, laid_in, leaders_in}
use Rattle.reloc_apply.specs.Relocated.{is_laid}
use Rattle.reloc_apply.proofs.LaidCuts.{cuts_of}
use Rattle.reloc_apply.proofs.LaidFacts.{known}
use Rattle.reloc_apply.proofs.SoundLists.{all_sound}
use Rattle.reloc_apply.proofs.SourceFacts.{source_is}
use Rattle.reloc_apply.proofs.sources.source_of.Goals as goal

pub site_of-site-requires : goal.site_of-site-requires
site_of-site-requires c =
    let view = c.args.view.now in
    (known (files_in view) (binding_in view) (leaders_in view) (laid_in view) c.args.section view.sound c.requires).section.number

pub overflow_sub-result : goal.overflow_sub-result
unfolding with_contents
overflow_sub-result c =
    let view = c.args.view.now in
    let is = known (files_in view) (binding_in view) (leaders_in view) (laid_in view) c.args.section view.sound c.requires in
    omega (arith, is.low, is.section.start, c.start_of.ensures)

pub returns-clause-source : goal.returns-clause-source
unfolding with_contents
returns-clause-source c =
    let view = c.args.view.now in
    let files = files_in view in
    let b = binding_in view in
    let leaders = leaders_in view in
    let laid = laid_in view in
    let same = c.site_of-site.ensures.section in
    source_is files b leaders laid _ view.sound (all_sound view.tables.now)
    (ap (is_laid files b leaders laid) same ∙ c.requires)
    c.site_of-site.ensures.site
    (ap (λ n. n - IMAGE_BASE) (c.start_of.ensures ∙ ap (start_at laid) (sym same)))
    c.contents.ensures
    (ap cut_views c.cuts.ensures.value ∙ sym (cuts_of view.layout.now c.args.section) ∙ ap (cuts_at laid) (sym same))
    c.relocs_at.ensures
    c.cuts.ensures.sound
