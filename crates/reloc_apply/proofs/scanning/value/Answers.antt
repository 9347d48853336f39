use Rattle.std.proofs.Common.{◌∙◌, ap, sym, false, true, is_some}
use Rattle.link_sections.specs.Views.{binding_in, files_in, laid_in, leaders_in}
use Rattle.reloc_apply.specs.Relocated.{value_at}
use Rattle.reloc_apply.proofs.SoundLists.{all_sound}
use Rattle.reloc_apply.proofs.ValuePlaces.{kind_has, laid_if, none_at, some_at}
use Rattle.reloc_apply.proofs.scanning.value.Goals as goal

pub returns-then-not-has_value-clause-value : goal.returns-then-not-has_value-clause-value
returns-then-not-has_value-clause-value c =
    let view = c.args.view.now in
    let has = kind_has (files_in view) c.args.section c.site_of.result.section c.args.reloc c.relocs_at.result.now c.has_value.result false
    c.relocs_at.ensures c.site_of.ensures.section c.has_value.ensures c.if-not-has_value.true in
    sym (none_at (files_in view) (binding_in view) (leaders_in view) (laid_in view) c.args.section c.args.reloc has)

pub returns-then-not-has_value-clause-some : goal.returns-then-not-has_value-clause-some
returns-then-not-has_value-clause-some c =
    let view = c.args.view.now in
    let has = kind_has (files_in view) c.args.section c.site_of.result.section c.args.reloc c.relocs_at.result.now c.has_value.result false
    c.relocs_at.ensures c.site_of.ensures.section c.has_value.ensures c.if-not-has_value.true in
    ap is_some (sym (none_at (files_in view) (binding_in view) (leaders_in view) (laid_in view) c.args.section c.args.reloc has))
    ∙ some_at (files_in view) (binding_in view) (leaders_in view) (laid_in view) c.args.section c.args.reloc

pub source_of-requires : goal.source_of-requires
source_of-requires c =
    let view = c.args.view.now in
    let has = kind_has (files_in view) c.args.section c.site_of.result.section c.args.reloc c.relocs_at.result.now c.has_value.result true
    c.relocs_at.ensures c.site_of.ensures.section c.has_value.ensures c.if-not-has_value.false in
    laid_if (files_in view) (binding_in view) (leaders_in view) (laid_in view) c.args.section c.args.reloc view.sound (all_sound view.tables.now)
    c.requires.number c.requires.own c.requires.reloc has

pub returns-clause-some : goal.returns-clause-some
returns-clause-some c =
    let view = c.args.view.now in
    ap is_some (c.value_by.ensures
    ∙ ap (λ n. value_at (files_in view) (binding_in view) (leaders_in view) (laid_in view) n c.args.reloc) c.source_of.ensures.section)
    ∙ some_at (files_in view) (binding_in view) (leaders_in view) (laid_in view) c.args.section c.args.reloc
