use Rattle.std.proofs.Common.{◌<◌, ◌∙◌, sym, subst, List, [], length, arith}
use Rattle.std.specs.List.Sorted.{IsNonDecreasingBy}
use Rattle.std.proofs.lemmas.List.Kept.{IsNonDecreasingBy-filter}
use Rattle.lk_base.specs.RelocKinds.{is_upper}
use Rattle.lk_tables.specs.declared.objects.Reloc.{Reloc}
use Rattle.lk_tables.specs.Sites.{relocs_of}
use Rattle.lk_tables.specs.Uppers.{section_uppers, uppers_at}
use Rattle.lk_tables.proofs.ByNumber.{length_by_section}
use Rattle.link_sections.specs.Views.{files_in}
use Rattle.reloc_apply.proofs.SitePlaces.{listed_at, site_ordered}
use Rattle.reloc_apply.proofs.SoundLists.{all_sound}
use Rattle.reloc_apply.proofs.values.uppers_in.Goals as goal

pub returns-clause-value : goal.returns-clause-value
returns-clause-value c =
    let files = files_in c.args.view.now in
    let below : c.args.site.section < length (section_uppers files) = omega (arith, c.requires.number, length_by_section files (uppers_at files)) in
    c.uppers_of.ensures (section_uppers files) c.args.view.now.listed below
    ∙ listed_at files (uppers_at files) [] c.args.site c.requires

pub returns-clause-ordered : goal.returns-clause-ordered
returns-clause-ordered c =
    let files = files_in c.args.view.now in
    let P : List Reloc → Type 0 = λ list. IsNonDecreasingBy (λ (r : Reloc). r.offset) list in
    subst P (sym (returns-clause-value c))
    (IsNonDecreasingBy-filter (λ (r : Reloc). r.offset) (λ r. is_upper r.kind) (relocs_of files c.args.site.section)
    (site_ordered files c.args.site c.requires (all_sound c.args.view.now.tables.now)))
