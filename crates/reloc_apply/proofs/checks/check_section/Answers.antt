use Rattle.std.proofs.Common.{ℕ, ◌-◌, ◌∙◌, [], List, ap, flat_map, length, min, subst, sym}
use Rattle.std.specs.List.{All, range_with_len}
use Rattle.std.specs.Prelude.{if◌then◌else◌}
use Rattle.lk_base.specs.declared.defects.Defect.{Defect}
use Rattle.lk_tables.specs.declared.objects.Reloc.{Reloc}
use Rattle.lk_tables.specs.Sites.{relocs_of}
use Rattle.link_sections.specs.Leaders.{leads}
use Rattle.link_sections.specs.Views.{binding_in, files_in, laid_in, leaders_in}
use Rattle.reloc_apply.specs.Relocated.{defects_at}
use Rattle.reloc_apply.specs.Sites.{HasSymbol}
use Rattle.reloc_apply.proofs.NumberWalks.{given_if}
use Rattle.reloc_apply.proofs.SiteSymbols.{site_symbols}
use Rattle.reloc_apply.proofs.SoundLists.{all_sound}
use Rattle.reloc_apply.proofs.checks.check_section.Goals as goal

pub check_relocs-requires-clause-symbols : goal.check_relocs-requires-clause-symbols
check_relocs-requires-clause-symbols c =
    let files = files_in c.args.view.now in
    let site = c.site_of-site.result in
    let P : List Reloc → Type 0 = λ rs. All (HasSymbol files site) rs in
    subst P (sym c.relocs_at-relocs.ensures) (site_symbols files site c.site_of-site.ensures.site (all_sound c.args.view.now.tables.now))

pub returns-then-not-leads : goal.returns-then-not-leads
returns-then-not-leads c =
    let view = c.args.view.now in
    let rs = relocs_of (files_in view) c.args.section in
    let f : ℕ → List Defect = defects_at (files_in view) (binding_in view) (leaders_in view) (laid_in view) c.args.section in
    let range = range_with_len c.args.from (min c.args.to (length rs) - c.args.from) in
    given_if (leads (leaders_in view) c.args.section) f range
    ∙ ap (λ d. if d then flat_map f range else []) (sym c.leads.ensures ∙ c.if-not-leads.true)
