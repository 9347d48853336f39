use Rattle.std.proofs.Common.{Option, sym, subst}
use Rattle.std.specs.Prelude.{IfSome}
use Rattle.lk_tables.specs.declared.objects.Reloc.{Reloc}
use Rattle.lk_tables.specs.Sites.{relocs_of}
use Rattle.link_sections.specs.Views.{files_in}
use Rattle.reloc_apply.specs.Sites.{HasSymbol}
use Rattle.reloc_apply.specs.Values.{is_upper_at}
use Rattle.reloc_apply.proofs.SiteSymbols.{found_has, site_symbols}
use Rattle.reloc_apply.proofs.SoundLists.{all_sound}
use Rattle.reloc_apply.proofs.values.partner_of.Goals as goal

pub returns-clause-symbol : goal.returns-clause-symbol
returns-clause-symbol c =
    let files = files_in c.args.view.now in
    let P : Option Reloc → Type 0 = λ o. IfSome o (HasSymbol files c.args.site) in
    subst P (sym c.find_upper.ensures)
    (found_has (HasSymbol files c.args.site) (is_upper_at c.in-Some.offset) (relocs_of files c.args.site.section)
    (site_symbols files c.args.site c.requires (all_sound c.args.view.now.tables.now)))
