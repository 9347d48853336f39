use Rattle.std.proofs.Common.{◌∙◌, sym}
use Rattle.lk_tables.specs.Sites.{contents_at}
use Rattle.link_sections.specs.LaidOut.{cuts_at}
use Rattle.link_sections.specs.Views.{files_in, laid_in}
use Rattle.reloc_apply.proofs.PlaceWidths.{number_wide, plain_wide}
use Rattle.reloc_apply.proofs.operands.width_in.Goals as goal

pub returns-then-is_uleb-clause-value : goal.returns-then-is_uleb-clause-value
returns-then-is_uleb-clause-value c =
    let n = c.args.source.now.site.section in
    number_wide (contents_at (files_in c.args.view.now) n) c.args.source.now.raw.now (cuts_at (laid_in c.args.view.now) n) c.args.reloc.now c.number_len.result
    (sym c.is_uleb.ensures ∙ c.if-is_uleb.true) c.requires.raw c.number_len.ensures.value

pub returns-clause-value : goal.returns-clause-value
returns-clause-value c =
    let n = c.args.source.now.site.section in
    plain_wide (contents_at (files_in c.args.view.now) n) (cuts_at (laid_in c.args.view.now) n) c.args.reloc.now c.width_of.result
    (sym c.is_uleb.ensures ∙ c.if-is_uleb.false) c.width_of.ensures.value
