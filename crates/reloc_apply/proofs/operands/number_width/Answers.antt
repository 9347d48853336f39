use Rattle.lk_tables.specs.Sites.{contents_at}
use Rattle.link_sections.specs.LaidOut.{cuts_at}
use Rattle.link_sections.specs.Views.{files_in, laid_in}
use Rattle.reloc_apply.proofs.PlaceWidths.{number_wide}
use Rattle.reloc_apply.proofs.operands.number_width.Goals as goal

pub returns-clause-value : goal.returns-clause-value
returns-clause-value c =
    let n = c.args.site.section in
    number_wide (contents_at (files_in c.args.view.now) n) c.contents.result.now (cuts_at (laid_in c.args.view.now) n) c.args.reloc.now c.number_len.result
    c.requires.kind c.contents.ensures c.number_len.ensures.value
