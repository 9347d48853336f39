use Rattle.lk_tables.specs.TablesView.{files_of}
use Rattle.link_sections.specs.Merging.{pieces_at}
use Rattle.str_merge.proofs.BoundSteps.{bounded_next, section_bound_at}
use Rattle.str_merge.proofs.counts.bound_file.Goals as goal

pub loop-index-preserved : goal.loop-index-preserved
loop-index-preserved c =
    let files = files_of c.args.tables.now in
    bounded_next (pieces_at files c.args.file) c.args.before c.loop-index.index c.loop-index.total c.saturating_add-total.result c.bound_section.result
    c.loop-index.invariant c.saturating_add-total.ensures (section_bound_at files c.args.file c.loop-index.index c.bound_section.result _ c.file-entry.ensures c.bound_section.ensures)
