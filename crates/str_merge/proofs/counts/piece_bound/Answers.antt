use Rattle.std.proofs.Common.{ap, sum, arith}
use Rattle.lk_tables.specs.TablesView.{files_of}
use Rattle.lk_tables.proofs.ByNumber.{section_rows_all}
use Rattle.link_sections.specs.Merging.{piece_count, pieces_at}
use Rattle.str_merge.proofs.BoundSteps.{bounded_rows}
use Rattle.str_merge.proofs.counts.piece_bound.Goals as goal

pub loop-file-preserved : goal.loop-file-preserved
loop-file-preserved c =
    bounded_rows (files_of c.args.tables.now) (pieces_at (files_of c.args.tables.now)) c.loop-file.file c.loop-file.total c.bound_file-total.result c.loop-file.invariant c.bound_file-total.ensures

pub returns : goal.returns
unfolding piece_count
returns c =
    let all = ap sum (section_rows_all (files_of c.args.tables.now) (pieces_at (files_of c.args.tables.now)) c.loop-file.file (omega arith)) in
    omega (arith, c.loop-file.invariant, all)
