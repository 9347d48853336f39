use Rattle.std.proofs.Common.{arith}
use Rattle.std.proofs.lemmas.Result.{err_from_is_err_and}
use Rattle.lk_tables.specs.Files.{section_total}
use Rattle.lk_tables.specs.TablesView.{files_of}
use Rattle.link_sections.specs.SizesView.{sizes_of}
use Rattle.layout.specs.Layout.{cuts_of}
use Rattle.layout.proofs.RowsOfCuts.{laying_goes, laying_next, laying_stops}
use Rattle.layout.proofs.cut_rows.lay_rows.Goals as goal

pub returns-in_err-lay_row-clause-goes : goal.returns-in_err-lay_row-clause-goes
returns-in_err-lay_row-clause-goes c =
    let p = err_from_is_err_and c.from_residual-in_err-lay_row.result c.from_residual-in_err-lay_row.ensures.1 in
    rw (p.1, p.2)
    (laying_stops (files_of c.args.tables.now) (cuts_of c.args.leaders.now (sizes_of c.args.sizes.now) c.args.starts.now) (section_total (files_of c.args.tables.now)) c.loop-n.n
    _ c.in_err-lay_row.field-0.0 (omega (arith, c.loop-n-test.true, c.section_count-n-end.ensures)) c.loop-n.invariant c.in_err-lay_row.ensures.goes)

pub loop-n-preserved : goal.loop-n-preserved
loop-n-preserved c =
    laying_next (files_of c.args.tables.now) (cuts_of c.args.leaders.now (sizes_of c.args.sizes.now) c.args.starts.now) (section_total (files_of c.args.tables.now)) c.loop-n.n
    _ _ (omega (arith, c.loop-n-test.true, c.section_count-n-end.ensures)) c.loop-n.invariant
    c.in_ok-lay_row.ensures.views c.in_ok-lay_row.ensures.sound c.in_ok-lay_row.ensures.goes

pub returns-clause-goes : goal.returns-clause-goes
returns-clause-goes c =
    laying_goes (files_of c.args.tables.now) (cuts_of c.args.leaders.now (sizes_of c.args.sizes.now) c.args.starts.now) (section_total (files_of c.args.tables.now)) c.loop-n.n
    _ (omega (arith, c.loop-n-test.false, c.section_count-n-end.ensures)) c.loop-n.invariant
