use Rattle.std.proofs.Common.{arith}
use Rattle.lk_base.proofs.Loops.{pass_step, found_step}
use Rattle.lk_tables.specs.TablesView.{files_of}
use Rattle.lk_tables.specs.Walks.{over_file, over_section}
use Rattle.lk_tables.proofs.walks.first_in_files.Goals as goal

pub returns-in-Some : goal.returns-in-Some
returns-in-Some g c =
    found_step (over_file (files_of c.args.tables.now) (over_section (files_of c.args.tables.now) (g.T.RelocTest.defects c.args.test.now)))
    c.loop-file.file c.args.count _ c.in-Some.defect (omega arith) c.loop-file.invariant c.in-Some.ensures

pub loop-file-preserved : goal.loop-file-preserved
loop-file-preserved g c =
    pass_step (over_file (files_of c.args.tables.now) (over_section (files_of c.args.tables.now) (g.T.RelocTest.defects c.args.test.now)))
    c.loop-file.file c.args.count _ (omega arith) c.loop-file.invariant c.in_default.ensures
