use Rattle.std.proofs.Common.{List, ℕ, length, arith}
use Rattle.lk_tables.specs.BindingView.{binding_view}
use Rattle.lk_tables.specs.TablesView.{files_of}
use Rattle.lk_tables.specs.Walks.{over_section}
use Rattle.sec_graph.specs.Taken.{taken_at}
use Rattle.sec_graph.proofs.Marking.{marks_step}
use Rattle.sec_graph.proofs.taken.take_in_file.Goals as goal

pub loop-index-preserved : goal.loop-index-preserved
loop-index-preserved c =
    let files = files_of c.args.tables.now in
    let give : ℕ → List ℕ = over_section files (taken_at files (binding_view c.args.binding.now) c.args.kept.now) c.args.file in
    marks_step give c.loop-index.index (length c.sections-index-end.result.now) c.loop-index.taken.items c.take_in_section.new.taken.items _
    (omega (arith, c.loop-index-test.true)) c.loop-index.invariant c.take_in_section.ensures
