use Rattle.std.proofs.Common.{arith}
use Rattle.lk_base.proofs.Loops.{collect_step, collect_end}
use Rattle.lk_tables.specs.BindingView.{binding_view}
use Rattle.lk_tables.specs.TablesView.{files_of}
use Rattle.sec_graph.specs.NamedSections.{asked_in}
use Rattle.sec_graph.proofs.named_sections.asked_between.Goals as goal

pub loop-file-preserved : goal.loop-file-preserved
loop-file-preserved c =
    collect_step (asked_in (files_of c.args.tables.now) (binding_view c.args.binding.now)) c.loop-file.file c.args.piece.end
    c.loop-file.asked.items c.push_asked.new.asked.items _ (omega arith) c.loop-file.invariant c.in_ok-push_asked.ensures

pub returns : goal.returns
returns c =
    collect_end (asked_in (files_of c.args.tables.now) (binding_view c.args.binding.now)) c.loop-file.file c.args.piece.end
    c.loop-file.asked.items _ (omega arith) c.loop-file.invariant
