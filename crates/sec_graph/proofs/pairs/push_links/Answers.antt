use Rattle.std.proofs.Common.{arith}
use Rattle.lk_base.proofs.Loops.{collect_step}
use Rattle.lk_tables.specs.BindingView.{binding_view}
use Rattle.lk_tables.specs.TablesView.{files_of}
use Rattle.sec_graph.specs.Graph as spec
use Rattle.sec_graph.proofs.pairs.push_links.Goals as goal

pub loop-index-preserved : goal.loop-index-preserved
loop-index-preserved c =
    collect_step (spec.link_at (files_of c.args.tables.now) (binding_view c.args.binding.now) c.args.file) c.loop-index.index c.own_count-index-end.result
    c.loop-index.pairs.items c.push_link.new.pairs.items _ (omega arith) c.loop-index.invariant c.in_ok-push_link.ensures
