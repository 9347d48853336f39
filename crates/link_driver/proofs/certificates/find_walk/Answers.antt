use Rattle.std.proofs.Common.{◌∙◌, List, ℕ, ap}
use Rattle.lk_tables.specs.BindingView.{binding_view}
use Rattle.lk_tables.specs.TablesView.{files_of}
use Rattle.sec_graph.specs.WalkEdges.{walk_edges}
use Rattle.why_chain.specs.Walks.{live_chain}
use Rattle.link_passes.proofs.Handing.{on_each}
use Rattle.link_driver.proofs.certificates.find_walk.Goals as goal

pub returns-clause-walk : goal.returns-clause-walk
returns-clause-walk g c =
    let ends = walk_edges (files_of c.args.tables.now) (binding_view c.args.binding.now) in
    on_each c.walk_in.result (λ chain is. is ∙ ap (λ (roots : List ℕ). live_chain roots ends c.args.target) c.in_ok-graph.ensures.roots) c.walk_in.ensures.walk
