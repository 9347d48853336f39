use Rattle.std.proofs.Common.{◌∙◌, List, Option, ℕ, ap, subst}
use Rattle.std.specs.Prelude.{IfSome}
use Rattle.link_command.specs.Command.{lists_of}
use Rattle.lk_tables.specs.BindingView.{binding_view}
use Rattle.lk_tables.specs.TablesView.{files_of}
use Rattle.sec_graph.specs.WalkEdges.{walk_edges}
use Rattle.why_chain.specs.Walks.{live_chain}
use Rattle.link_passes.specs.declared.collecting.SectionGraph.{SectionGraph}
use Rattle.link_passes.specs.Tables.{IsGraph}
use Rattle.link_passes.proofs.Handing.{on_each}
use Rattle.link_driver.proofs.certificates.find_walk_by.Goals as goal

pub walk_in-requires-clause-roots : goal.walk_in-requires-clause-roots
walk_in-requires-clause-roots g c =
    let P : Option SectionGraph → Type 0 =
    λ o. IfSome o (IsGraph (files_of c.args.tables.now) (binding_view c.args.binding.now) (lists_of c.args.undefined.now)) in
    let held : IsGraph (files_of c.args.tables.now) (binding_view c.args.binding.now) (lists_of c.args.undefined.now) c.in-Some.graph =
    subst P c.in-Some.is c.requires.graph in
    held.within

pub walk_in-requires-clause-ends : goal.walk_in-requires-clause-ends
walk_in-requires-clause-ends g c =
    let P : Option SectionGraph → Type 0 =
    λ o. IfSome o (IsGraph (files_of c.args.tables.now) (binding_view c.args.binding.now) (lists_of c.args.undefined.now)) in
    let held : IsGraph (files_of c.args.tables.now) (binding_view c.args.binding.now) (lists_of c.args.undefined.now) c.in-Some.graph =
    subst P c.in-Some.is c.requires.graph in
    held.ends

pub returns-clause-walk : goal.returns-clause-walk
returns-clause-walk g c =
    let P : Option SectionGraph → Type 0 =
    λ o. IfSome o (IsGraph (files_of c.args.tables.now) (binding_view c.args.binding.now) (lists_of c.args.undefined.now)) in
    let held : IsGraph (files_of c.args.tables.now) (binding_view c.args.binding.now) (lists_of c.args.undefined.now) c.in-Some.graph =
    subst P c.in-Some.is c.requires.graph in
    let ends = walk_edges (files_of c.args.tables.now) (binding_view c.args.binding.now) in
    on_each c.walk_in.result (λ chain is. is ∙ ap (λ (roots : List ℕ). live_chain roots ends c.args.target) held.rooted) c.walk_in.ensures.walk
