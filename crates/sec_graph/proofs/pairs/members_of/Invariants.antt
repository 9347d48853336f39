use Rattle.std.proofs.Common.{◌≡◌, ◌++◌, drop, flat_map}
use Rattle.lk_tables.specs.BindingView.{binding_view}
use Rattle.lk_tables.specs.TablesView.{files_of}
use Rattle.sec_graph.specs.Graph as spec
use Rattle.sec_graph.proofs.pairs.members_of.Given as goal

abbrev pub invariant-loop-member : goal.invariant-loop-member
invariant-loop-member l =
    let member = spec.member_at (files_of l.tables) (binding_view l.binding) l.file in
    l.list.items ++ flat_map member (drop l.member-index l.members) ≡ flat_map member l.members
