use Rattle.std.proofs.Common.{◌≡◌, map, take}
use Rattle.lk_tables.specs.BindingView.{binding_view}
use Rattle.lk_tables.specs.TablesView.{files_of}
use Rattle.sym_resolve.specs.Unbound.{linked_of}
use Rattle.sym_resolve.proofs.linker.ranks_of.Given as goal

abbrev pub invariant-loop-i : goal.invariant-loop-i
invariant-loop-i l = l.linked.items ≡ map (linked_of (files_of l.tables) (binding_view l.binding)) (take l.i l.unbound)
