use Rattle.std.proofs.Common.{◌≡◌, ◌++◌}
use Rattle.std.specs.Prelude.{flat_map}
use Rattle.std.specs.List.{range_with_len}
use Rattle.lk_tables.specs.TablesView.{files_of}
use Rattle.lk_tables.specs.BindingView.{binding_view}
use Rattle.sym_resolve.specs.Unbound.{unbound_at}
use Rattle.sym_resolve.proofs.unbound.push_unbound.Given as goal

abbrev pub invariant-loop-i : goal.invariant-loop-i
invariant-loop-i l = l.unbound.items ≡ l.initial.unbound.items ++ flat_map (unbound_at (files_of l.tables) (binding_view l.binding) l.f) (range_with_len 0 l.i)
