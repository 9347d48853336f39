use Rattle.std.proofs.Common.{◌≡◌, ◌-◌, ◌++◌}
use Rattle.std.specs.Prelude.{flat_map}
use Rattle.std.specs.List.{range_with_len}
use Rattle.lk_tables.specs.TablesView.{files_of}
use Rattle.lk_tables.specs.BindingView.{binding_view}
use Rattle.sym_resolve.specs.Unbound.{unbound_at}
use Rattle.sym_resolve.specs.Symbols.{in_file}
use Rattle.sym_resolve.proofs.unbound.unbound_in.Given as goal

abbrev pub invariant-loop-f : goal.invariant-loop-f
invariant-loop-f l =
    l.unbound.items ++ flat_map (in_file (files_of l.tables) (unbound_at (files_of l.tables) (binding_view l.binding))) (range_with_len l.f (l.fn.piece.end - l.f))
    ≡ flat_map (in_file (files_of l.tables) (unbound_at (files_of l.tables) (binding_view l.binding))) (range_with_len l.fn.piece.start (l.fn.piece.end - l.fn.piece.start))
