use Rattle.std.proofs.Common.{◌≡◌}
use Rattle.std.specs.Prelude.{flat_map}
use Rattle.std.specs.List.{range_with_len}
use Rattle.lk_tables.specs.TablesView.{files_of}
use Rattle.sym_resolve.specs.Asks.{ask_at, after_asks}
use Rattle.sym_resolve.proofs.rooms.widen_each.Given as goal

abbrev pub invariant-loop-i : goal.invariant-loop-i
invariant-loop-i l = l.rooms.items ≡ after_asks l.initial.rooms.items (flat_map (ask_at (files_of l.tables) l.f) (range_with_len 0 l.i))
