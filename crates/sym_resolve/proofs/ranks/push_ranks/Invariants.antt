use Rattle.std.proofs.Common.{◌≡◌, ◌++◌, map}
use Rattle.std.specs.List.{range_with_len}
use Rattle.lk_tables.specs.TablesView.{files_of}
use Rattle.sym_resolve.specs.Claims.{rank_by}
use Rattle.sym_resolve.proofs.ranks.push_ranks.Given as goal

abbrev pub invariant-loop-i : goal.invariant-loop-i
invariant-loop-i l = l.ranks.items ≡ l.initial.ranks.items ++ map (rank_by (files_of l.tables) l.least l.f) (range_with_len 0 l.i)
