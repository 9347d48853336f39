use Rattle.std.proofs.Common.{◌≡◌, ◌-◌, ◌++◌}
use Rattle.std.specs.Prelude.{flat_map}
use Rattle.std.specs.List.{range_with_len}
use Rattle.lk_tables.specs.TablesView.{files_of}
use Rattle.lk_tables.proofs.ByNumber.{symbol_row}
use Rattle.sym_resolve.specs.Claims.{rank_by}
use Rattle.sym_resolve.proofs.ranks.ranks_in.Given as goal

abbrev pub invariant-loop-f : goal.invariant-loop-f
invariant-loop-f l =
    l.ranks.items ++ flat_map (symbol_row (files_of l.tables) (rank_by (files_of l.tables) l.least)) (range_with_len l.f (l.fn.piece.end - l.f))
    ≡ flat_map (symbol_row (files_of l.tables) (rank_by (files_of l.tables) l.least)) (range_with_len l.fn.piece.start (l.fn.piece.end - l.fn.piece.start))
