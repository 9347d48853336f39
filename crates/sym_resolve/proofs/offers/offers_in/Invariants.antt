use Rattle.std.proofs.Common.{◌≡◌, ◌-◌, ◌++◌}
use Rattle.std.specs.Prelude.{flat_map}
use Rattle.std.specs.List.{range_with_len}
use Rattle.lk_tables.specs.TablesView.{files_of}
use Rattle.sym_resolve.specs.Claims.{claim_at}
use Rattle.sym_resolve.specs.Symbols.{in_file}
use Rattle.sym_resolve.proofs.offers.offers_in.Given as goal

abbrev pub invariant-loop-f : goal.invariant-loop-f
invariant-loop-f l =
    l.offers.items ++ flat_map (in_file (files_of l.tables) (claim_at (files_of l.tables) l.discarded)) (range_with_len l.f (l.fn.piece.end - l.f))
    ≡ flat_map (in_file (files_of l.tables) (claim_at (files_of l.tables) l.discarded)) (range_with_len l.fn.piece.start (l.fn.piece.end - l.fn.piece.start))
