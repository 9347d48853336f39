use Rattle.std.proofs.Common.{◌≡◌, ◌++◌}
use Rattle.std.specs.Prelude.{flat_map}
use Rattle.std.specs.List.{range_with_len}
use Rattle.lk_tables.specs.TablesView.{files_of}
use Rattle.sym_resolve.specs.Claims.{claim_at}
use Rattle.sym_resolve.proofs.offers.push_offers.Given as goal

abbrev pub invariant-loop-i : goal.invariant-loop-i
invariant-loop-i l = l.offers.items ≡ l.initial.offers.items ++ flat_map (claim_at (files_of l.tables) l.discarded l.f) (range_with_len 0 l.i)
