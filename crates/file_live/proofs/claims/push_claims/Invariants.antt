use Rattle.std.proofs.Common.{◌≡◌, ◌++◌}
use Rattle.std.specs.Prelude.{flat_map}
use Rattle.std.specs.List.{range_with_len}
use Rattle.lk_tables.specs.FileView.{file_views}
use Rattle.file_live.specs.Claims.{claim_at}
use Rattle.file_live.proofs.claims.push_claims.Given as goal

abbrev pub invariant-loop-i : goal.invariant-loop-i
invariant-loop-i l = l.list.items ≡ l.initial.list.items ++ flat_map (claim_at (file_views l.files) l.f) (range_with_len 0 l.i)
