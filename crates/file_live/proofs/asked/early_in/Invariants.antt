use Rattle.std.proofs.Common.{◌≡◌}
use Rattle.std.specs.Prelude.{flat_map}
use Rattle.std.specs.List.{range_with_len}
use Rattle.lk_tables.specs.Binding.{least_rank}
use Rattle.lk_tables.specs.FileView.{file_views}
use Rattle.file_live.specs.Live.{early_offer_at}
use Rattle.file_live.proofs.asked.early_in.Given as goal

abbrev pub invariant-loop-i : goal.invariant-loop-i
invariant-loop-i l = l.least ≡ least_rank l.name (flat_map (early_offer_at (file_views l.files) l.f) (range_with_len 0 l.i))
