use Rattle.std.proofs.Common.{◌≡◌}
use Rattle.std.specs.Prelude.{flat_map}
use Rattle.std.specs.List.{range_with_len}
use Rattle.lk_tables.specs.Binding.{least_rank}
use Rattle.lk_tables.specs.FileView.{file_views}
use Rattle.file_live.specs.Live.{early_offers_in}
use Rattle.file_live.proofs.asked.early.Given as goal

abbrev pub invariant-loop-f : goal.invariant-loop-f
invariant-loop-f l = l.least ≡ least_rank l.name (flat_map (early_offers_in (file_views l.files)) (range_with_len 0 l.f))
