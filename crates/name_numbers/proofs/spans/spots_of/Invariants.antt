use Rattle.std.proofs.Common.{◌≡◌}
use Rattle.std.specs.Prelude.{flat_map}
use Rattle.std.specs.List.{range_with_len}
use Rattle.lk_tables.specs.FileView.{file_view}
use Rattle.name_numbers.specs.Spans.{spot_at}
use Rattle.name_numbers.proofs.spans.spots_of.Given as goal

abbrev pub invariant-loop-i : goal.invariant-loop-i
invariant-loop-i l = l.list.items ≡ flat_map (spot_at (file_view l.file).head.symbols) (range_with_len 0 l.i)
