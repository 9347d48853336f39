use Rattle.std.proofs.Common.{◌≡◌, ◌+◌, drop}
use Rattle.std.specs.List.{position_or_len}
use Rattle.lk_tables.specs.Records.{has_width}
use Rattle.sec_graph.proofs.frame_relocs.count_before.Given as goal

abbrev pub invariant-loop-i : goal.invariant-loop-i
invariant-loop-i l = l.i + position_or_len has_width (drop l.i l.relocs) ≡ position_or_len has_width l.relocs
