use Rattle.std.specs.Prelude.{flat_map}
use Rattle.std.specs.List.{range_with_len}
use Rattle.lk_tables.specs.FileView.{file_view}
use Rattle.name_numbers.specs.Columns.{Appends}
use Rattle.name_numbers.specs.Keys.{key_in}
use Rattle.name_numbers.proofs.keys.push_keys.Given as goal

abbrev pub invariant-loop-i : goal.invariant-loop-i
invariant-loop-i l =
    Appends (flat_map (key_in (file_view l.file).bytes (file_view l.file).head.symbols l.start) (range_with_len 0 l.i)) l.initial.keys l.keys
