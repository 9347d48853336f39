use Rattle.std.proofs.Common.{◌≡◌, ◌++◌, map}
use Rattle.std.specs.List.{range_with_len}
use Rattle.lk_tables.specs.FileView.{file_view}
use Rattle.name_numbers.specs.Keys.{first_in}
use Rattle.name_numbers.proofs.keys.push_firsts.Given as goal

abbrev pub invariant-loop-i : goal.invariant-loop-i
invariant-loop-i l = l.list.items ≡ l.initial.list.items ++ map (first_in (file_view l.file).head.symbols l.start) (range_with_len 0 l.i)
