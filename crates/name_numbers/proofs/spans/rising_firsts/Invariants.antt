use Rattle.std.proofs.Common.{◌≡◌, map}
use Rattle.std.specs.List.{range_with_len}
use Rattle.lk_tables.specs.FileView.{file_view}
use Rattle.name_numbers.proofs.RisingSpans.{RisesTo, own_at}
use Rattle.name_numbers.proofs.spans.rising_firsts.Given as goal

abbrev pub invariant-loop-i : goal.invariant-loop-i
invariant-loop-i l = record {
  rising : RisesTo (file_view l.file).head.symbols l.i l.next;
  own : l.firsts.items ≡ map (own_at (file_view l.file).head.symbols) (range_with_len 0 l.i);
}
