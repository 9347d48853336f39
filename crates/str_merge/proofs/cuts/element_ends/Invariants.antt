use Rattle.std.proofs.Common.{◌≡◌, ◌*◌, map}
use Rattle.std.specs.List.{range_with_len}
use Rattle.intern_race.specs.Texts.{cut_texts}
use Rattle.str_merge.proofs.CutTexts.{element_of, last_of}
use Rattle.str_merge.proofs.cuts.element_ends.Given as goal

abbrev pub invariant-loop-i : goal.invariant-loop-i
invariant-loop-i l = record {
  last : l.i * l.fn.size ≡ last_of l.ends.items;
  texts : cut_texts l.contents l.ends.items ≡ map (element_of l.fn.size l.contents) (range_with_len 0 l.i);
}
