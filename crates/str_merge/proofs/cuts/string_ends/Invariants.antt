use Rattle.str_merge.proofs.CutTexts.{AreStrings, last_of}
use Rattle.intern_race.specs.Texts.{cut_texts}
use Rattle.str_merge.proofs.cuts.string_ends.Given as goal

abbrev pub invariant-loop-i : goal.invariant-loop-i
invariant-loop-i l = AreStrings l.contents l.fn.size l.i (last_of l.ends.items) (cut_texts l.contents l.ends.items)
