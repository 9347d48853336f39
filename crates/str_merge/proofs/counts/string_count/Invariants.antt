use Rattle.std.proofs.Common.{◌≡◌, take}
use Rattle.std.specs.Prelude.{count_by}
use Rattle.link_sections.specs.MergeSections.{elements, is_zero_char}
use Rattle.str_merge.proofs.counts.string_count.Given as goal

abbrev pub invariant-loop-i : goal.invariant-loop-i
invariant-loop-i l = l.count ≡ count_by is_zero_char (take l.i (elements l.fn.size l.bytes))
