use Rattle.std.specs.Prelude.{length}
use Rattle.intern_race.specs.Texts.{cut_texts}
use Rattle.str_merge.proofs.ByteStrings.{AreCutTo}
use Rattle.str_merge.proofs.CutTexts.{last_of}
use Rattle.str_merge.proofs.cuts.byte_string_ends.Given as goal

abbrev pub invariant-places : goal.invariant-places
invariant-places l = AreCutTo l.contents (last_of l.ends.items) l.found (cut_texts l.contents l.ends.items)

abbrev pub decreases-places : goal.decreases-places
decreases-places l = length l.found
