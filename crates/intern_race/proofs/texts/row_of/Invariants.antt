use Rattle.std.proofs.Common.{◌≤◌, length, take}
use Rattle.intern_race.specs.Texts.{row_texts}
use Rattle.intern_race.proofs.texts.row_of.Given as goal

abbrev pub invariant-loop-r : goal.invariant-loop-r
invariant-loop-r l = length (row_texts (take l.r l.rows)) ≤ l.fn.i
