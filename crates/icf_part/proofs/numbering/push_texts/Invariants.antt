use Rattle.std.proofs.Common.{◌≡◌, ◌++◌, take}
use Rattle.name_numbers.specs.Texts.{lent_texts}
use Rattle.icf_part.proofs.numbering.push_texts.Given as goal

abbrev pub invariant-loop-n : goal.invariant-loop-n
invariant-loop-n l = lent_texts l.texts.items ≡ lent_texts l.fn.texts.items ++ take l.n l.rows
