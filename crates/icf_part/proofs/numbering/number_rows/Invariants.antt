use Rattle.std.proofs.Common.{◌≡◌, ◌++◌, drop, flat_map}
use Rattle.name_numbers.specs.Texts.{lent_texts}
use Rattle.icf_part.proofs.numbering.number_rows.Given as goal

abbrev pub invariant-loop-part : goal.invariant-loop-part
invariant-loop-part g l = lent_texts l.texts.items ++ flat_map (λ part. part) (drop l.part-index l.parts) ≡ flat_map (λ part. part) l.parts
