use Rattle.std.proofs.Common.{◌≡◌, map, take}
use Rattle.link_sections.specs.FoldItems.{item_views}
use Rattle.name_numbers.specs.Texts.{lent_texts}
use Rattle.icf_part.specs.Folding.{item_at}
use Rattle.icf_part.specs.Signatures.{output_of}
use Rattle.icf_part.proofs.numbering.outputs_of.Given as goal

abbrev pub invariant-loop-k : goal.invariant-loop-k
invariant-loop-k l = lent_texts l.texts.items ≡ map (λ a. output_of (item_at (item_views l.items) a)) (take l.k l.chosen)
