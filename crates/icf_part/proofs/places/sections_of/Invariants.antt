use Rattle.std.proofs.Common.{◌≡◌, map, take}
use Rattle.link_sections.specs.FoldItems.{item_views, section_of}
use Rattle.icf_part.specs.Folding.{item_at}
use Rattle.icf_part.proofs.places.sections_of.Given as goal

abbrev pub invariant-loop-k : goal.invariant-loop-k
invariant-loop-k l = l.sections.items ≡ map (λ a. section_of (item_at (item_views l.items) a)) (take l.k l.chosen)
