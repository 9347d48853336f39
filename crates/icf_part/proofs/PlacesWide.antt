-- How many lists of places there are.
use Rattle.std.proofs.Common.{◌≡◌, List, length}
use Rattle.std.proofs.lemmas.List.{length-map}
use Rattle.link_sections.specs.FoldItems.{FoldItem, sections_of}
use Rattle.icf_part.specs.Signatures.{all_places, places}

pub places_wide : (items : List FoldItem) → length (all_places items) ≡ length items
unfolding all_places
places_wide items = length-map items (places (sections_of items))
