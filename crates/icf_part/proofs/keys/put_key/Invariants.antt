use Rattle.std.proofs.Common.{◌≡◌, ◌++◌, flat_map, take}
use Rattle.link_sections.specs.FoldItems.{frame_views, item_view}
use Rattle.icf_part.specs.Signatures.{frame_words, head_words, site_words}
use Rattle.icf_part.proofs.keys.put_key.Given as goal

abbrev pub invariant-loop-k : goal.invariant-loop-k
invariant-loop-k l = l.words.items ≡ (head_words l.bytes l.output (item_view l.item) ++ flat_map frame_words (frame_views l.item.frames.items)) ++ flat_map site_words (take l.k l.item.relocs.items)
