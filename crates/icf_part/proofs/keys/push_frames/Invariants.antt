use Rattle.std.proofs.Common.{◌≡◌, ◌++◌, drop, flat_map}
use Rattle.link_sections.specs.FoldItems.{frame_views}
use Rattle.icf_part.specs.Signatures.{frame_words}
use Rattle.icf_part.proofs.keys.push_frames.Given as goal

abbrev pub invariant-loop-frame : goal.invariant-loop-frame
invariant-loop-frame l =
    l.words.items ++ flat_map frame_words (frame_views (drop l.frame-index l.frames)) ≡ l.fn.words.items ++ flat_map frame_words (frame_views l.frames)
