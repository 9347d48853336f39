use Rattle.std.proofs.Common.{◌≡◌, drop, map}
use Rattle.std.specs.Cmp.Lexicographic.{pointwise}
use Rattle.link_sections.specs.FoldItems.{frame_view}
use Rattle.icf_part.specs.Leaders.{same_frame}
use Rattle.why_chain.proofs.alike.same_frames.Given as goal

-- all are equal if the rest is
abbrev pub invariant-loop-k : goal.invariant-loop-k
invariant-loop-k l = pointwise same_frame (map frame_view (drop l.k l.one)) (map frame_view (drop l.k l.two)) ≡ pointwise same_frame (map frame_view l.one) (map frame_view l.two)
