use Rattle.std.proofs.Common.{◌+◌, ◌-◌, length}
use Rattle.link_sections.specs.Edges.{ends_of}
use Rattle.why_chain.proofs.Living.{IsLiveAt}
use Rattle.why_chain.proofs.live.why_live.Given as goal

abbrev pub invariant-loop-place : goal.invariant-loop-place
invariant-loop-place l = IsLiveAt l.roots (ends_of l.edges) l.target l.seen.items l.sections.items l.froms.items l.place

abbrev pub decreases-loop-place : goal.decreases-loop-place
decreases-loop-place l = (length (ends_of l.edges) + 1) - l.place
