use Rattle.std.proofs.Common.{◌≡◌, ◌++◌, drop, flat_map}
use Rattle.link_passes.specs.Contents.{sources_of}
use Rattle.link_passes.specs.Sources.{member_source}
use Rattle.link_passes.proofs.finding.push_members.Given as goal

abbrev pub invariant-loop-member : goal.invariant-loop-member
invariant-loop-member l =
    sources_of l.list.items ++ flat_map (member_source l.input l.bytes) (drop l.member-index l.members)
    ≡ sources_of l.fn.list.items ++ flat_map (member_source l.input l.bytes) l.members
