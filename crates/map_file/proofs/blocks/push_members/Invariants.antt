use Rattle.std.proofs.Common.{◌≡◌, ◌++◌, drop, flat_map}
use Rattle.map_file.specs.MapView.{member_line}
use Rattle.map_file.proofs.blocks.push_members.Given as goal

abbrev pub invariant-loop-member : goal.invariant-loop-member
invariant-loop-member l =
    l.text.items ++ flat_map (member_line l.view) (drop l.member-index l.members) ≡ l.fn.text.items ++ flat_map (member_line l.view) l.members
