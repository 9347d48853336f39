use Rattle.std.proofs.Common.{◌≡◌, ◌+◌, ◌++◌, drop, map}
use Rattle.link_sections.specs.LaidOut.{output_view}
use Rattle.map_file.specs.MapView.{output_blocks}
use Rattle.map_file.proofs.blocks.push_outputs.Given as goal

abbrev pub invariant-loop-i : goal.invariant-loop-i
invariant-loop-i l =
    let v = l.view in
    let laid = v.layout.now in
    l.text.items ++ output_blocks v (l.i + 1) (map output_view (drop l.i l.outputs)) l.bits l.nobits_members
    ≡ l.fn.text.items ++ output_blocks v 1 (map output_view laid.outputs.items) laid.members.items laid.nobits_members.items
