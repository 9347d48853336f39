use Rattle.std.proofs.Common.{◌≡◌, ◌-◌, ◌++◌, flat_map}
use Rattle.std.specs.List.{range_with_len}
use Rattle.map_file.specs.Left.{left_line}
use Rattle.map_file.proofs.left.push_left_in.Given as goal

abbrev pub invariant-loop-section : goal.invariant-loop-section
invariant-loop-section l =
    let line = left_line l.view l.left in
    l.text.items ++ flat_map line (range_with_len l.section (l.end - l.section)) ≡ l.fn.text.items ++ flat_map line (range_with_len l.first (l.end - l.first))
