use Rattle.std.proofs.Common.{◌≡◌, ◌++◌, drop, flat_map}
use Rattle.map_file.specs.MapView.{folded_text}
use Rattle.map_file.proofs.blocks.push_each_folded.Given as goal

abbrev pub invariant-loop-section : goal.invariant-loop-section
invariant-loop-section l =
    l.text.items ++ flat_map (folded_text l.view) (drop l.section-index l.sections) ≡ l.fn.text.items ++ flat_map (folded_text l.view) l.sections
