use Rattle.std.proofs.Common.{◌≡◌, drop, map}
use Rattle.link_sections.specs.FoldItems.{item_views, section_of}
use Rattle.link_sections.specs.Leaders.{fold_each}
use Rattle.link_sections.proofs.leaders.fold_leaders.Given as goal

abbrev pub invariant-loop-i : goal.invariant-loop-i
invariant-loop-i l =
    fold_each (item_views l.items) (drop l.i (map section_of (item_views l.items))) (drop l.i l.places) l.leaders.items
    ≡ fold_each (item_views l.items) (map section_of (item_views l.items)) l.places l.fn.leaders.items
