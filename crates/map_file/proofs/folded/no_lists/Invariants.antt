use Rattle.std.proofs.Common.{◌≡◌, [], replicate}
use Rattle.map_file.specs.MapView.{lists_view}
use Rattle.map_file.proofs.folded.no_lists.Given as goal

abbrev pub invariant-loop-list : goal.invariant-loop-list
invariant-loop-list l = lists_view l.lists.items ≡ replicate l._list []
