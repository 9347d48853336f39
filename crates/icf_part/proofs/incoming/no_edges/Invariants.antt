use Rattle.std.proofs.Common.{◌≡◌, [], replicate}
use Rattle.icf_part.specs.Classes.{lists_of}
use Rattle.icf_part.proofs.incoming.no_edges.Given as goal

abbrev pub invariant-loop-made : goal.invariant-loop-made
invariant-loop-made l = lists_of l.lists.items ≡ replicate l.made []
