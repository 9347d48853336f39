use Rattle.std.proofs.Common.{◌≡◌, [], flat_map, get_or, take}
use Rattle.icf_part.specs.Classes.{lists_of}
use Rattle.icf_part.proofs.turns.edges_of.Given as goal

abbrev pub invariant-loop-i : goal.invariant-loop-i
invariant-loop-i l = l.words.items ≡ flat_map (λ a. get_or (lists_of l.into) a []) (take l.i l.items)
