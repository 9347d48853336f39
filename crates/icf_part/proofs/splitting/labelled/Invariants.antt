use Rattle.std.proofs.Common.{◌≡◌, get_or, map, take}
use Rattle.icf_part.specs.Classes.{word}
use Rattle.icf_part.proofs.splitting.labelled.Given as goal

abbrev pub invariant-loop-i : goal.invariant-loop-i
invariant-loop-i l = l.keys.items ≡ map (λ a. word (get_or l.labels a 0) a) (take l.i l.list)
