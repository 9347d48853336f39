use Rattle.std.proofs.Common.{take}
use Rattle.icf_part.proofs.Relabelled.{IsRelabelled}
use Rattle.icf_part.proofs.relabel.relabel.Given as goal

abbrev pub invariant-loop-i : goal.invariant-loop-i
invariant-loop-i l = IsRelabelled l.initial.labels.items (take l.i l.part) l.fn.from l.fn.to l.labels.items l.moved
