use Rattle.std.proofs.Common.{◌+◌, ◌-◌, length}
use Rattle.icf_part.specs.Classes.{class_count, lists_of}
use Rattle.icf_part.proofs.AllTurns.{IsUnderWay}
use Rattle.icf_part.proofs.refining.all_turns.Given as goal

abbrev pub invariant-turns : goal.invariant-turns
invariant-turns g l = IsUnderWay (length l.fn.start.labels.items) (lists_of l.into) l.fn.start l.classes l.initial.steps l.steps

abbrev pub decreases-turns : goal.decreases-turns
decreases-turns g l = length l.classes.queue.items + (length l.fn.start.labels.items - class_count l.classes.labels.items)
