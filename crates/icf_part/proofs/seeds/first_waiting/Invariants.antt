use Rattle.icf_part.proofs.Seeded.{AreWaitingUpto}
use Rattle.icf_part.proofs.seeds.first_waiting.Given as goal

abbrev pub invariant-loop-a : goal.invariant-loop-a
invariant-loop-a l = AreWaitingUpto l.ends l.classes l.a l.waiting.waits.items l.waiting.queue.items
