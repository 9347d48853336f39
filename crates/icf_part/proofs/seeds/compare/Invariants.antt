use Rattle.icf_part.specs.Classes.{IsLonger}
use Rattle.icf_part.proofs.Seeded.{Told}
use Rattle.icf_part.proofs.seeds.compare.Given as goal

abbrev pub invariant-loop-k : goal.invariant-loop-k
invariant-loop-k l =
    IsLonger l.initial.waiting.waits.items l.initial.waiting.queue.items l.waiting.waits.items l.waiting.queue.items × Told l.classes l.own l.first l.k l.waiting.waits.items
