use Rattle.reloc_apply.proofs.ScanSteps.{Holds}
use Rattle.reloc_apply.proofs.scanning.scan.Given as goal

abbrev pub invariant-loop-k : goal.invariant-loop-k
invariant-loop-k l = Holds l.view l.source l.first l.last l.k l.from l.at l.window l.fn.block l.block
