use Rattle.work_split.specs.Shares.{EachFrom}
use Rattle.lk_real.specs.Reading.{IsAny}
use Rattle.lk_real.proofs.reading.read_share.Given as goal

abbrev pub invariant-loop-at : goal.invariant-loop-at
invariant-loop-at g l = EachFrom IsAny l.fn.share.start l.at l.read.items
