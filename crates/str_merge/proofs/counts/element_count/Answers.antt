use Rattle.std.proofs.Common.{sym}
use Rattle.str_merge.proofs.CountSteps.{count_elements, no_size}
use Rattle.str_merge.proofs.counts.element_count.Goals as goal

pub returns-then-size-eq0 : goal.returns-then-size-eq0
returns-then-size-eq0 c = sym (no_size c.args.bytes.now c.args.size c.if-size-eq0.true)

pub returns : goal.returns
returns c = sym (count_elements c.args.size c.args.bytes.now)
