use Rattle.std.proofs.Common.{arith}
use Rattle.str_merge.proofs.gathering.span_in.Goals as goal

pub overflow_add-from : goal.overflow_add-from
overflow_add-from c =
    let low = c.requires.near.from in
    let most = c.start_of-start.ensures.most in
    omega (arith, low, most)
