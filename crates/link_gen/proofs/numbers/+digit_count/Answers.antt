use Rattle.std.proofs.Common.{arith}
use Rattle.std.proofs.lemmas.Fmt.{length-decimal-le}
use Rattle.lk_base.proofs.Decimals.{more_digits, one_digit}
use Rattle.link_gen.proofs.numbers.+digit_count.Goals as goal

pub returns-then-n-lt10-clause-value : goal.returns-then-n-lt10-clause-value
returns-then-n-lt10-clause-value t c = one_digit c.args.n c.if-n-lt10.true

pub returns-clause-value : goal.returns-clause-value
returns-clause-value t c = more_digits c.args.n c.digit_count.result c.if-n-lt10.false c.ranges.n.fits c.digit_count.ensures.value

pub returns-clause-small : goal.returns-clause-small
returns-clause-small t c =
    omega (
      arith,
      length-decimal-le 10 c.args.n (omega arith) (omega arith) (omega arith),
      more_digits c.args.n c.digit_count.result c.if-n-lt10.false c.ranges.n.fits c.digit_count.ensures.value,
    )
