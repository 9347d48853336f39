use Rattle.std.proofs.Common.{arith, ◌∙◌, ap}
use Rattle.std.specs.Int.{bit_at}
use Rattle.rv_code.proofs.BitRuns.{upper_is, upper_fits, put_is, put_below, put_bits}
use Rattle.rv_code.proofs.places.put.Goals as goal

pub overflow_add-result : goal.overflow_add-result
overflow_add-result c =
    rw (upper_is c.args.part.high c.args.part.low c.args.part.from c.args.value c.args.word c.ranges.word.fits c.requires.ordered c.requires.within c.requires.short)
    (omega (arith, upper_fits c.args.part.high c.args.part.low c.args.part.from c.args.value c.args.word c.ranges.word.fits c.requires.ordered c.requires.within))

pub overflow_add-result-2 : goal.overflow_add-result-2
overflow_add-result-2 c =
    rw (put_is c.args.part.high c.args.part.low c.args.part.from c.args.value c.args.word c.ranges.word.fits c.requires.ordered c.requires.within c.requires.short)
    (omega (arith, put_below c.args.part.high c.args.part.low c.args.part.from c.args.value c.args.word c.ranges.word.fits c.requires.ordered c.requires.within))

pub returns : goal.returns
returns c = λ k.
    ap (λ n. bit_at n k) (put_is c.args.part.high c.args.part.low c.args.part.from c.args.value c.args.word c.ranges.word.fits c.requires.ordered c.requires.within c.requires.short)
    ∙ put_bits c.args.part.high c.args.part.low c.args.part.from c.args.value c.args.word k c.requires.ordered
