use Rattle.std.proofs.Common.{◌-◌, ◌≤◌, ◌<◌, slice_index_or, arith, sym, ◌∙◌}
use Rattle.ar_read.proofs.Texts.{digit_at, digit_range, number_step, number_below, number_fits}
use Rattle.ar_read.proofs.fields.number.Goals as goal

pub overflow_mul-number : goal.overflow_mul-number
overflow_mul-number c =
    let i = c.loop-digit.digit-index in
    let short : i < 16 = omega (arith, c.requires.short, c.loop-digit-test.true) in
    let fits = number_fits c.loop-digit.number 0 i c.loop-digit.invariant.below short (omega arith) in
    omega (arith, fits)

pub overflow_add-number : goal.overflow_add-number
overflow_add-number c =
    let i = c.loop-digit.digit-index in
    let d = slice_index_or c.args.digits.now i 0 in
    let short : i < 16 = omega (arith, c.requires.short, c.loop-digit-test.true) in
    let digit = digit_range d (digit_at c.args.digits.now i 0 c.loop-digit-test.true c.requires.digits) in
    let small : d - 48 ≤ 9 = omega (arith, digit.1) in
    let fits = number_fits c.loop-digit.number (d - 48) i c.loop-digit.invariant.below short small in
    omega (arith, fits)

pub loop-digit-preserved : goal.loop-digit-preserved
loop-digit-preserved c =
    let i = c.loop-digit.digit-index in
    let d = slice_index_or c.args.digits.now i 0 in
    let digit = digit_range d (digit_at c.args.digits.now i 0 c.loop-digit-test.true c.requires.digits) in
    let small : d - 48 ≤ 9 = omega (arith, digit.1) in
    record {
      so_far = sym (number_step c.args.digits.now c.loop-digit.number i c.loop-digit-test.true) ∙ c.loop-digit.invariant.so_far;
      below = number_below c.loop-digit.number (d - 48) i c.loop-digit.invariant.below small;
    }
