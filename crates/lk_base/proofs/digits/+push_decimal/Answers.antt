use Rattle.lk_base.proofs.Decimals.{digit_pushed, last_pushed}
use Rattle.lk_base.proofs.digits.+push_decimal.Goals as goal

pub returns-then-number-lt10 : goal.returns-then-number-lt10
returns-then-number-lt10 t c = digit_pushed c.args.text.now.items c.push.new.self.items c.args.number c.if-number-lt10.true c.in_ok-push.ensures.items

pub returns : goal.returns
returns t c =
    last_pushed c.args.text.now.items c.push_decimal.new.text.items c.push-2.new.self.items c.args.number c.if-number-lt10.false c.ranges.number.fits
    c.in_ok-push_decimal.ensures c.in_ok-push-2.ensures.items
