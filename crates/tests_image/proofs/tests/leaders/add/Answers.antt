use Rattle.std.proofs.Common.{length, refl, arith, rules}
use Rattle.tests_image.proofs.InOrder.{numbered_more}
use Rattle.tests_image.proofs.tests.leaders.add.Goals as goal

pub returns-clause-numbered : goal.returns-clause-numbered
returns-clause-numbered c =
    let more = c.in_ok-push-2.ensures.len in
    numbered_more c.args.items.now.items c.push-2.new.self.items _ (length c.push-2.new.self.items) c.requires.numbered c.in_ok-push-2.ensures.items refl (search rules) (omega (arith, c.len-section.ensures, c.args.items.now.ok.0))
