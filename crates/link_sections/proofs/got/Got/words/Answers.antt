use Rattle.std.proofs.Common.{arith}
use Rattle.link_sections.proofs.GotSteps.{few_words}
use Rattle.link_sections.proofs.got.Got.words.Goals as goal

pub returns-clause-few : goal.returns-clause-few
returns-clause-few c =
    let got = c.args.self.now in
    omega (arith, got.counted, few_words 2147483648 got.entries.items got.unlike got.low)
