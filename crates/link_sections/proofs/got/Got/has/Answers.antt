use Rattle.std.proofs.Common.{rules}
use Rattle.link_sections.proofs.GotSteps.{has_word}
use Rattle.link_sections.proofs.got.Got.has.Goals as goal

pub returns : goal.returns
returns c = let got = c.args.self.now in let w = c.word_of.ensures in let h = has_word got.entries.items c.args.key c.args.usage in search (rules, w, h)
