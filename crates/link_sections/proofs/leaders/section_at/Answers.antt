use Rattle.std.proofs.Common.{arith}
use Rattle.link_sections.proofs.Folded.{section_is}
use Rattle.link_sections.proofs.leaders.section_at.Goals as goal

pub returns : goal.returns
returns c = section_is c.args.items.now c.args.place c.index-items-place.result (omega (arith, c.if-place-items.false))
