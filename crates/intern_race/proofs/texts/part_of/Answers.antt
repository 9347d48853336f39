use Rattle.intern_race.proofs.Rows.{clipped}
use Rattle.intern_race.proofs.texts.part_of.Goals as goal

pub returns : goal.returns
returns c = clipped c.args.bytes.now c.args.start c.args.end c.min-start.result c.min-end.result c.min-end.ensures c.min-start.ensures
