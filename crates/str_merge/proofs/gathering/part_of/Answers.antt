use Rattle.std.proofs.Common.{◌-◌, length, drop, ap, arith}
use Rattle.std.proofs.lemmas.List.{length-drop, length-take}
use Rattle.intern_race.proofs.Rows.{clipped}
use Rattle.str_merge.proofs.gathering.part_of.Goals as goal

pub returns-clause-value : goal.returns-clause-value
returns-clause-value c = clipped c.args.bytes.now c.args.start c.args.end c.min-start.result c.min-end.result c.min-end.ensures c.min-start.ensures

pub returns-clause-most : goal.returns-clause-most
returns-clause-most c =
    let is = clipped c.args.bytes.now c.args.start c.args.end c.min-start.result c.min-end.result c.min-end.ensures c.min-start.ensures in
    omega (
      arith,
      ap length is,
      length-take (c.args.end - c.args.start) (drop c.args.start c.args.bytes.now),
      length-drop c.args.start c.args.bytes.now,
    )
