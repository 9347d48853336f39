use Rattle.std.proofs.Common.{ap, sym, arith}
use Rattle.intern_race.specs.Texts.{start_of}
use Rattle.intern_race.proofs.Rows.{start_after}
use Rattle.intern_race.proofs.texts.start_of.Goals as goal

pub returns-then-k-eq0 : goal.returns-then-k-eq0
returns-then-k-eq0 c = sym (ap (start_of c.args.ends.now) c.if-k-eq0.true)

pub returns : goal.returns
returns c = start_after c.args.ends.now c.args.k (omega arith)
