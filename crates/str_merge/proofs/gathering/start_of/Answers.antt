use Rattle.std.proofs.Common.{ap, sym, arith}
use Rattle.intern_race.proofs.Rows.{start_after}
use Rattle.str_merge.specs.Sites.{start_of}
use Rattle.str_merge.proofs.gathering.start_of.Goals as goal

pub returns-then-k-eq0-clause-value : goal.returns-then-k-eq0-clause-value
returns-then-k-eq0-clause-value c = sym (ap (start_of c.args.ends.now) c.if-k-eq0.true)

pub returns-clause-value : goal.returns-clause-value
returns-clause-value c = start_after c.args.ends.now c.args.k (omega arith)
