use Rattle.std.proofs.Common.{arith}
use Rattle.link_gen.proofs.CalledObjects.{called_are, called_length}
use Rattle.link_gen.proofs.symbols.called_count.Goals as goal

pub returns-clause-count : goal.returns-clause-count
returns-clause-count c = called_length c.args.k c.args.n c.min.result (called_are c.args.k c.args.n c.min.result (omega arith))

pub returns-clause-each : goal.returns-clause-each
returns-clause-each c = called_are c.args.k c.args.n c.min.result (omega arith)
