use Rattle.std.proofs.Common.{arith}
use Rattle.ar_read.proofs.Texts.{past_table}
use Rattle.ar_read.proofs.names.long_name.Goals as goal

pub returns-then-table-place : goal.returns-then-table-place
returns-then-table-place c = record { value = rw c.in-Some.is (past_table c.args.bytes.now c.in-Some.table c.args.place (omega arith)); inside = tt }
