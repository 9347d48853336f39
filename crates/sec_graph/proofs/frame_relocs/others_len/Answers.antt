use Rattle.std.proofs.Common.{arith}
use Rattle.sec_graph.proofs.FoundRecords.{others_all, others_more}
use Rattle.sec_graph.proofs.frame_relocs.others_len.Goals as goal

pub returns-then-count_before-relocs : goal.returns-then-count_before-relocs
returns-then-count_before-relocs c = omega (arith, others_more c.args.relocs.now (omega (arith, c.count_before.ensures, c.if-count_before-relocs.true)))

pub returns : goal.returns
returns c = omega (arith, others_all c.args.relocs.now (omega (arith, c.count_before.ensures, c.if-count_before-relocs.false)))
