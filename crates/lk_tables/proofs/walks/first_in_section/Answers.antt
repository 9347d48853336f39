use Rattle.std.proofs.Common.{arith}
use Rattle.lk_base.proofs.Loops.{found_at}
use Rattle.lk_tables.specs.Files.{no_reloc}
use Rattle.lk_tables.proofs.walks.first_in_section.Goals as goal

pub returns-in-Some : goal.returns-in-Some
returns-in-Some g c =
    found_at (g.T.RelocTest.defects c.args.test.now c.args.file c.args.section) c.args.relocs.now c.loop-reloc.reloc-index no_reloc
    _ c.in-Some.defect (omega arith) c.loop-reloc.invariant c.in-Some.ensures
