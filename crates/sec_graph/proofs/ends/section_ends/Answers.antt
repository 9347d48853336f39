use Rattle.std.proofs.Common.{arith}
use Rattle.lk_tables.specs.TablesView.{files_of}
use Rattle.lk_tables.proofs.FirstNumbers.{section_within}
use Rattle.sec_graph.proofs.ends.section_ends.Goals as goal

pub fdes_of-fdes-requires-clause-section : goal.fdes_of-fdes-requires-clause-section
fdes_of-fdes-requires-clause-section c =
    omega (arith, c.section_no-number.ensures, c.requires.index, section_within (files_of c.args.tables.now) c.args.file c.requires.file)
