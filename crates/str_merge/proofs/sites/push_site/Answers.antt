use Rattle.std.proofs.Common.{arith}
use Rattle.lk_tables.specs.TablesView.{files_of}
use Rattle.lk_tables.proofs.FirstNumbers.{section_within}
use Rattle.str_merge.proofs.sites.push_site.Goals as goal

pub overflow_cast-section : goal.overflow_cast-section
overflow_cast-section c =
    let few = c.args.tables.now.few in
    omega (arith, section_within (files_of c.args.tables.now) c.args.file c.requires.file, c.section_no-section.ensures, few.section_count_is, c.requires.index)
