use Rattle.std.proofs.Common.{◌≡◌, ◌<◌, true, length, arith, rules}
use Rattle.lk_tables.specs.FileView.{file_view}
use Rattle.lk_tables.specs.Files.{writes}
use Rattle.lk_tables.specs.TablesView.{files_of}
use Rattle.lk_tables.proofs.FirstNumbers.{section_most}
use Rattle.lk_tables.proofs.Owners.{written_within}
use Rattle.lk_tables.proofs.targets.defined_in.Goals as goal

pub overflow_cast-result : goal.overflow_cast-result
overflow_cast-result c =
    let files = files_of c.args.tables.now in
    let file = c.index-files-file.result in
    let written : writes (file_view file) c.args.section ≡ true = search rules in
    let within : c.args.section < length file.head.sections.items = written_within (file_view file) c.args.section written in
    let few = file.few in
    let most = c.args.tables.now.few.section_count_is in
    let own = c.requires in
    omega (arith, section_most files c.args.file (omega arith), c.section_no-number.ensures)
