use Rattle.link_passes.proofs.InsideTables.{inside_on}
use Rattle.link_passes.proofs.reading.read_files.Goals as goal

pub returns-clause-inside : goal.returns-clause-inside
returns-clause-inside g c = inside_on c.read_files_after.result

pub returns-clause-heads_inside : goal.returns-clause-heads_inside
returns-clause-heads_inside g c = c.read_files_after.ensures.heads_inside
