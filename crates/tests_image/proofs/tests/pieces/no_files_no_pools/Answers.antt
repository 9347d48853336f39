use Rattle.lk_tables.specs.TablesView.{files_of}
use Rattle.tests_image.proofs.NoFiles.{none_written}
use Rattle.tests_image.proofs.tests.pieces.no_files_no_pools.Goals as goal

pub merge-requires-clause-written : goal.merge-requires-clause-written
merge-requires-clause-written g c κs = none_written (files_of c.in_ok-tables.tables)
