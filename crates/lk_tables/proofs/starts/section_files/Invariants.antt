use Rattle.std.proofs.Common.{◌≡◌}
use Rattle.lk_tables.specs.FileView.{file_views}
use Rattle.lk_tables.proofs.ByNumber.{section_rows}
use Rattle.lk_tables.proofs.SectionFiles.{file_of}
use Rattle.lk_tables.proofs.starts.section_files.Given as goal

abbrev pub invariant-loop-f : goal.invariant-loop-f
invariant-loop-f l = l.owners.items ≡ section_rows (file_views l.files) file_of l.f
