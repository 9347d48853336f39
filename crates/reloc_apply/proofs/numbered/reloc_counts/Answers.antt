use Rattle.std.proofs.Common.{◌∙◌, arith, length}
use Rattle.lk_tables.specs.Files.{file_at, relocs_at}
use Rattle.lk_tables.specs.TablesView.{files_of}
use Rattle.lk_tables.proofs.ByNumber.{section_rows_all, section_rows_step}
use Rattle.reloc_apply.proofs.numbered.reloc_counts.Goals as goal

pub loop-file-preserved : goal.loop-file-preserved
loop-file-preserved c =
    section_rows_step (files_of c.args.tables.now) (λ f k. length (relocs_at (file_at (files_of c.args.tables.now) f) k)) c.loop-file.file
    c.loop-file.counts.items c.push_counts.new.counts.items c.loop-file.invariant c.in_ok-push_counts.ensures

pub returns : goal.returns
returns c =
    c.loop-file.invariant
    ∙ section_rows_all (files_of c.args.tables.now) (λ f k. length (relocs_at (file_at (files_of c.args.tables.now) f) k)) c.loop-file.file (omega arith)
