use Rattle.std.proofs.Common.{List, refl, subst, arith}
use Rattle.lk_tables.specs.declared.objects.Reloc.{Reloc}
use Rattle.lk_tables.specs.TablesView.{files_of}
use Rattle.lk_tables.specs.Uppers.{AreListed, uppers_at}
use Rattle.lk_tables.proofs.ByNumber.{section_rows, section_rows_all, section_rows_step}
use Rattle.sec_graph.proofs.uppers.find_uppers.Goals as goal

pub loop-file-preserved : goal.loop-file-preserved
loop-file-preserved c =
    let files = files_of c.args.tables.now in
    let give = uppers_at files in
    let P : List (List Reloc) → Type 0 = λ l. AreListed l c.add_file.new.uppers in
    subst P (section_rows_step files give c.loop-file.file _ _ refl refl)
    (c.in_ok-add_file.ensures (section_rows files give c.loop-file.file) c.loop-file.invariant)

pub returns : goal.returns
returns c =
    let files = files_of c.args.tables.now in
    let P : List (List Reloc) → Type 0 = λ l. AreListed l c.loop-file.uppers in
    subst P (section_rows_all files (uppers_at files) c.loop-file.file (omega arith)) c.loop-file.invariant
