use Rattle.std.proofs.Common.{◌≡◌, ◌∙◌, true, arith, ap, length, sym}
use Rattle.lk_tables.specs.Files.{File, file_at}
use Rattle.lk_tables.specs.TablesView.{files_of}
use Rattle.lk_tables.proofs.LiveFiles.{few_sections}
use Rattle.lk_tables.proofs.walks.first_in_file.Goals as goal

pub overflow_cast-sections : goal.overflow_cast-sections
overflow_cast-sections g c =
    let files = files_of c.args.tables.now in
    let live : (file_at files c.args.file).live ≡ true = ap (λ (file : File). file.live) (sym c.file-entry.ensures) ∙ sym c.is_live.ensures ∙ c.if-not-is_live.false in
    let same = ap length (c.sections.ensures ∙ ap (λ (file : File). file.head.sections) c.file-entry.ensures) in
    omega (arith, same, few_sections files c.args.file c.args.tables.now.few c.requires.file live)
