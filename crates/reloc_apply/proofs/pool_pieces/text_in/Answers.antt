use Rattle.std.proofs.Common.{◌∙◌, ◌≡◌, ap, arith, length}
use Rattle.lk_tables.specs.Files.{File}
use Rattle.lk_tables.specs.Names.{text_of}
use Rattle.lk_tables.specs.TablesView.{files_of}
use Rattle.link_sections.specs.PoolViews.{piece_text}
use Rattle.reloc_apply.proofs.PoolSteps.{text_past, text_short}
use Rattle.reloc_apply.proofs.pool_pieces.text_in.Goals as goal

pub returns-then-file_count-part-clause-value : goal.returns-then-file_count-part-clause-value
returns-then-file_count-part-clause-value c = text_past (files_of c.args.tables.now) c.args.part.now (omega (arith, c.if-file_count-part.true, c.file_count.ensures))

pub returns-clause-short : goal.returns-clause-short
returns-clause-short c =
    let same : c.text_of.result.now ≡ piece_text (files_of c.args.tables.now) c.args.part.now =
    c.text_of.ensures ∙ ap (λ b. text_of b c.args.part.now.text) (c.bytes.ensures ∙ ap (λ (f : File). f.bytes) c.file.ensures) in
    omega (arith, ap length same, text_short (files_of c.args.tables.now) c.args.part.now)
