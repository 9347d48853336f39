use Rattle.std.proofs.Common.{ℕ, List, length, ap, sym, ◌∙◌, arith}
use Rattle.lk_tables.specs.declared.heads.Section.{Section}
use Rattle.lk_tables.specs.Files.{File, file_at, section_at}
use Rattle.lk_tables.specs.Names.{text_of}
use Rattle.lk_tables.specs.Sections.{contents_of}
use Rattle.lk_tables.specs.TablesView.{files_of}
use Rattle.link_sections.specs.MergeSections.{contents, pieces_in, section_pieces}
use Rattle.str_merge.proofs.cuts.cut_site.Goals as goal

pub returns-clause-pieces : goal.returns-clause-pieces
returns-clause-pieces c =
    c.in_ok-cut.ensures.pieces
    ∙ ap (λ (l : List ℕ). section_pieces l c.section-section.result) c.bytes.ensures
    ∙ ap (section_pieces c.file-file.result.now.bytes.now) c.section-section.ensures
    ∙ ap (λ (file : File). pieces_in file c.args.site.now.index) c.file-file.ensures

pub returns-clause-file : goal.returns-clause-file
returns-clause-file c =
    let files = files_of c.args.tables.now in
    let cut = c.in_ok-cut.cut in
    c.in_ok-cut.ensures.bytes
    ∙ ap (λ (l : List ℕ). text_of l cut.whole) c.bytes.ensures
    ∙ ap (λ (file : File). text_of file.bytes cut.whole) c.file-file.ensures
    ∙ ap (λ k. text_of (file_at files k).bytes cut.whole) (sym c.in_ok-cut.ensures.file)

pub cut_section-requires : goal.cut_section-requires
unfolding contents
cut_section-requires c =
    let same = ap (λ (l : List ℕ). length (contents_of l c.section-section.result)) c.bytes.ensures
    ∙ ap (λ (s : Section). length (contents_of c.file-file.result.now.bytes.now s)) c.section-section.ensures
    ∙ ap (λ (file : File). length (contents file c.args.site.now.index)) c.file-file.ensures in
    let short = c.requires.short.len in
    omega (arith, same, short)

pub returns-clause-near : goal.returns-clause-near
returns-clause-near c =
    let offset = ap (λ (s : Section). s.offset) (c.section-section.ensures ∙ ap (λ (file : File). section_at file c.args.site.now.index) c.file-file.ensures) in
    let short = c.requires.short.from in
    record { from = omega (arith, c.in_ok-cut.ensures.from, offset, short); len = c.in_ok-cut.ensures.len }
