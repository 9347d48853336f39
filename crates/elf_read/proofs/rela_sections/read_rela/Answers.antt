use Rattle.std.proofs.Common.{sym, ◌∙◌, arith}
use Rattle.std.proofs.lemmas.List.{map-set}
use Rattle.lk_tables.proofs.BodyFacts.{section_inside}
use Rattle.elf_read.proofs.RelocLists.{none_named, marks_kept, lists_kept, marks_put, lists_put}
use Rattle.elf_read.proofs.rela_sections.read_rela.Goals as goal

pub returns-then-not-relocates-clause-marks : goal.returns-then-not-relocates-clause-marks
returns-then-not-relocates-clause-marks c =
    let b = c.args.file.now.bytes.now in
    let is = rw c.section-rela.ensures at (sym c.relocates.ensures.value ∙ c.if-not-relocates.true) in
    c.requires.marks ∙ marks_kept b c.args.index (none_named b c.args.index is)

pub returns-then-not-relocates-clause-lists : goal.returns-then-not-relocates-clause-lists
returns-then-not-relocates-clause-lists c =
    let b = c.args.file.now.bytes.now in
    let is = rw c.section-rela.ensures at (sym c.relocates.ensures.value ∙ c.if-not-relocates.true) in
    c.requires.lists ∙ lists_kept b c.args.index (none_named b c.args.index is)

pub read_relocations-requires-clause-within : goal.read_relocations-requires-clause-within
read_relocations-requires-clause-within c =
    let known = c.args.file.now in
    let sort = rw c.section-rela.ensures at (c.relocates.ensures.sh_type c.if-not-relocates.false) in
    rw c.section-rela.ensures (section_inside known.bytes.now c.args.index known.passed c.requires.low (omega (arith, known.counted, c.requires.index))
    (λ z. absurd (omega (arith, sort))) (λ z. absurd (omega (arith, sort))))

pub returns-clause-marks : goal.returns-clause-marks
returns-clause-marks c =
    let b = c.args.file.now.bytes.now in
    let sort = c.relocates.ensures.sh_type c.if-not-relocates.false in
    let is = rw c.section-rela.ensures at (sym c.relocates.ensures.value ∙ c.if-not-relocates.false) in
    let lt = rw c.section-rela.ensures at (c.is_bad_rela.ensures.within c.if-is_bad_rela.false sort) in
    rw (c.requires.marks, c.section-rela.ensures) (marks_put b c.args.index is lt)

pub returns-clause-lists : goal.returns-clause-lists
returns-clause-lists c =
    let b = c.args.file.now.bytes.now in
    let sort = c.relocates.ensures.sh_type c.if-not-relocates.false in
    let is = rw c.section-rela.ensures at (sym c.relocates.ensures.value ∙ c.if-not-relocates.false) in
    let lt = rw c.section-rela.ensures at (c.is_bad_rela.ensures.within c.if-is_bad_rela.false sort) in
    let fresh = rw c.section-rela.ensures at (c.is_bad_rela.ensures.first c.if-is_bad_rela.false sort) in
    map-set (λ list. list.items) c.args.lists.now c.section-rela.result.info c.in_ok-list.list
    ∙ rw (c.requires.lists, c.section-rela.ensures) (lists_put b c.args.index c.in_ok-list.list.items is lt fresh c.in_ok-list.ensures.list)
