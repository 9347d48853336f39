use Rattle.std.proofs.Common.{◌∙◌, arith}
use Rattle.std.proofs.lemmas.Bool.{le-ltb, ne_eqb}
use Rattle.lk_base.specs.declared.abi.TheConstants.{SHT_GROUP, SHT_RELA}
use Rattle.lk_tables.specs.Sections.{section_of}
use Rattle.elf_read.proofs.GroupLists.{null_group, untyped_group, taken_kept, groups_kept}
use Rattle.elf_read.proofs.RelocLists.{null_named, untyped_named, marks_kept, lists_kept}
use Rattle.elf_read.proofs.section_bodies.read_section.Goals as goal

pub returns-then-index-eq0-clause-marks : goal.returns-then-index-eq0-clause-marks
returns-then-index-eq0-clause-marks c =
    let b = c.args.file.now.bytes.now in
    c.requires.marks ∙ marks_kept b c.args.index (null_named b c.args.index (le-ltb 0 c.args.index (omega arith)))

pub returns-then-index-eq0-clause-lists : goal.returns-then-index-eq0-clause-lists
returns-then-index-eq0-clause-lists c =
    let b = c.args.file.now.bytes.now in
    c.requires.lists ∙ lists_kept b c.args.index (null_named b c.args.index (le-ltb 0 c.args.index (omega arith)))

pub returns-then-section-eq-SHT_NULL-clause-marks : goal.returns-then-section-eq-SHT_NULL-clause-marks
returns-then-section-eq-SHT_NULL-clause-marks c =
    let b = c.args.file.now.bytes.now in
    let sort = rw c.section-section.ensures at c.if-section-eq-SHT_NULL.true in
    c.requires.marks ∙ marks_kept b c.args.index (untyped_named b c.args.index (ne_eqb (section_of b c.args.index).sh_type SHT_RELA (λ e. absurd (omega (arith, sort, e)))))

pub returns-then-section-eq-SHT_NULL-clause-lists : goal.returns-then-section-eq-SHT_NULL-clause-lists
returns-then-section-eq-SHT_NULL-clause-lists c =
    let b = c.args.file.now.bytes.now in
    let sort = rw c.section-section.ensures at c.if-section-eq-SHT_NULL.true in
    c.requires.lists ∙ lists_kept b c.args.index (untyped_named b c.args.index (ne_eqb (section_of b c.args.index).sh_type SHT_RELA (λ e. absurd (omega (arith, sort, e)))))

pub returns-then-index-eq0-clause-taken : goal.returns-then-index-eq0-clause-taken
returns-then-index-eq0-clause-taken c =
    c.requires.taken ∙ taken_kept c.args.file.now.bytes.now c.args.index (null_group c.args.file.now.bytes.now c.args.index (le-ltb 0 c.args.index (omega arith)))

pub returns-then-index-eq0-clause-groups : goal.returns-then-index-eq0-clause-groups
returns-then-index-eq0-clause-groups c =
    c.requires.groups ∙ groups_kept c.args.file.now.bytes.now c.args.index (null_group c.args.file.now.bytes.now c.args.index (le-ltb 0 c.args.index (omega arith)))

pub returns-then-section-eq-SHT_NULL-clause-taken : goal.returns-then-section-eq-SHT_NULL-clause-taken
returns-then-section-eq-SHT_NULL-clause-taken c =
    let b = c.args.file.now.bytes.now in
    let sort = rw c.section-section.ensures at c.if-section-eq-SHT_NULL.true in
    c.requires.taken ∙ taken_kept b c.args.index (untyped_group b c.args.index (ne_eqb (section_of b c.args.index).sh_type SHT_GROUP (λ e. absurd (omega (arith, sort, e)))))

pub returns-then-section-eq-SHT_NULL-clause-groups : goal.returns-then-section-eq-SHT_NULL-clause-groups
returns-then-section-eq-SHT_NULL-clause-groups c =
    let b = c.args.file.now.bytes.now in
    let sort = rw c.section-section.ensures at c.if-section-eq-SHT_NULL.true in
    c.requires.groups ∙ groups_kept b c.args.index (untyped_group b c.args.index (ne_eqb (section_of b c.args.index).sh_type SHT_GROUP (λ e. absurd (omega (arith, sort, e)))))
