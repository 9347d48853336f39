use Rattle.std.proofs.Common.{arith, ap, flat_map, length, ◌∙◌, sym, subst, List}
use Rattle.lk_base.proofs.Loops.{pass_step, found_step}
use Rattle.lk_base.specs.Firsts.{BeginsWith}
use Rattle.lk_tables.specs.declared.objects.Reloc.{Reloc}
use Rattle.lk_tables.specs.Files.{file_at}
use Rattle.lk_tables.specs.TablesView.{files_of}
use Rattle.lk_tables.specs.Walks.{over_section}
use Rattle.lk_tables.proofs.walks.first_in_sections.Goals as goal

pub first_in_section-requires-clause-file : goal.first_in_section-requires-clause-file
first_in_section-requires-clause-file g c = omega (arith, ap length c.requires.same, c.requires.file)

pub first_in_section-requires-clause-live : goal.first_in_section-requires-clause-live
first_in_section-requires-clause-live g c = ap (λ fs. (file_at fs c.args.file).live) c.requires.same ∙ c.requires.live

pub first_in_section-requires-clause-section : goal.first_in_section-requires-clause-section
first_in_section-requires-clause-section g c =
    omega (arith, c.requires.count, ap (λ fs. length (file_at fs c.args.file).head.sections) c.requires.same)

pub returns-in-Some : goal.returns-in-Some
returns-in-Some g c =
    let give = g.T.RelocTest.defects c.args.test.now c.args.file c.loop-section.section in
    let P : List Reloc → Type 0 = λ list. BeginsWith (flat_map give list) c.in-Some.defect in
    found_step (over_section (files_of c.args.tables.now) (g.T.RelocTest.defects c.args.test.now) c.args.file) c.loop-section.section c.args.count
    _ c.in-Some.defect (omega arith) c.loop-section.invariant (subst P c.relocs-relocs.ensures c.in-Some.ensures)

pub loop-section-preserved : goal.loop-section-preserved
loop-section-preserved g c =
    pass_step (over_section (files_of c.args.tables.now) (g.T.RelocTest.defects c.args.test.now) c.args.file) c.loop-section.section c.args.count
    _ (omega arith) c.loop-section.invariant
    (ap (flat_map (g.T.RelocTest.defects c.args.test.now c.args.file c.loop-section.section)) (sym c.relocs-relocs.ensures) ∙ c.in_default.ensures)
