use Rattle.std.proofs.Common.{◌≡◌, ◌++◌, ◌∷◌, [], ap, sym, subst, ◌∙◌, arith}
use Rattle.lk_tables.specs.TablesView.{files_of}
use Rattle.relax.specs.CutRows.{AreCutRows}
use Rattle.relax.proofs.CutParts.{rows_first, rows_more}
use Rattle.relax.proofs.keeping.part_of.Goals as goal

pub loop-section-init : goal.loop-section-init
loop-section-init c =
    let s = c.args.scene.now in
    let files = files_of s.tables.now in
    let start = c.args.piece.start in
    (omega arith, subst (AreCutRows files s.members.now c.args.calls.now c.args.sizes.now start start) (sym c.in_ok-rows.ensures) (rows_first files s.members.now c.args.calls.now c.args.sizes.now start))

pub overflow_cast-section : goal.overflow_cast-section
overflow_cast-section c = omega (arith, c.requires.within, c.loop-section-test.true, c.prove_few.ensures.section_count_is)

pub section_cuts-requires-clause-section : goal.section_cuts-requires-clause-section
section_cuts-requires-clause-section c = omega (arith, c.requires.within, c.loop-section-test.true)

pub loop-section-preserved : goal.loop-section-preserved
loop-section-preserved c =
    let s = c.args.scene.now in
    let low = c.loop-section.invariant.0 in (
      omega (arith, low),
      rows_more (files_of s.tables.now) s.members.now c.args.calls.now c.args.sizes.now c.args.piece.start c.loop-section.section c.loop-section.rows c.push.new.self c.section_cuts.new.cuts.items low
          c.loop-section.invariant.1 (c.in_ok-push.ensures.ok ∙ ap (λ l. c.loop-section.rows ++ l ∷ []) c.as_slice.ensures.value) c.in_ok-section_cuts.ensures.views c.in_ok-section_cuts.ensures.sound,
    )

pub returns : goal.returns
returns c =
    let s = c.args.scene.now in
    let files = files_of s.tables.now in
    let start = c.args.piece.start in
    let e : c.loop-section.section ≡ c.args.piece.end = omega (arith, c.loop-section.invariant.0) in
    subst (AreCutRows files s.members.now c.args.calls.now c.args.sizes.now start c.args.piece.end) (sym c.in_ok-parts.ensures)
    (subst (λ k. AreCutRows files s.members.now c.args.calls.now c.args.sizes.now start k c.loop-section.rows) e c.loop-section.invariant.1)
