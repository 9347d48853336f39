use Rattle.std.proofs.Common.{◌≡◌, ◌∙◌, ◌++◌, ◌∷◌, [], ◌<◌, ap, arith}
use Rattle.std.specs.Prelude.{slice_index_or}
use Rattle.lk_base.proofs.Loops.{map_step}
use Rattle.lk_tables.specs.BindingView.{binding_view}
use Rattle.lk_tables.specs.Files.{file_at, section_count}
use Rattle.lk_tables.specs.TablesView.{files_of}
use Rattle.lk_tables.proofs.FirstNumbers.{section_within}
use Rattle.sec_graph.specs.WalkEdges.{walk_ends}
use Rattle.sec_graph.proofs.WalkClosing.{walk_row}
use Rattle.sec_graph.proofs.walks.live_walks.Goals as goal

pub overflow_cast-number : goal.overflow_cast-number
overflow_cast-number c =
    omega (
      arith,
      c.section_no-number.ensures,
      c.loop-index-test.true,
      c.section_count-index-end.ensures,
      ap section_count c.file.ensures,
      c.prove_few.ensures.section_count_is,
      section_within (files_of c.args.tables.now) c.args.file c.requires.file,
    )

pub section_no-number-requires-clause-section : goal.section_no-number-requires-clause-section
section_no-number-requires-clause-section c =
    omega (
      arith,
      c.loop-index-test.true,
      c.section_count-index-end.ensures,
      ap section_count c.file.ensures,
      c.prove_few.ensures.section_count_is,
      section_within (files_of c.args.tables.now) c.args.file c.requires.file,
    )

pub loop-index-preserved : goal.loop-index-preserved
loop-index-preserved c =
    let files = files_of c.args.tables.now in
    let b = binding_view c.args.binding.now in
    let f = c.args.file in
    let k = c.loop-index.index in
    let n = c.section_no-number.result in
    let less : k < section_count (file_at files f) = omega (arith, c.loop-index-test.true, c.section_count-index-end.ensures, ap section_count c.file.ensures) in
    let row = c.in_ok-ends.ensures ∙ walk_row files b f k n c.ends.result.now c.pairs_from.result.now c.args.mates.now c.requires.file less c.section_no-number.ensures
    (c.ends.ensures.value ∙ ap (λ es. slice_index_or es n []) c.requires.edges) c.pairs_from.ensures (c.requires.mates.same _) in
    map_step (walk_ends files b f) k c.loop-index.rows c.push.new.self c.loop-index.invariant
    (c.in_ok-push.ensures.ok ∙ ap (λ l. c.loop-index.rows ++ l ∷ []) (c.as_slice.ensures.value ∙ row))
