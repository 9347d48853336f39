use Rattle.std.proofs.Common.{ap, arith, ◌∙◌, ◌++◌, ◌∷◌, []}
use Rattle.lk_base.proofs.Loops.{map_step}
use Rattle.lk_tables.specs.BindingView.{binding_view}
use Rattle.lk_tables.specs.Files.{section_count}
use Rattle.lk_tables.specs.TablesView.{files_of}
use Rattle.lk_tables.proofs.FirstNumbers.{section_within}
use Rattle.sec_graph.specs.Graph as spec
use Rattle.sec_graph.proofs.ends.live_ends.Goals as goal

pub overflow_cast-index : goal.overflow_cast-index
overflow_cast-index c =
    omega (
      arith,
      c.section_count-index-end.ensures,
      ap section_count c.file.ensures,
      c.prove_few.ensures.section_count_is,
      section_within (files_of c.args.tables.now) c.args.file c.requires.file,
    )

pub loop-index-preserved : goal.loop-index-preserved
loop-index-preserved c =
    map_step (spec.ends_in (files_of c.args.tables.now) (binding_view c.args.binding.now) c.args.file) c.loop-index.index c.loop-index.rows c.push.new.self
    c.loop-index.invariant (c.in_ok-push.ensures.ok ∙ ap (λ row. c.loop-index.rows ++ row ∷ []) (c.as_slice.ensures.value ∙ c.in_ok-ends.ensures))

pub section_ends-requires-clause-index : goal.section_ends-requires-clause-index
section_ends-requires-clause-index c = omega (arith, c.loop-index-test.true, c.section_count-index-end.ensures, ap section_count c.file.ensures)
