use Rattle.std.proofs.Common.{ap, arith}
use Rattle.lk_tables.specs.BindingView.{binding_view}
use Rattle.lk_tables.specs.Files.{section_count}
use Rattle.lk_tables.specs.TablesView.{files_of}
use Rattle.lk_tables.proofs.FirstNumbers.{section_within}
use Rattle.link_sections.specs.InputSections as spec
use Rattle.lk_base.proofs.Ranges.{row_step}
use Rattle.link_passes.proofs.collecting.push_file.Goals as goal

pub overflow_cast-index : goal.overflow_cast-index
overflow_cast-index c =
    omega (
      arith,
      c.section_count-index-end.ensures,
      ap section_count c.file.ensures,
      c.prove_few.ensures.section_count_is,
      section_within (files_of c.args.tables.now) c.args.file c.requires,
    )

pub loop-index-preserved : goal.loop-index-preserved
loop-index-preserved c =
    row_step (spec.may_stay (files_of c.args.tables.now) (binding_view c.args.binding.now) c.args.file) c.loop-index.index
    c.args.kept.now.items c.loop-index.kept.items c.push.new.self.items c.may_stay.result c.loop-index.invariant c.in_ok-push.ensures.items c.may_stay.ensures
