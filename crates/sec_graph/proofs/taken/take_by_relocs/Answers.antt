use Rattle.std.proofs.Common.{List, ℕ, flat_map, ap, ◌∙◌, arith}
use Rattle.lk_tables.specs.declared.objects.Reloc.{Reloc}
use Rattle.lk_tables.specs.BindingView.{binding_view}
use Rattle.lk_tables.specs.Files.{no_reloc}
use Rattle.lk_tables.specs.TablesView.{files_of}
use Rattle.lk_tables.specs.Reach.{with_marked}
use Rattle.sec_graph.specs.Taken.{taken_by}
use Rattle.sec_graph.proofs.Marking.{marks_item}
use Rattle.sec_graph.proofs.taken.take_by_relocs.Goals as goal

pub loop-reloc-preserved : goal.loop-reloc-preserved
loop-reloc-preserved c =
    let give : Reloc → List ℕ = taken_by (files_of c.args.tables.now) (binding_view c.args.binding.now) c.args.file in
    marks_item give c.args.relocs.now c.loop-reloc.reloc-index no_reloc c.loop-reloc.taken.items c.mark_if.new.taken.items
    (with_marked c.args.taken.now.items (flat_map give c.args.relocs.now)) (omega (arith, c.loop-reloc-test.true)) c.loop-reloc.invariant
    (c.mark_if.ensures ∙ ap (with_marked c.loop-reloc.taken.items) c.taken_by.ensures)
