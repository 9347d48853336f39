use Rattle.std.proofs.Common.{◌∙◌, sym}
use Rattle.std.specs.List.{range_with_len}
use Rattle.std.proofs.lemmas.List.{nil_from_length}
use Rattle.lk_base.proofs.Loops.{flat_step}
use Rattle.lk_tables.specs.BindingView.{binding_view}
use Rattle.lk_tables.specs.Files.{section_total}
use Rattle.lk_tables.specs.TablesView.{files_of}
use Rattle.sec_graph.specs.NamedSections.{named_at}
use Rattle.sec_graph.proofs.NamedLists.{none_named}
use Rattle.sec_graph.proofs.named_sections.all_named.Goals as goal

pub returns-then-is_empty : goal.returns-then-is_empty
returns-then-is_empty c =
    let files = files_of c.args.tables.now in
    c.new-pairs.ensures.items
    ∙ sym (none_named files (binding_view c.args.binding.now) c.args.names.now (range_with_len 0 (section_total files)) (nil_from_length c.args.names.now.entries (c.is_empty.ensures.0 c.if-is_empty.true)))

pub loop-section-preserved : goal.loop-section-preserved
loop-section-preserved c =
    flat_step (named_at (files_of c.args.tables.now) (binding_view c.args.binding.now) c.args.names.now) c.loop-section.section
    c.loop-section.pairs.items c.push_named.new.pairs.items c.loop-section.invariant c.in_ok-push_named.ensures
