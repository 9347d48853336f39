use Rattle.std.proofs.Common.{◌∙◌}
use Rattle.lk_tables.specs.BindingView.{binding_view}
use Rattle.lk_tables.specs.TablesView.{files_of}
use Rattle.link_command.specs.Command.{lists_of}
use Rattle.link_passes.proofs.SetApart.{barred_are}
use Rattle.link_passes.proofs.barring.find_barred.Goals as goal

pub returns : goal.returns
returns c =
    barred_are c.args.icf (lists_of c.args.unique.now) (files_of c.args.tables.now) (binding_view c.args.binding.now) c.args.kept.now
    c.in_ok-barred.barred.items c.mark_sections.new.marks.items c.as_slice.result.now c.is_safe.result c.is_safe.ensures
    c.in_ok-barred.ensures (c.as_slice.ensures.value ∙ c.in_ok-named.ensures.sections) c.mark_sections.ensures
