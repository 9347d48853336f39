use Rattle.std.proofs.Common.{◌∙◌, arith}
use Rattle.lk_tables.specs.BindingView.{binding_view}
use Rattle.lk_tables.specs.TablesView.{files_of}
use Rattle.lk_tables.proofs.ByNumber.{section_rows_all, section_rows_step}
use Rattle.link_sections.specs.InputSections as spec
use Rattle.link_sections.proofs.input_sections.all_kept.Goals as goal

pub loop-file-preserved : goal.loop-file-preserved
loop-file-preserved c =
    section_rows_step (files_of c.args.tables.now) (spec.may_stay (files_of c.args.tables.now) (binding_view c.args.binding.now)) c.loop-file.file
    c.loop-file.kept.items c.push_file.new.kept.items c.loop-file.invariant c.in_ok-push_file.ensures

pub returns : goal.returns
returns c =
    c.loop-file.invariant ∙ section_rows_all (files_of c.args.tables.now) (spec.may_stay (files_of c.args.tables.now) (binding_view c.args.binding.now)) c.loop-file.file (omega arith)
