use Rattle.std.proofs.Common.{arith}
use Rattle.lk_base.proofs.Loops.{collect_step, collect_end}
use Rattle.lk_tables.specs.BindingView.{binding_view}
use Rattle.lk_tables.specs.TablesView.{files_of}
use Rattle.lk_tables.proofs.ByNumber.{section_row}
use Rattle.link_sections.specs.InputSections as spec
use Rattle.link_passes.proofs.collecting.kept_in.Goals as goal

pub loop-file-preserved : goal.loop-file-preserved
loop-file-preserved c =
    let files = files_of c.args.tables.now in
    collect_step (section_row files (spec.may_stay files (binding_view c.args.binding.now))) c.loop-file.file c.args.piece.end c.loop-file.kept.items c.push_file.new.kept.items _ (omega arith) c.loop-file.invariant c.in_ok-push_file.ensures

pub returns : goal.returns
returns c =
    let files = files_of c.args.tables.now in
    collect_end (section_row files (spec.may_stay files (binding_view c.args.binding.now))) c.loop-file.file c.args.piece.end c.loop-file.kept.items _ (omega arith) c.loop-file.invariant
