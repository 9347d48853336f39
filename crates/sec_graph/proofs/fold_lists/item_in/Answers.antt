use Rattle.std.proofs.Common.{◌<◌, List, All, sym, subst}
use Rattle.lk_tables.specs.declared.records.FrameNo.{FrameNo}
use Rattle.lk_tables.specs.BindingView.{binding_view}
use Rattle.lk_tables.specs.Files.{section_total}
use Rattle.lk_tables.specs.TablesView.{files_of}
use Rattle.sec_graph.proofs.FrameEnds.{fdes_below}
use Rattle.sec_graph.proofs.fold_lists.item_in.Goals as goal

pub fold_frames-requires-clause-sections : goal.fold_frames-requires-clause-sections
fold_frames-requires-clause-sections c =
    let files = files_of c.args.tables.now in
    let P : List FrameNo → Type 0 = All (λ (number : FrameNo). number.section < section_total files) in
    subst P (sym c.fdes_of-fdes.ensures) (fdes_below files (binding_view c.args.binding.now) c.args.section)
