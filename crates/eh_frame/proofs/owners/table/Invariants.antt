use Rattle.std.proofs.Common.{◌≡◌, List, [], drop, map, replicate}
use Rattle.std.specs.Global.{Vec}
use Rattle.lk_tables.specs.BindingView.{binding_view}
use Rattle.lk_tables.specs.Files.{section_total}
use Rattle.lk_tables.specs.Frames.{list_views}
use Rattle.lk_tables.specs.TablesView.{files_of}
use Rattle.lk_tables.specs.declared.records.FrameNo.{FrameNo}
use Rattle.eh_frame.proofs.Owning.{all_after}
use Rattle.eh_frame.proofs.owners.table.Given as goal

-- the lists after all that is left are those after all
abbrev pub invariant-loop-number : goal.invariant-loop-number
invariant-loop-number g l =
    let items : Vec FrameNo → List FrameNo = λ list. list.items in
    let files = files_of l.tables in
    all_after files (binding_view l.binding) (drop l.number (list_views l.lists)) (map items l.of.items)
    ≡ all_after files (binding_view l.binding) (list_views l.lists) (replicate (section_total files) [])
