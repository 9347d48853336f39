use Rattle.std.proofs.Common.{◌≡◌, List, map}
use Rattle.std.specs.Global.{Vec}
use Rattle.std.specs.List.{range_with_len}
use Rattle.lk_tables.specs.BindingView.{binding_view}
use Rattle.lk_tables.specs.Frames.{list_view}
use Rattle.lk_tables.specs.TablesView.{files_of}
use Rattle.lk_tables.specs.declared.records.FrameNo.{FrameNo}
use Rattle.eh_frame.specs.Owners.{with_records}
use Rattle.eh_frame.proofs.owners.push_list.Given as goal

abbrev pub invariant-loop-at : goal.invariant-loop-at
invariant-loop-at l =
    let items : Vec FrameNo → List FrameNo = λ list. list.items in
    map items l.of.items ≡ with_records (files_of l.tables) (binding_view l.binding) (list_view l.list) (range_with_len 0 l.at) (map items l.fn.of.items)
