use Rattle.std.proofs.Common.{flat_map, take}
use Rattle.lk_tables.specs.BindingView.{binding_view}
use Rattle.lk_tables.specs.Frames.{frames_where, lists_of}
use Rattle.lk_tables.specs.TablesView.{files_of}
use Rattle.link_sections.specs.PoolViews.{merged_views}
use Rattle.eh_frame.specs.Plan.{cie_key, cie_no, is_owner_in_place}
use Rattle.eh_frame.specs.Uses.{AreUses}
use Rattle.eh_frame.proofs.planning.find_uses.Given as goal

-- the lists so far
abbrev pub invariant-loop-number : goal.invariant-loop-number
invariant-loop-number l =
    let files = files_of l.tables in
    let b = binding_view l.binding in
    let lists = lists_of l.frames in
    AreUses (cie_key files b (merged_views l.pools) lists) (cie_no lists) (flat_map (frames_where files b (is_owner_in_place l.leaders (merged_views l.pools))) (take l.number lists)) l.found
