use Rattle.std.proofs.Common.{◌≡◌, ◌++◌, List, length}
use Rattle.lk_tables.specs.declared.records.FrameNo.{FrameNo}
use Rattle.lk_tables.specs.BindingView.{binding_view}
use Rattle.lk_tables.specs.TablesView.{files_of}
use Rattle.link_sections.specs.PoolViews.{merged_views}
use Rattle.eh_frame.specs.Plan.{CieKey}
use Rattle.eh_frame.specs.Uses.{AreUses, AreUsesIn, Tells, list_in}
use Rattle.eh_frame.proofs.FrameWalks.{first_frames}
use Rattle.eh_frame.proofs.planning.push_section.Given as goal

-- the records so far
abbrev pub invariant-loop-at : goal.invariant-loop-at
invariant-loop-at l = record {
  long : length l.known.items ≡ length l.records;
  adds : (key : FrameNo → CieKey) (cie_of : FrameNo → FrameNo) (fdes : List FrameNo)
      → Tells (files_of l.tables) (binding_view l.binding) (merged_views l.pools) key cie_of (list_in l.section l.records)
      → AreUses key cie_of fdes l.fn.found
      → AreUsesIn key cie_of (fdes ++ first_frames (files_of l.tables) (binding_view l.binding) (merged_views l.pools) l.leaders (list_in l.section l.records) l.at) l.section l.known.items l.found;
}
