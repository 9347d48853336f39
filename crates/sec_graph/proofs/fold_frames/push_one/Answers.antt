use Rattle.std.proofs.Common.{List, ◌∙◌, ◌++◌, ap}
use Rattle.lk_tables.specs.BindingView.{binding_view}
use Rattle.lk_tables.specs.Frames.{RecordList}
use Rattle.lk_tables.specs.TablesView.{files_of}
use Rattle.link_sections.specs.PoolViews.{merged_views}
use Rattle.sec_graph.specs.Foldable.{cie_relocs, other_relocs}
use Rattle.sec_graph.specs.FrameRelocs.{cie_no}
use Rattle.sec_graph.proofs.FramePushes.{two_lists}
use Rattle.sec_graph.proofs.fold_frames.push_one.Goals as goal

pub cie_of-cie-requires : goal.cie_of-cie-requires
cie_of-cie-requires c = c.requires.within.order

pub returns : goal.returns
returns c =
    let files = files_of c.args.tables.now in
    let b = binding_view c.args.binding.now in
    let merged = merged_views c.args.pools.now in
    let old = c.args.list.now.items in
    let own = other_relocs files b merged c.args.fde in
    two_lists old c.push_others.new.list.items c.push_shared.new.list.items own (cie_relocs files b merged c.cie_of-cie.result) c.in_ok-push_others.ensures c.in_ok-push_shared.ensures
    ∙ ap (λ number. old ++ (own ++ cie_relocs files b merged number)) (c.cie_of-cie.ensures ∙ ap (λ (ls : List RecordList). cie_no ls c.args.fde) c.requires.lists)
