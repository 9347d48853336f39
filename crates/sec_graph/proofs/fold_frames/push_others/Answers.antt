use Rattle.std.proofs.Common.{ℕ, List, ◌∙◌, ◌++◌, ap, sym, append-nil, map, refl}
use Rattle.lk_tables.specs.BindingView.{binding_view}
use Rattle.lk_tables.specs.Frames.{lists_of, no_record}
use Rattle.lk_tables.specs.RecordViews.{record_view}
use Rattle.lk_tables.specs.Records.{RecordView}
use Rattle.lk_tables.specs.Sites.{place_of}
use Rattle.lk_tables.specs.TablesView.{files_of}
use Rattle.link_sections.specs.declared.fold_items.FoldReloc.{FoldReloc}
use Rattle.link_sections.specs.PoolViews.{merged_views}
use Rattle.sec_graph.specs.Foldable.{record_reloc}
use Rattle.sec_graph.specs.FrameRelocs.{others}
use Rattle.sec_graph.proofs.FramePushes.{by_record, two_maps}
use Rattle.sec_graph.proofs.fold_frames.push_others.Goals as goal

pub found-requires : goal.found-requires
found-requires c = c.requires.within

pub returns-in_default : goal.returns-in_default
unfolding others
returns-in_default c =
    let files = files_of c.args.tables.now in
    let give = record_reloc files (binding_view c.args.binding.now) (merged_views c.args.pools.now) in
    let F : ℕ → RecordView → List FoldReloc = λ f r. map (give f r.from) (others r.relocs) in
    sym (append-nil c.args.list.now.items)
    ∙ ap (λ l. c.args.list.now.items ++ l) (by_record F files (lists_of c.args.frames.now) c.args.fde no_record (place_of files c.args.fde.section).file c.requires.lists c.in_default.ensures.is refl)

pub returns : goal.returns
returns c =
    let files = files_of c.args.tables.now in
    let give = record_reloc files (binding_view c.args.binding.now) (merged_views c.args.pools.now) in
    let r = record_view c.in-Some.held.now in
    let F : ℕ → RecordView → List FoldReloc = λ f r. map (give f r.from) (others r.relocs) in
    two_maps (give c.in-Some.file r.from) c.args.list.now.items c.push_relocs.new.list.items c.push_relocs-2.new.list.items
    c.others.result.0.now c.others.result.1.now (others r.relocs) (ap others (sym c.as_slice.ensures.value) ∙ c.others.ensures) c.in_ok-push_relocs.ensures c.in_ok-push_relocs-2.ensures
    ∙ ap (λ l. c.args.list.now.items ++ l) (by_record F files (lists_of c.args.frames.now) c.args.fde r c.in-Some.file c.requires.lists c.in-Some.ensures.is c.in-Some.ensures.file)
