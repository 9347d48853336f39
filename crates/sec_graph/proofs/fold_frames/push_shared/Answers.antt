use Rattle.std.proofs.Common.{ℕ, List, ◌∙◌, ◌++◌, ap, sym, append-nil, map, refl}
use Rattle.lk_tables.specs.BindingView.{binding_view}
use Rattle.lk_tables.specs.Frames.{lists_of, no_record}
use Rattle.lk_tables.specs.RecordViews.{record_view}
use Rattle.lk_tables.specs.Records.{RecordView}
use Rattle.lk_tables.specs.Sites.{place_of}
use Rattle.lk_tables.specs.TablesView.{files_of}
use Rattle.link_sections.specs.declared.fold_items.FoldReloc.{FoldReloc}
use Rattle.link_sections.specs.PoolViews.{merged_views}
use Rattle.sec_graph.specs.Foldable.{record_reloc}
use Rattle.sec_graph.proofs.FramePushes.{by_record}
use Rattle.sec_graph.proofs.fold_frames.push_shared.Goals as goal

pub found-requires : goal.found-requires
found-requires c = c.requires.within

pub returns-in_default : goal.returns-in_default
returns-in_default c =
    let files = files_of c.args.tables.now in
    let give = record_reloc files (binding_view c.args.binding.now) (merged_views c.args.pools.now) in
    let F : ℕ → RecordView → List FoldReloc = λ f r. map (give f r.from) r.relocs in
    sym (append-nil c.args.list.now.items)
    ∙ ap (λ l. c.args.list.now.items ++ l) (by_record F files (lists_of c.args.frames.now) c.args.cie no_record (place_of files c.args.cie.section).file c.requires.lists c.in_default.ensures.is refl)

pub returns : goal.returns
returns c =
    let files = files_of c.args.tables.now in
    let give = record_reloc files (binding_view c.args.binding.now) (merged_views c.args.pools.now) in
    let r = record_view c.in-Some.held.now in
    let old = c.args.list.now.items in
    let F : ℕ → RecordView → List FoldReloc = λ f r. map (give f r.from) r.relocs in
    c.in_ok-push_relocs.ensures ∙ ap (λ l. old ++ map (give c.in-Some.file r.from) l) c.as_slice.ensures.value
    ∙ ap (λ l. old ++ l) (by_record F files (lists_of c.args.frames.now) c.args.cie r c.in-Some.file c.requires.lists c.in-Some.ensures.is c.in-Some.ensures.file)
