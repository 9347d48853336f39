use Rattle.std.proofs.Common.{ℕ, List, ◌∙◌, ◌++◌, ap, sym, append-nil, flat_map, refl}
use Rattle.lk_tables.specs.BindingView.{binding_view}
use Rattle.lk_tables.specs.Frames.{lists_of, no_record}
use Rattle.lk_tables.specs.RecordViews.{record_view}
use Rattle.lk_tables.specs.Records.{RecordView}
use Rattle.lk_tables.specs.Sites.{place_of}
use Rattle.lk_tables.specs.TablesView.{files_of}
use Rattle.sec_graph.specs.FrameRelocs.{others}
use Rattle.sec_graph.specs.Graph.{record_target}
use Rattle.sec_graph.proofs.FramePushes.{by_record, two_parts}
use Rattle.sec_graph.proofs.frame_ends.push_fde.Goals as goal

pub found-requires : goal.found-requires
found-requires c = c.requires.within

pub returns-in_default : goal.returns-in_default
unfolding others
returns-in_default c =
    let files = files_of c.args.tables.now in
    let F : ℕ → RecordView → List ℕ = λ f r. flat_map (record_target files (binding_view c.args.binding.now) f) (others r.relocs) in
    sym (append-nil c.args.ends.now.items)
    ∙ ap (λ l. c.args.ends.now.items ++ l) (by_record F files (lists_of c.args.frames.now) c.args.fde no_record (place_of files c.args.fde.section).file c.requires.lists c.in_default.ensures.is refl)

pub returns : goal.returns
returns c =
    let files = files_of c.args.tables.now in
    let b = binding_view c.args.binding.now in
    let r = record_view c.in-Some.held.now in
    let F : ℕ → RecordView → List ℕ = λ f r. flat_map (record_target files b f) (others r.relocs) in
    two_parts (record_target files b c.in-Some.file) c.args.ends.now.items c.push_targets.new.ends.items c.push_targets-2.new.ends.items
    c.others.result.0.now c.others.result.1.now (others r.relocs) (ap others (sym c.as_slice.ensures.value) ∙ c.others.ensures) c.in_ok-push_targets.ensures c.in_ok-push_targets-2.ensures
    ∙ ap (λ l. c.args.ends.now.items ++ l) (by_record F files (lists_of c.args.frames.now) c.args.fde r c.in-Some.file c.requires.lists c.in-Some.ensures.is c.in-Some.ensures.file)
