use Rattle.std.proofs.Common.{ℕ, List, ◌∙◌, ◌++◌, ap, sym, append-nil, flat_map, refl}
use Rattle.lk_tables.specs.BindingView.{binding_view}
use Rattle.lk_tables.specs.Frames.{lists_of, no_record}
use Rattle.lk_tables.specs.RecordViews.{record_view}
use Rattle.lk_tables.specs.Records.{RecordView}
use Rattle.lk_tables.specs.Sites.{place_of}
use Rattle.lk_tables.specs.TablesView.{files_of}
use Rattle.sec_graph.specs.Graph.{record_target}
use Rattle.sec_graph.proofs.FramePushes.{by_record}
use Rattle.sec_graph.proofs.frame_ends.push_cie.Goals as goal

pub found-requires : goal.found-requires
found-requires c = c.requires.within

pub returns-in_default : goal.returns-in_default
returns-in_default c =
    let files = files_of c.args.tables.now in
    let F : ℕ → RecordView → List ℕ = λ f r. flat_map (record_target files (binding_view c.args.binding.now) f) r.relocs in
    sym (append-nil c.args.ends.now.items)
    ∙ ap (λ l. c.args.ends.now.items ++ l) (by_record F files (lists_of c.args.frames.now) c.args.cie no_record (place_of files c.args.cie.section).file c.requires.lists c.in_default.ensures.is refl)

pub returns : goal.returns
returns c =
    let files = files_of c.args.tables.now in
    let r = record_view c.in-Some.held.now in
    let old = c.args.ends.now.items in
    let F : ℕ → RecordView → List ℕ = λ f r. flat_map (record_target files (binding_view c.args.binding.now) f) r.relocs in
    c.in_ok-push_targets.ensures ∙ ap (λ l. old ++ flat_map (record_target files (binding_view c.args.binding.now) c.in-Some.file) l) c.as_slice.ensures.value
    ∙ ap (λ l. old ++ l) (by_record F files (lists_of c.args.frames.now) c.args.cie r c.in-Some.file c.requires.lists c.in-Some.ensures.is c.in-Some.ensures.file)
