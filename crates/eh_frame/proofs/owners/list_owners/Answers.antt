use Rattle.std.proofs.Common.{ℕ, ◌++◌, List, Option, map, ap, sym, ◌∙◌}
use Rattle.std.proofs.lemmas.Simd.{map-map}
use Rattle.lk_tables.specs.BindingView.{binding_view}
use Rattle.lk_tables.specs.Frames.{owner_in}
use Rattle.lk_tables.specs.RecordViews.{record_view}
use Rattle.lk_tables.specs.Sites.{place_of}
use Rattle.lk_tables.specs.TablesView.{files_of}
use Rattle.lk_tables.specs.declared.records.Record.{Record}
use Rattle.eh_frame.proofs.owners.list_owners.Goals as goal

pub returns : goal.returns
returns c =
    let files = files_of c.args.tables.now in
    let owner : ℕ → Record → Option ℕ = λ f r. owner_in files (binding_view c.args.binding.now) f (record_view r) in
    let own = (place_of files c.args.list.now.0).file in
    let records = c.as_slice-records.result.now in
    c.in_ok-push_owners.ensures ∙ ap (λ (l : List (Option ℕ)). l ++ map (owner c.place_of-file.result.file) records) c.in_ok-owners.ensures.items
    ∙ ap (λ (f : ℕ). map (owner f) records) (ap (λ p. p.file) c.place_of-file.ensures.place)
    ∙ ap (map (owner own)) c.as_slice-records.ensures.value
    ∙ sym (map-map (owner_in files (binding_view c.args.binding.now) own) record_view c.args.list.now.1.items)
