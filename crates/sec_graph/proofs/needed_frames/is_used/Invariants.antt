use Rattle.std.proofs.Common.{◌≡◌, drop}
use Rattle.std.specs.List.{list_any}
use Rattle.lk_tables.specs.BindingView.{binding_view}
use Rattle.lk_tables.specs.RecordViews.{record_views}
use Rattle.lk_tables.specs.TablesView.{files_of}
use Rattle.sec_graph.specs.Needs.{uses}
use Rattle.sec_graph.proofs.needed_frames.is_used.Given as goal

abbrev pub invariant-loop-entry : goal.invariant-loop-entry
invariant-loop-entry l =
    let test = uses (files_of l.tables) (binding_view l.binding) l.kept l.file l.cie in
    list_any test (record_views (drop l.entry-index l.records)) ≡ list_any test (record_views l.records)
