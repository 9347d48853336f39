use Rattle.std.proofs.Common.{◌≡◌, ◌++◌, ℕ, Option, drop, map}
use Rattle.lk_tables.specs.BindingView.{binding_view}
use Rattle.lk_tables.specs.Frames.{owner_in}
use Rattle.lk_tables.specs.RecordViews.{record_view}
use Rattle.lk_tables.specs.TablesView.{files_of}
use Rattle.lk_tables.specs.declared.records.Record.{Record}
use Rattle.eh_frame.proofs.owners.push_owners.Given as goal

abbrev pub invariant-loop-unwind_record : goal.invariant-loop-unwind_record
invariant-loop-unwind_record l =
    let owner : Record → Option ℕ = λ r. owner_in (files_of l.tables) (binding_view l.binding) l.file (record_view r) in
    l.owners.items ++ map owner (drop l.unwind_record-index l.records) ≡ l.fn.owners.items ++ map owner l.records
