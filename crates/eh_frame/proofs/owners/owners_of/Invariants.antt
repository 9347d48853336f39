use Rattle.std.proofs.Common.{◌≡◌, ◌++◌, ℕ, List, Option, drop, map}
use Rattle.std.specs.Global.{Vec}
use Rattle.lk_tables.specs.BindingView.{binding_view}
use Rattle.lk_tables.specs.Frames.{list_view}
use Rattle.lk_tables.specs.TablesView.{files_of}
use Rattle.lk_tables.specs.declared.records.Record.{Record}
use Rattle.eh_frame.specs.Owners.{owners_in}
use Rattle.eh_frame.proofs.owners.owners_of.Given as goal

abbrev pub invariant-loop-number : goal.invariant-loop-number
invariant-loop-number l =
    let items : Vec (Option ℕ) → List (Option ℕ) = λ list. list.items in
    let f : (ℕ × Vec Record) → List (Option ℕ) = λ list. owners_in (files_of l.tables) (binding_view l.binding) (list_view list) in
    map items l.owners.items ++ map f (drop l.number l.lists) ≡ map f l.lists
