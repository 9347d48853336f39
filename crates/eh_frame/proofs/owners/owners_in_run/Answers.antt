use Rattle.std.proofs.Common.{◌≡◌, ℕ, ◌<◌, List, Option, map, sym, subst}
use Rattle.std.specs.Global.{Vec}
use Rattle.std.specs.List.{All}
use Rattle.std.specs.Prelude.{IfOk}
use Rattle.lk_tables.specs.BindingView.{binding_view}
use Rattle.lk_tables.specs.Files.{section_total}
use Rattle.lk_tables.specs.Frames.{RecordList, list_view}
use Rattle.lk_tables.specs.TablesView.{files_of}
use Rattle.lk_tables.specs.declared.records.Record.{Record}
use Rattle.eh_frame.specs.Owners.{owners_in}
use Rattle.eh_frame.proofs.Owning.{each_holds}
use Rattle.eh_frame.proofs.RecordRuns.{part_all}
use Rattle.eh_frame.proofs.owners.owners_in_run.Goals as goal

pub owners_of-requires : goal.owners_of-requires
owners_of-requires c =
    let InLink : (ℕ × Vec Record) → Type 0 = λ list. list.0 < section_total (files_of c.args.tables.now) in
    let P : List (ℕ × Vec Record) → Type 0 = λ ls. All InLink ls in
    subst P (sym c.run_of-own.ensures)
    (part_all InLink c.args.lists.now c.args.piece.start c.args.piece.end
    (each_holds (λ (l : RecordList). l.section < section_total (files_of c.args.tables.now)) c.args.lists.now c.requires.sections))

pub returns : goal.returns
returns c =
    let f : (ℕ × Vec Record) → List (Option ℕ) = λ list. owners_in (files_of c.args.tables.now) (binding_view c.args.binding.now) (list_view list) in
    let P : List (ℕ × Vec Record) → Type 0 = λ ls. IfOk c.owners_of.result (λ (owners : Vec (Vec (Option ℕ))). map (λ (list : Vec (Option ℕ)). list.items) owners.items ≡ map f ls) in
    subst P c.run_of-own.ensures c.owners_of.ensures
