use Rattle.std.proofs.Common.{ℕ, ◌<◌, ◌∙◌, List, Option, map, ap, sym, subst}
use Rattle.std.specs.Global.{Vec}
use Rattle.std.specs.List.{All}
use Rattle.std.proofs.lemmas.List.Elements.{All-weaker}
use Rattle.lk_tables.specs.BindingView.{binding_view}
use Rattle.lk_tables.specs.Files.{section_total}
use Rattle.lk_tables.specs.Frames.{IsListWithin, RecordList, list_views, lists_of}
use Rattle.lk_tables.specs.TablesView.{files_of}
use Rattle.lk_tables.specs.declared.records.Record.{Record}
use Rattle.eh_frame.specs.Owners.{owners_in}
use Rattle.eh_frame.proofs.planning.shared_uses.Goals as goal

pub find_owners-requires-clause-sections : goal.find_owners-requires-clause-sections
find_owners-requires-clause-sections g c = λ κs bound.
    let files = files_of c.args.tables.now in
    let InLink : RecordList → Type 0 = λ (l : RecordList). l.section < section_total files in
    let P : List (ℕ × Vec Record) → Type 0 = λ ls. All InLink (list_views ls) in
    subst P (sym c.as_slice-lists.ensures.value)
    (All-weaker (IsListWithin files) InLink (λ l within. within.section) (lists_of c.args.frames.now) c.requires.within.within)

pub find_uses-requires-clause-owners : goal.find_uses-requires-clause-owners
find_uses-requires-clause-owners g c =
    let own : RecordList → List (Option ℕ) = owners_in (files_of c.args.tables.now) (binding_view c.args.binding.now) in
    ap (λ (ls : List (Vec (Option ℕ))). map (λ (list : Vec (Option ℕ)). list.items) ls) c.as_slice-owners.ensures.value
    ∙ c.in_ok-found.ensures ∙ ap (λ (ls : List (ℕ × Vec Record)). map own (list_views ls)) c.as_slice-lists.ensures.value
