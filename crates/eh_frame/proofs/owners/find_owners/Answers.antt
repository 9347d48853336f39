use Rattle.std.proofs.Common.{◌≡◌, ℕ, List, Option, length, map, sym, ap, ◌∙◌, subst, arith}
use Rattle.std.specs.Global.{Vec}
use Rattle.std.specs.declared.ops.Range.{Range}
use Rattle.std.proofs.lemmas.Simd.{map-map}
use Rattle.lk_tables.specs.BindingView.{binding_view}
use Rattle.lk_tables.specs.Frames.{RecordList, list_view}
use Rattle.lk_tables.specs.TablesView.{files_of}
use Rattle.lk_tables.specs.declared.records.Record.{Record}
use Rattle.work_split.specs.Pieces.{Tiles}
use Rattle.work_split.proofs.RunsBeside.{joined_beside}
use Rattle.work_split.proofs.Tiling.{tiles_within}
use Rattle.eh_frame.specs.Owners.{owners_in}
use Rattle.eh_frame.proofs.RecordRuns.{part, viewed_beside, whole_part}
use Rattle.eh_frame.proofs.owners.find_owners.Goals as goal

pub over_shares-found-requires-clause-accepts : goal.over_shares-found-requires-clause-accepts
over_shares-found-requires-clause-accepts g c = λ κs bound w p lt at.
    let n = length c.args.lists.now in
    let P : List (Range ℕ) → Type 0 = λ ps. Tiles 0 n ps in
    let own = tiles_within 0 n c.as_slice.result.now w p (subst P (sym c.as_slice.ensures.value) c.in_ok-pieces.ensures.tiles) lt at in
    let some = own.some in
    (omega (arith, some), (own.end_in, c.requires.sections))

pub returns-in-Ok : goal.returns-in-Ok
returns-in-Ok g c =
    let lists = c.args.lists.now in
    let n = length lists in
    let items : Vec (Option ℕ) → List (Option ℕ) = λ list. list.items in
    let own : RecordList → List (Option ℕ) = owners_in (files_of c.args.tables.now) (binding_view c.args.binding.now) in
    let f : (ℕ × Vec Record) → List (Option ℕ) = λ list. own (list_view list) in
    let P : List (Range ℕ) → Type 0 = λ ps. Tiles 0 n ps in
    let Is : ℕ → ℕ → List (Vec (Option ℕ)) → Type 0 = λ a b owners. map items owners ≡ map f (part lists a b) in
    joined_beside Is (viewed_beside items f lists) _ n c.as_slice.result.now c.over_shares-found.result
    c.in-Ok.owners c.over_shares-found.ensures (λ p s h. h.1) (subst P (sym c.as_slice.ensures.value) c.in_ok-pieces.ensures.tiles) c.in-Ok.is
    ∙ ap (map f) (whole_part lists) ∙ sym (map-map own list_view lists)
