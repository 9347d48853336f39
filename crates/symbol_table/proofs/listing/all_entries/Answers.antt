use Rattle.std.proofs.Common.{ℕ, List, length, subst, sym}
use Rattle.std.specs.declared.ops.Range.{Range}
use Rattle.link_sections.specs.Views.{binding_in, files_in, laid_in, leaders_in}
use Rattle.work_split.specs.Pieces.{Tiles}
use Rattle.work_split.proofs.RunsJoined.{piece_within}
use Rattle.symbol_table.specs.NamedViews.{named_view}
use Rattle.symbol_table.specs.SymbolTable.{all_entries, entries_in}
use Rattle.symbol_table.proofs.ViewsJoined.{joined_views}
use Rattle.symbol_table.proofs.listing.all_entries.Goals as goal

pub over_shares-found-requires-clause-accepts : goal.over_shares-found-requires-clause-accepts
over_shares-found-requires-clause-accepts g c = λ κs within w p lt at.
    let n = length (files_in c.args.view.now) in
    let P : List (Range ℕ) → Type 0 = λ ps. Tiles 0 n ps in
    (c.requires.noted, piece_within n c.as_slice.result.now w p (subst P (sym c.as_slice.ensures.value) c.in_ok-pieces.ensures.tiles) lt at)

pub returns-in-Ok : goal.returns-in-Ok
unfolding all_entries
returns-in-Ok g c =
    let v = c.args.view.now in
    let files = files_in v in
    let P : List (Range ℕ) → Type 0 = λ ps. Tiles 0 (length files) ps in
    joined_views named_view (entries_in files (binding_in v) v.kept.now (leaders_in v) (laid_in v)) _ (length files) c.as_slice.result.now c.over_shares-found.result
    c.in-Ok.list c.over_shares-found.ensures (λ p s h. h.1) (subst P (sym c.as_slice.ensures.value) c.in_ok-pieces.ensures.tiles) c.in-Ok.is
