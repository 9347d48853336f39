use Rattle.std.proofs.Common.{◌≡◌, ℕ, List, length, map, sym, ap, ◌∙◌, subst, arith}
use Rattle.std.specs.declared.ops.Range.{Range}
use Rattle.lk_tables.specs.Frames.{lists_of}
use Rattle.link_sections.specs.Views.{binding_in, files_in, laid_in, leaders_in}
use Rattle.work_split.specs.Pieces.{Tiles}
use Rattle.work_split.proofs.RunsBeside.{joined_beside}
use Rattle.work_split.proofs.Tiling.{tiles_within}
use Rattle.eh_frame.specs.declared.header.Row.{Row}
use Rattle.eh_frame.specs.declared.placing.Placed.{Placed}
use Rattle.eh_frame.specs.Header.{row_of}
use Rattle.eh_frame.proofs.RecordRuns.{mapped_beside, part, whole_part}
use Rattle.eh_frame.proofs.header.all_rows.Goals as goal

pub over_shares-listed-requires-clause-accepts : goal.over_shares-listed-requires-clause-accepts
over_shares-listed-requires-clause-accepts g c = λ κs bound w p lt at.
    let n = length c.args.fdes.now in
    let P : List (Range ℕ) → Type 0 = λ ps. Tiles 0 n ps in
    let own = tiles_within 0 n c.as_slice.result.now w p (subst P (sym c.as_slice.ensures.value) c.in_ok-pieces.ensures.tiles) lt at in
    let some = own.some in
    (omega (arith, some), (own.end_in, (c.requires.order, c.requires.known)))

pub returns-in-Ok : goal.returns-in-Ok
returns-in-Ok g c =
    let row : Placed → Row = row_of (files_in c.args.view.now) (binding_in c.args.view.now) (leaders_in c.args.view.now) (laid_in c.args.view.now) (lists_of c.args.frames.now) c.args.starts.header c.args.starts.frames in
    let fdes = c.args.fdes.now in
    let n = length fdes in
    let P : List (Range ℕ) → Type 0 = λ ps. Tiles 0 n ps in
    let Is : ℕ → ℕ → List Row → Type 0 = λ a b rows. rows ≡ map row (part fdes a b) in
    joined_beside Is (mapped_beside row fdes) _ n c.as_slice.result.now c.over_shares-listed.result
    c.in-Ok.rows c.over_shares-listed.ensures (λ p s h. h.1) (subst P (sym c.as_slice.ensures.value) c.in_ok-pieces.ensures.tiles) c.in-Ok.is
    ∙ ap (map row) (whole_part fdes)
