use Rattle.std.proofs.Common.{◌≡◌, ℕ, List, [], flat_map, length, sym, ap, ◌∙◌, subst, arith}
use Rattle.std.specs.declared.ops.Range.{Range}
use Rattle.lk_base.specs.declared.defects.Defect.{Defect}
use Rattle.lk_tables.specs.Frames.{lists_of}
use Rattle.link_sections.specs.Views.{binding_in, files_in, laid_in, leaders_in}
use Rattle.work_split.specs.Pieces.{Tiles}
use Rattle.work_split.proofs.RunsBeside.{joined_beside}
use Rattle.work_split.proofs.Tiling.{tiles_within}
use Rattle.eh_frame.specs.declared.placing.Placed.{Placed}
use Rattle.eh_frame.specs.Bytes.{placed_defects}
use Rattle.eh_frame.proofs.RecordRuns.{clear_beside, part, whole_part}
use Rattle.eh_frame.proofs.checking.all_fit.Goals as goal

pub over_shares-checked-requires-clause-accepts : goal.over_shares-checked-requires-clause-accepts
over_shares-checked-requires-clause-accepts g c = λ κs bound w p lt at.
    let n = length c.args.placed.now in
    let P : List (Range ℕ) → Type 0 = λ ps. Tiles 0 n ps in
    let own = tiles_within 0 n c.as_slice.result.now w p (subst P (sym c.as_slice.ensures.value) c.in_ok-pieces.ensures.tiles) lt at in
    let some = own.some in
    (omega (arith, some), (own.end_in, (c.requires.order, c.requires.known)))

pub returns-in-Ok : goal.returns-in-Ok
returns-in-Ok g c = λ fit.
    let f : Placed → List Defect = placed_defects (files_in c.args.view.now) (binding_in c.args.view.now) (leaders_in c.args.view.now) (laid_in c.args.view.now) (lists_of c.args.frames.now) c.args.start in
    let placed = c.args.placed.now in
    let n = length placed in
    let P : List (Range ℕ) → Type 0 = λ ps. Tiles 0 n ps in
    let Is : ℕ → ℕ → List (Unit {0}) → Type 0 = λ a b done. flat_map f (part placed a b) ≡ [] in
    ap (flat_map f) (sym (whole_part placed))
    ∙ joined_beside Is (clear_beside f placed) _ n c.as_slice.result.now c.over_shares-checked.result
    _ c.over_shares-checked.ensures (λ p s h. h.1) (subst P (sym c.as_slice.ensures.value) c.in_ok-pieces.ensures.tiles) c.in-Ok.is
