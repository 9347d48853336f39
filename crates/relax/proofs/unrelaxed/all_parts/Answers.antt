use Rattle.std.proofs.Common.{ℕ, List, length, flat_map, arith}
use Rattle.lk_tables.specs.TablesView.{files_of}
use Rattle.link_sections.specs.declared.cuts.Cut.{Cut as HeldCut}
use Rattle.work_split.proofs.RunsBeside.{joined_beside}
use Rattle.work_split.proofs.Tiling.{tiles_within}
use Rattle.relax.specs.Unrelaxed.{AreUnrelaxed}
use Rattle.relax.proofs.UnrelaxedParts.{parts_beside}
use Rattle.relax.proofs.unrelaxed.all_parts.Goals as goal

pub over_shares-found-requires-clause-accepts : goal.over_shares-found-requires-clause-accepts
over_shares-found-requires-clause-accepts g c = λ κs within w p lt at.
    let own = tiles_within 0 (length (files_of c.args.tables.now)) c.args.pieces.now w p c.requires.tiles lt at in
    let some = own.some in
    (omega (arith, some), own.end_in)

pub returns-in-Ok : goal.returns-in-Ok
returns-in-Ok g c =
    let files = files_of c.args.tables.now in
    let Is : ℕ → ℕ → List (List (List HeldCut)) → Type 0 = λ a b parts. AreUnrelaxed files a b (flat_map (λ part. part) parts) in
    joined_beside Is (parts_beside files) _ (length files) c.args.pieces.now c.over_shares-found.result
    c.in-Ok.parts c.over_shares-found.ensures (λ p s h. h.1) c.requires.tiles c.in-Ok.is
