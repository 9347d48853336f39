use Rattle.std.proofs.Common.{ℕ, List, flat_map, arith}
use Rattle.lk_tables.specs.Files.{section_total}
use Rattle.lk_tables.specs.TablesView.{files_of}
use Rattle.link_sections.specs.declared.cuts.Cut.{Cut as HeldCut}
use Rattle.work_split.proofs.RunsBeside.{joined_beside}
use Rattle.work_split.proofs.Tiling.{tiles_within}
use Rattle.relax.specs.CutRows.{AreCutRows}
use Rattle.relax.proofs.CutParts.{cuts_beside}
use Rattle.relax.proofs.keeping.all_parts.Goals as goal

pub over_shares-found-requires-clause-accepts : goal.over_shares-found-requires-clause-accepts
over_shares-found-requires-clause-accepts g c = λ κs within w p lt at.
    let own = tiles_within 0 (section_total (files_of c.args.scene.now.tables.now)) c.args.pieces.now w p c.requires.tiles lt at in
    let some = own.some in
    (c.requires.sound, (c.requires.marks, (c.requires.sizes, (c.requires.count, (omega (arith, some), own.end_in)))))

pub returns-in-Ok : goal.returns-in-Ok
returns-in-Ok g c =
    let s = c.args.scene.now in
    let files = files_of s.tables.now in
    let Is : ℕ → ℕ → List (List (List HeldCut)) → Type 0 = λ a b parts. AreCutRows files s.members.now c.args.calls.now c.args.sizes.now a b (flat_map (λ part. part) parts) in
    joined_beside Is (cuts_beside files s.members.now c.args.calls.now c.args.sizes.now) _ (section_total files) c.args.pieces.now c.over_shares-found.result
    c.in-Ok.parts c.over_shares-found.ensures (λ p s h. h.1) c.requires.tiles c.in-Ok.is
