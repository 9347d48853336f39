use Rattle.std.proofs.Common.{ℕ, List, length, sym, subst}
use Rattle.std.specs.declared.ops.Range.{Range}
use Rattle.lk_tables.specs.Frames.{lists_of}
use Rattle.link_sections.specs.Views.{binding_in, files_in, laid_in, leaders_in}
use Rattle.work_split.specs.Pieces.{Tiles}
use Rattle.work_split.proofs.RunsJoined.{joined_run}
use Rattle.work_split.proofs.Tiling.{tiles_within}
use Rattle.eh_frame.specs.Shares.{bytes_at}
use Rattle.eh_frame.proofs.SharedBytes.{all_bytes}
use Rattle.eh_frame.proofs.contents.records_bytes.Goals as goal

pub over_shares-made-requires-clause-accepts : goal.over_shares-made-requires-clause-accepts
over_shares-made-requires-clause-accepts g c = λ κs bound w p lt at.
    let n = length c.args.fdes.now in
    let P : List (Range ℕ) → Type 0 = λ ps. Tiles 0 n ps in
    let own = tiles_within 0 n c.as_slice.result.now w p (subst P (sym c.as_slice.ensures.value) c.in_ok-pieces.ensures.tiles) lt at in
    (own.some, (own.end_in, (c.requires.order, (c.requires.known_cies, (c.requires.known_fdes, c.requires.count)))))

pub returns-in-Ok : goal.returns-in-Ok
returns-in-Ok g c =
    let files = files_in c.args.view.now in
    let b = binding_in c.args.view.now in
    let leaders = leaders_in c.args.view.now in
    let laid = laid_in c.args.view.now in
    let lists = lists_of c.args.frames.now in
    let cies = c.args.cies.now in
    let fdes = c.args.fdes.now in
    let uses = c.args.uses.now in
    let n = length fdes in
    let P : List (Range ℕ) → Type 0 = λ ps. Tiles 0 n ps in
    all_bytes files b leaders laid lists c.args.start cies fdes uses c.in-Ok.out.items c.requires.first c.requires.count
    (joined_run (bytes_at files b leaders laid lists c.args.start cies fdes uses) _ n c.as_slice.result.now c.over_shares-made.result
    c.in-Ok.out c.over_shares-made.ensures (λ p s h. h.1) (subst P (sym c.as_slice.ensures.value) c.in_ok-pieces.ensures.tiles) c.in-Ok.is)
