use Rattle.std.proofs.Common.{ℕ, List, ◌∙◌, ap, arith, flat_map, subst, sym}
use Rattle.std.specs.List.{range_with_len}
use Rattle.std.specs.declared.ops.Range.{Range}
use Rattle.work_split.specs.Pieces.{Tiles}
use Rattle.work_split.proofs.RunsJoined.{joined_run, piece_within}
use Rattle.link_sections.specs.Links.{link_files}
use Rattle.symbol_addresses.specs.Prevailing.{own_address, own_at}
use Rattle.symbol_addresses.proofs.NumberRuns.{all_numbers}
use Rattle.symbol_addresses.proofs.addresses.find_own.Goals as goal

pub over_shares-found-requires-clause-accepts : goal.over_shares-found-requires-clause-accepts
over_shares-found-requires-clause-accepts g c = λ κs within w p lt at.
    let n = c.symbol_count.result in
    let P : List (Range ℕ) → Type 0 = λ ps. Tiles 0 n ps in
    let ends = piece_within n c.as_slice.result.now w p (subst P (sym c.as_slice.ensures.value) c.in_ok-pieces.ensures.tiles) lt at in
    omega (arith, ends, c.symbol_count.ensures)

pub returns-in-Ok : goal.returns-in-Ok
returns-in-Ok g c =
    let link = c.args.sources.now.link in
    let n = c.symbol_count.result in
    let P : List (Range ℕ) → Type 0 = λ ps. Tiles 0 n ps in
    joined_run (own_at link) _ n c.as_slice.result.now c.over_shares-found.result
    c.in-Ok.list c.over_shares-found.ensures (λ p s h. h.1) (subst P (sym c.as_slice.ensures.value) c.in_ok-pieces.ensures.tiles) c.in-Ok.is
    ∙ ap (λ k. flat_map (own_at link) (range_with_len 0 k)) c.symbol_count.ensures ∙ all_numbers (link_files link) (own_address link) 0
