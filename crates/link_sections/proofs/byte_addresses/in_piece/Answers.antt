use Rattle.std.proofs.Common.{rules, ◌≡◌, ℕ, ◌+◌, ◌∙◌, ap, pos, List, slice_index}
use Rattle.link_sections.specs.Addresses.{piece_address}
use Rattle.link_sections.specs.LaidOut.{layout_view, with_contents}
use Rattle.link_sections.specs.PoolViews.{piece_rows, pools_view}
use Rattle.link_sections.specs.Links.{link_files, link_laid}
use Rattle.link_sections.proofs.PoolPositions.{position_is}
use Rattle.link_sections.proofs.byte_addresses.in_piece.Goals as goal

pub returns-clause-value : goal.returns-clause-value
unfolding piece_address with_contents layout_view pools_view
returns-clause-value c =
    let link = c.args.link.now in
    let at = c.position_of.ensures ∙ position_is (link_files link) link.pools.now.pools.items (piece_rows link.pools.now) c.args.pool c.args.piece in
    let same : pos (c.number_at-start.result + c.position_of.result + c.args.offset) ≡ pos (piece_address (link_laid link) c.args.pool c.args.piece c.args.offset) =
    ap (λ n. pos (n + c.position_of.result + c.args.offset)) (c.number_at-start.ensures ∙ ap (λ (xs : List ℕ). slice_index xs c.args.pool) c.as_slice.ensures.value) ∙ ap (λ n. pos (slice_index link.layout.now.pools.items c.args.pool + n + c.args.offset)) at in
    search (rules, same)
