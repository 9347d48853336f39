use Rattle.std.proofs.Common.{◌≡◌, ℕ, List, [], sym, subst}
use Rattle.std.specs.declared.ops.Range.{Range}
use Rattle.work_split.specs.Pieces.{Tiles}
use Rattle.work_split.proofs.Sharing.{joined_share}
use Rattle.work_split.proofs.tests.numbers.Goals as goal

pub returns : goal.returns
returns g c =
    let Tile : List (Range ℕ) → Type 0 = Tiles 0 c.args.len in
    let tiles : Tile c.as_slice.result.now = subst Tile (sym c.as_slice.ensures.value) c.in_ok-cuts.ensures.tiles in
    joined_share (λ _. []) (λ n x. x ≡ n) _ 0 c.args.len c.as_slice.result.now c.over_shares.result (λ p share given. given.1) tiles c.over_shares.ensures
