use Rattle.std.proofs.Common.{List, Option, sym, subst}
use Rattle.link_sections.specs.declared.pieces.Piece.{Piece}
use Rattle.link_sections.specs.declared.pieces.PieceRows.{PieceRows}
use Rattle.link_sections.specs.Pools.{ArePiles, IsPile, piece_lists}
use Rattle.std.specs.Prelude.{slice_index_or}
use Rattle.link_sections.proofs.pools.Pools.pieces.Goals as goal

pub returns-in-Some-clause-piled : goal.returns-in-Some-clause-piled
returns-in-Some-clause-piled c = λ d lt.
    let pools = c.args.self.now.pools.items in
    let P : Option PieceRows → Type 0 = λ rows. ArePiles pools (piece_lists rows) in
    let all : ArePiles pools c.in-Some.rows.pieces = subst P c.in-Some.is c.args.self.now.piled in
    let Q : List Piece → Type 0 = λ pieces. IsPile (slice_index_or pools c.args.pool d) pieces in
    subst Q (sym c.row.ensures) (all c.args.pool d lt)
