use Rattle.claim_rows.specs.Shares.{HasClaimedFrom}
use Rattle.rank_claims.specs.Claims.{SitsAt}
use Rattle.claim_rows.proofs.shares.claim_piece.Given as goal

abbrev pub invariant-loop-i : goal.invariant-loop-i
invariant-loop-i l = record {
  seated : SitsAt l.claims l.seat;
  claimed : HasClaimedFrom l.offers l.fn.piece.start l.i l.seat.steps;
}
