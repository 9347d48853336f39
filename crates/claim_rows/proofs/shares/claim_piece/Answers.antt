use Rattle.std.proofs.Common.{ℕ, sym, ◌+◌, subst}
use Rattle.rank_claims.specs.Claims.{SeatView}
use Rattle.rank_claims.proofs.Sitting.{sits_claimed}
use Rattle.claim_rows.specs.Shares.{HasClaimedFrom}
use Rattle.claim_rows.proofs.Sharing.{HasClaimedFrom-more}
use Rattle.claim_rows.proofs.shares.claim_piece.Goals as goal

pub loop-i-preserved : goal.loop-i-preserved
loop-i-preserved c =
    let offers = c.args.offers.now in
    let start : ℕ = c.args.piece.start in
    let i : ℕ = c.loop-i.i in
    let P : SeatView → Type 0 = λ s. HasClaimedFrom offers start (i + 1) s.steps in record {
      seated = sits_claimed _ c.loop-i.seat _ _ c.claim.result c.loop-i.invariant.seated c.claim.ensures.step;
      claimed = subst P (sym c.claim.ensures.step) (HasClaimedFrom-more offers start i c.claim.result c.loop-i.seat.steps c.loop-i.invariant.claimed);
    }
