use Rattle.std.proofs.Common.{◌≡◌, All, vec_len}
use Rattle.rank_claims.specs.Claims.{SitsAt}
use Rattle.claim_rows.specs.Shares.{KeepsClaims}
use Rattle.claim_rows.proofs.shares.seats_for.Given as goal

abbrev pub invariant-loop-worker : goal.invariant-loop-worker
invariant-loop-worker l = record {
  sits : SitsAt l.claims l.seat;
  keeps : KeepsClaims l.fn.seat.steps l.seat.steps;
  count : vec_len l.seats ≡ l.worker;
  seated : All (SitsAt l.claims) l.seats.items;
}
