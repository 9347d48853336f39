use Rattle.std.proofs.Common.{rules}
use Rattle.std.proofs.lemmas.List.Elements.{All-push, All-same}
use Rattle.rank_claims.specs.Claims.{SitsAt}
use Rattle.rank_claims.proofs.Sitting.{sits_split}
use Rattle.claim_rows.proofs.Sharing.{keeps-split, sits-newcomer}
use Rattle.claim_rows.proofs.shares.seats_for.Goals as goal

pub returns-in_err-push-clause-keeps : goal.returns-in_err-push-clause-keeps
returns-in_err-push-clause-keeps c = keeps-split c.args.seat.now.steps c.loop-worker.seat _ c.loop-worker.invariant.keeps c.split.ensures.step

pub loop-worker-preserved : goal.loop-worker-preserved
loop-worker-preserved c =
    let before = c.loop-worker.invariant in
    let new = sits-newcomer c.args.claims.now c.loop-worker.seat c.split.result before.sits c.split.ensures.split in record {
      sits = sits_split _ c.loop-worker.seat _ before.sits c.split.ensures.step;
      keeps = keeps-split c.args.seat.now.steps c.loop-worker.seat _ before.keeps c.split.ensures.step;
      count = search rules;
      seated = All-same (SitsAt c.args.claims.now) _ _ c.in_ok-push.ensures.items (All-push (SitsAt c.args.claims.now) c.loop-worker.seats.items c.split.result before.seated new);
    }
