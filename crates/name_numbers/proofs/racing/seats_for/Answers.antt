use Rattle.std.proofs.Common.{rules}
use Rattle.std.proofs.lemmas.List.Elements.{All-push, All-same}
use Rattle.intern_race.proofs.Sitting.{sits_split}
use Rattle.name_numbers.specs.Placed.{Knows}
use Rattle.name_numbers.proofs.Placing.{knows_newcomer, same_split}
use Rattle.name_numbers.proofs.racing.seats_for.Goals as goal

pub returns-in_err-push-clause-same : goal.returns-in_err-push-clause-same
returns-in_err-push-clause-same c = same_split c.args.seat.now.placed c.loop-worker.seat _ c.loop-worker.invariant.same c.split.ensures.step

pub loop-worker-preserved : goal.loop-worker-preserved
loop-worker-preserved c =
    let t = c.args.table.now in
    let placed = c.args.seat.now.placed in
    let before = c.loop-worker.invariant in
    let new = knows_newcomer t placed c.loop-worker.seat c.split.result before.sits before.same c.split.ensures.split in record {
      sits = sits_split t c.loop-worker.seat _ before.sits c.split.ensures.step;
      same = same_split placed c.loop-worker.seat _ before.same c.split.ensures.step;
      count = search rules;
      seated = All-same (Knows t placed) _ _ c.in_ok-push.ensures.items (All-push (Knows t placed) c.loop-worker.seats.items c.split.result before.seated new);
    }
