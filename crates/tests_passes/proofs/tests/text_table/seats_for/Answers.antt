use Rattle.std.proofs.Common.{rules}
use Rattle.std.proofs.lemmas.List.Elements.{All-push, All-same}
use Rattle.intern_race.specs.Interning.{SitsAt}
use Rattle.intern_race.proofs.Sitting.{sits_newcomer, sits_split}
use Rattle.tests_passes.proofs.tests.text_table.seats_for.Goals as goal

pub loop-worker-preserved : goal.loop-worker-preserved
loop-worker-preserved c =
    let t = c.args.interner.now in
    let before = c.loop-worker.invariant in
    let new = sits_newcomer t c.loop-worker.seat c.split.result before.sits c.split.ensures.split in record {
      sits = sits_split t c.loop-worker.seat _ before.sits c.split.ensures.step;
      count = search rules;
      seated = All-same (SitsAt t) _ _ c.in_ok-push.ensures.items (All-push (SitsAt t) c.loop-worker.seats.items c.split.result before.seated new);
    }
