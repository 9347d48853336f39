use Rattle.std.proofs.Common.{rules}
use Rattle.std.proofs.lemmas.List.Elements.{All-push, All-same}
use Rattle.sec_gc.specs.declared.stealing.Share.{Share}
use Rattle.sec_gc.specs.Marks.{SitsAt}
use Rattle.sec_gc.proofs.Sitting.{sits_newcomer, sits_split}
use Rattle.sec_gc.proofs.Rounds.{keeps_split}
use Rattle.sec_gc.proofs.stealing.shares_for.Goals as goal

pub loop-worker-preserved : goal.loop-worker-preserved
loop-worker-preserved c =
    let before = c.loop-worker.invariant in
    let new = sits_newcomer c.args.marks.now c.loop-worker.seat c.split.result before.sits c.split.ensures.split in
    let Sits : Share → Type 0 = λ s. SitsAt c.args.marks.now s.seat in record {
      sits = sits_split _ c.loop-worker.seat _ before.sits c.split.ensures.step;
      keeps = keeps_split c.args.seat.now.seen c.loop-worker.seat _ before.keeps c.split.ensures.step;
      count = search rules;
      seated = All-same Sits _ _ c.in_ok-push-2.ensures.items (All-push Sits c.loop-worker.shares.items _ before.seated new);
    }

pub returns-in_err-push-2-clause-keeps : goal.returns-in_err-push-2-clause-keeps
returns-in_err-push-2-clause-keeps c = keeps_split c.args.seat.now.seen c.loop-worker.seat _ c.loop-worker.invariant.keeps c.split.ensures.step
