use Rattle.std.proofs.Common.{length, sym, subst}
use Rattle.std.specs.List.{All}
use Rattle.relax.proofs.PointSteps.{IsWithin, calls_within}
use Rattle.relax.proofs.jumps.jumps_of.Goals as goal

pub jump_of-requires-clause-from : goal.jump_of-requires-clause-from
jump_of-requires-clause-from c =
    let ms = c.args.members.now in
    let all = subst (All (IsWithin (length ms))) (sym c.items-calls.ensures) (calls_within ms c.args.rows.now c.requires.sound) in
    (all c.loop-k.k _ c.loop-k-test.true).from

pub jump_of-requires-clause-to : goal.jump_of-requires-clause-to
jump_of-requires-clause-to c =
    let ms = c.args.members.now in
    let all = subst (All (IsWithin (length ms))) (sym c.items-calls.ensures) (calls_within ms c.args.rows.now c.requires.sound) in
    (all c.loop-k.k _ c.loop-k-test.true).to
