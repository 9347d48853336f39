use Rattle.std.proofs.Common.{arith}
use Rattle.sec_gc.proofs.alone.search_from.Goals as goal

pub end_of_turn-end-requires : goal.end_of_turn-end-requires
end_of_turn-end-requires c = c.has_more.ensures c.turns-test.true

pub follow_to-requires-clause-wide : goal.follow_to-requires-clause-wide
follow_to-requires-clause-wide c = c.turns.invariant.tied.wide

pub turns-preserved : goal.turns-preserved
turns-preserved c = c.in_ok-follow_to.ensures.found c.args.roots.now c.turns.invariant

pub turns-smaller : goal.turns-smaller
turns-smaller c =
    let counted = c.turns.invariant.tied.counted in
    let less = c.has_more.ensures c.turns-test.true in
    let some = c.end_of_turn-end.ensures.some in
    let past = c.in_ok-follow_to.ensures.next in
    omega (arith, counted, less, some, past)
