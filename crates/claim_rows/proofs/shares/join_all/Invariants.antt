use Rattle.std.proofs.Common.{◌≡◌, ◌++◌, All}
use Rattle.std.specs.Vec.Iter.{into_iter_items}
use Rattle.claim_rows.specs.Shares.{KeepsClaims}
use Rattle.rank_claims.specs.Claims.{SitsAt}
use Rattle.claim_rows.proofs.shares.join_all.Given as goal

abbrev pub invariant-loop-other : goal.invariant-loop-other
invariant-loop-other l =
    goal.iterator-loop-other.can_next l.other-iterator
    × goal.iterator-loop-other.is_finite l.other-iterator
    × (l.yielded ++ into_iter_items l.other-iterator ≡ l.fn.others.items)
    × SitsAt l.claims l.seat
    × KeepsClaims l.fn.seat.steps l.seat.steps
    × All (λ other. KeepsClaims other.steps l.seat.steps) l.yielded
