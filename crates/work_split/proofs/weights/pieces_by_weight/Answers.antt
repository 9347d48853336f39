use Rattle.std.proofs.Common.{◌≡◌, ℕ, length, arith, refl, subst}
use Rattle.work_split.proofs.Weighing.{IsWeighing, all_tiles, ends_here, goes_on_below, goes_on_last, heavier, last_even, last_tiles}
use Rattle.work_split.proofs.weights.pieces_by_weight.Goals.{then-left-gt1+then-share-weight+in_ok-push, else-left-gt1, else-left-gt1-via-then-left-gt1+else-share-weight, else-left-gt1-via-else-left-gt1, then-start-weights+in_ok-push-2, else-start-weights}
use Rattle.work_split.proofs.weights.pieces_by_weight.Goals as goal

pub overflow_add-weight : goal.overflow_add-weight
overflow_add-weight c =
    let fits = c.loop-index.auto.rest-fits in
    let less = heavier _ _ _ _ _ _ _ _ _ c.loop-index-test.true c.loop-index.invariant in
    omega arith

pub overflow_sub-rest : goal.overflow_sub-rest
overflow_sub-rest c = heavier _ _ _ _ _ _ _ _ _ c.loop-index-test.true c.loop-index.invariant

pub loop-index-preserved : goal.loop-index-preserved
loop-index-preserved c =
    let now = c.loop-index.invariant in
    let lt = c.loop-index-test.true in
    elim c.if-left-gt1.branch [
      | then-left-gt1+then-share-weight+in_ok-push w ↦
          rw w.pieces-is (rw w.left-is (rw w.rest-is (rw w.share-is (rw w.start-is (rw w.weight-is (rw w.in_ok-push.ensures.items
          (ends_here _ _ _ _ _ _ _ _ _ lt now _ _ _ w.if-left-gt1.true w.if-share-weight.true refl refl w.div_ceil-share-then-share-weight.ensures)))))))
      | else-left-gt1 w ↦ elim w.else-left-gt1.branch [
        | else-left-gt1-via-then-left-gt1+else-share-weight v ↦
            rw w.pieces-is (rw w.left-is (rw w.rest-is (rw w.share-is (rw w.start-is (rw w.weight-is (goes_on_below _ _ _ _ _ _ _ _ _ lt now v.if-share-weight.false))))))
        | else-left-gt1-via-else-left-gt1 v ↦
            rw w.pieces-is (rw w.left-is (rw w.rest-is (rw w.share-is (rw w.start-is (rw w.weight-is (goes_on_last _ _ _ _ _ _ _ _ _ lt now v.if-left-gt1.false))))))
      ]
    ]

pub returns-clause-tiles : goal.returns-clause-tiles
returns-clause-tiles c =
    let l = c.loop-index in
    let past = c.loop-index-test.false in
    let within = c.loop-index.auto.index-end in
    let same : l.index ≡ length c.args.weights.now = omega arith in
    let P : ℕ → Type 0 = λ k. IsWeighing c.args.weights.now c.args.workers l.start k l.left l.rest l.share l.weight l.pieces.items in
    let now = subst P same l.invariant in
    elim c.if-start-weights.branch [
      | then-start-weights+in_ok-push-2 w ↦ rw w.pieces-is (rw w.in_ok-push-2.ensures.items (last_tiles _ _ _ _ _ _ _ _ now w.if-start-weights.true))
      | else-start-weights w ↦ rw w.pieces-is (all_tiles _ _ _ _ _ _ _ _ now w.if-start-weights.false)
    ]

pub returns-clause-even : goal.returns-clause-even
returns-clause-even c =
    let l = c.loop-index in
    let past = c.loop-index-test.false in
    let within = c.loop-index.auto.index-end in
    let same : l.index ≡ length c.args.weights.now = omega arith in
    let P : ℕ → Type 0 = λ k. IsWeighing c.args.weights.now c.args.workers l.start k l.left l.rest l.share l.weight l.pieces.items in
    let now = subst P same l.invariant in
    elim c.if-start-weights.branch [
      | then-start-weights+in_ok-push-2 w ↦ rw w.pieces-is (rw w.in_ok-push-2.ensures.items (last_even _ _ _ _ _ _ _ _ now w.if-start-weights.true))
      | else-start-weights w ↦ rw w.pieces-is now.even
    ]
