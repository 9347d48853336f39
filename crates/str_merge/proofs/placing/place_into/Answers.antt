use Rattle.std.proofs.Common.{◌≡◌, ℕ, ◌+◌, ◌++◌, length, take, ap, subst, ◌∙◌, arith, rules}
use Rattle.str_merge.specs.Orders.{firsts, owns}
use Rattle.str_merge.specs.Placing.{IsPlaced}
use Rattle.str_merge.specs.Sites.{gathered, piece_lists}
use Rattle.str_merge.proofs.PlacedSteps.{placed_next, placed_none}
use Rattle.str_merge.proofs.Ranking.{own_within}
use Rattle.str_merge.proofs.RankSteps.{owns_few, owns_long}
use Rattle.str_merge.proofs.placing.place_into.Goals as goal

pub loop-done-init : goal.loop-done-init
loop-done-init c = record {
  within = omega arith;
  room = c.requires.room;
  place = search rules;
  placed = placed_none (gathered (piece_lists c.args.cuts.now) c.args.members.now) c.args.numbers.now c.args.align c.args.placed.now c.requires.none c.requires.start;
  most = omega (arith, c.requires.start);
}

pub list_own-count-requires-clause-room : goal.list_own-count-requires-clause-room
list_own-count-requires-clause-room c =
    let room = c.loop-done.invariant.room in
    let some = c.block_of.ensures.room in
    omega (arith, room, some)

pub list_own-count-requires-clause-within : goal.list_own-count-requires-clause-within
list_own-count-requires-clause-within c =
    let most = c.block_of.ensures.most in
    let within = c.loop-done.invariant.within in
    omega (arith, most, within)

pub head-requires : goal.head-requires
head-requires c =
    let most = c.list_own-count.ensures.most in
    let whole = ap length c.as_slice.ensures.value in
    omega (arith, most, whole)

pub place_more-requires-clause-within : goal.place_more-requires-clause-within
place_more-requires-clause-within c =
    let ns = c.args.numbers.now in
    let listed = c.head.ensures ∙ ap (take c.list_own-count.result) c.as_slice.ensures.value in
    let most = c.block_of.ensures.most in
    own_within ns c.head.result.now c.loop-done.done (c.loop-done.done + c.block_of.result) _
    (ap (λ l. owns ns c.loop-done.done ++ l) listed ∙ c.list_own-count.ensures.own) (omega (arith, most, c.requires.wide))

pub place_more-requires-clause-room : goal.place_more-requires-clause-room
place_more-requires-clause-room c =
    let ns = c.args.numbers.now in
    let end = c.loop-done.done + c.block_of.result in
    let listed = c.head.ensures ∙ ap (take c.list_own-count.result) c.as_slice.ensures.value in
    let long = owns_long ns c.head.result.now c.loop-done.done end (ap (λ l. owns ns c.loop-done.done ++ l) listed ∙ c.list_own-count.ensures.own) in
    let low = c.loop-done.invariant.most in
    let most = c.block_of.ensures.most in
    omega (arith, low, most, long, owns_few ns end, c.requires.few)

pub loop-done-preserved : goal.loop-done-preserved
loop-done-preserved c =
    let ns = c.args.numbers.now in
    let pieces = gathered (piece_lists c.args.cuts.now) c.args.members.now in
    let end = c.loop-done.done + c.block_of.result in
    let listed = c.head.ensures ∙ ap (take c.list_own-count.result) c.as_slice.ensures.value in
    let both : owns ns c.loop-done.done ++ c.head.result.now ≡ owns ns end = ap (λ l. owns ns c.loop-done.done ++ l) listed ∙ c.list_own-count.ensures.own in
    let low = c.loop-done.invariant.most in
    let most = c.block_of.ensures.most in
    let more = c.in_ok-place_more.ensures.most in
    record {
      within = omega (arith, most);
      room = c.list_own-count.ensures.len ∙ c.loop-done.invariant.room;
      place = c.in_ok-place_more.ensures.place;
      placed = placed_next pieces ns c.head.result.now c.loop-done.done end c.args.align c.loop-done.placed c.place_more.new.placed both
          c.loop-done.invariant.placed c.in_ok-place_more.ensures.placed;
      most = omega (arith, low, more, owns_long ns c.head.result.now c.loop-done.done end both);
    }

pub returns : goal.returns
unfolding firsts
returns c =
    let high = c.loop-done.invariant.within in
    let low = c.loop-done-test.false in
    let P : ℕ → Type 0 = λ n. IsPlaced (gathered (piece_lists c.args.cuts.now) c.args.members.now) (owns c.args.numbers.now n) c.args.align c.loop-done.placed in
    subst P (omega (arith, high, low)) c.loop-done.invariant.placed
