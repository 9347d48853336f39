use Rattle.std.proofs.Common.{◌++◌, length, take, ap, ◌∙◌, arith, rules}
use Rattle.str_merge.specs.Orders.{firsts, owns}
use Rattle.str_merge.proofs.orders.firsts_of.Goals as goal

pub loop-done-init : goal.loop-done-init
unfolding owns
loop-done-init c = record { within = omega arith; room = c.in_ok-own.ensures; firsts = search rules }

pub list_own-count-requires-clause-room : goal.list_own-count-requires-clause-room
list_own-count-requires-clause-room c =
    let room = c.loop-done.invariant.room in
    let some = c.block_of.ensures.room in
    omega (arith, room, some)

pub list_own-count-requires-clause-within : goal.list_own-count-requires-clause-within
list_own-count-requires-clause-within c =
    let most = c.block_of.ensures.most in
    let within = c.loop-done.invariant.within in
    omega (arith, most, within)

pub head-requires : goal.head-requires
head-requires c =
    let most = c.list_own-count.ensures.most in
    let whole = ap length c.as_slice.ensures.value in
    omega (arith, most, whole)

pub loop-done-preserved : goal.loop-done-preserved
loop-done-preserved c =
    let ns = c.args.numbers.now in
    let most = c.block_of.ensures.most in
    record {
      within = omega (arith, most);
      room = c.list_own-count.ensures.len ∙ c.loop-done.invariant.room;
      firsts = c.in_ok-extend_from_slice.ensures.items
          ∙ ap (λ l. l ++ c.head.result.now) c.loop-done.invariant.firsts
          ∙ ap (λ l. owns ns c.loop-done.done ++ l) (c.head.ensures ∙ ap (take c.list_own-count.result) c.as_slice.ensures.value)
          ∙ c.list_own-count.ensures.own;
    }

pub returns : goal.returns
unfolding firsts
returns c =
    let high = c.loop-done.invariant.within in
    let low = c.loop-done-test.false in
    c.loop-done.invariant.firsts ∙ ap (owns c.args.numbers.now) (omega (arith, high, low))
