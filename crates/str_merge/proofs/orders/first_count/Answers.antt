use Rattle.std.proofs.Common.{length, ap, ◌∙◌, arith, rules}
use Rattle.str_merge.specs.Orders.{firsts, owns}
use Rattle.str_merge.proofs.RankSteps.{counted_more, owns_few}
use Rattle.str_merge.proofs.orders.first_count.Goals as goal

pub count_own-count-requires : goal.count_own-count-requires
count_own-count-requires c = omega (arith, c.requires, c.loop-i.invariant, owns_few c.args.numbers.now c.loop-i.i)

pub loop-i-init : goal.loop-i-init
unfolding owns
loop-i-init c = search rules

pub loop-i-preserved : goal.loop-i-preserved
loop-i-preserved c = counted_more c.args.numbers.now c.loop-i.i c.loop-i.count c.count_own-count.result c.loop-i.invariant c.count_own-count.ensures

pub returns : goal.returns
unfolding firsts
returns c = c.loop-i.invariant ∙ ap (λ n. length (owns c.args.numbers.now n)) (omega arith)
