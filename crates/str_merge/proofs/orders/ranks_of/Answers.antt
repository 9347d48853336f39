use Rattle.std.proofs.Common.{ap, ◌∙◌, arith, ◌+◌, ◌++◌, [], ◌∷◌, length, get_or, set, rules}
use Rattle.std.proofs.lemmas.List.{length-append}
use Rattle.lk_base.proofs.Loops.{map_step}
use Rattle.str_merge.specs.Orders.{owns, rank}
use Rattle.str_merge.proofs.RankSteps.{counted_more, owns_few, rank_written, written_last}
use Rattle.str_merge.proofs.orders.ranks_of.Goals as goal

pub narrow-requires : goal.narrow-requires
narrow-requires c = omega (arith, c.requires, c.loop-i.invariant.count, owns_few c.args.numbers.now c.loop-i.i)

pub count_own-count-requires : goal.count_own-count-requires
count_own-count-requires c = omega (arith, c.requires, c.loop-i.invariant.count, owns_few c.args.numbers.now c.loop-i.i)

pub index_mut-requires : goal.index_mut-requires
index_mut-requires c =
    let wide = c.loop-i.invariant.len in
    let pushed = ap length c.in_ok-push.ensures.items ∙ length-append c.loop-i.ranks.items _ in
    let whole = c.push.new.self.ok.0 in
    omega (arith, wide, pushed, whole)

pub loop-i-init : goal.loop-i-init
unfolding owns
loop-i-init c = record { len = search rules; ranks = λ first. search rules; count = search rules }

pub loop-i-preserved : goal.loop-i-preserved
loop-i-preserved c =
    let ns = c.args.numbers.now in
    let i = c.loop-i.i in
    let old = c.loop-i.ranks.items in
    let count = c.loop-i.count in
    let wide = c.loop-i.invariant.len in
    let r = c.rank_at-rank.result in
    let push = c.in_ok-push.ensures.items ∙ ap (λ n. old ++ n ∷ []) c.narrow.ensures in
    let written = written_last old c.push.new.self.items i count r wide push in
    record {
      len = ap length written ∙ length-append old _ ∙ ap (λ n. n + 1) wide;
      ranks = λ first. map_step (rank ns) i old (set c.push.new.self.items i r) (c.loop-i.invariant.ranks first)
          (written ∙ ap (λ n. old ++ n ∷ []) (rank_written ns old c.push.new.self.items i count r first (omega arith) wide (c.loop-i.invariant.ranks first) c.loop-i.invariant.count push
          (c.rank_at-rank.ensures ∙ ap (λ l. get_or l (get_or ns i 0) 0) c.as_slice.ensures.value)));
      count = counted_more ns i count c.count_own-count.result c.loop-i.invariant.count c.count_own-count.ensures;
    }
