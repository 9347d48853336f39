use Rattle.std.proofs.Common.{◌<◌, ◌∙◌, length, refl, arith}
use Rattle.std.proofs.lemmas.List.{append-nil, length-set}
use Rattle.str_merge.specs.Orders.{owns}
use Rattle.str_merge.proofs.RankSteps.{count_most, listed_more}
use Rattle.str_merge.proofs.orders.list_own.Goals as goal

pub loop-i-init : goal.loop-i-init
loop-i-init c = record { len = refl; most = omega arith; own = append-nil (owns c.args.numbers.now c.args.start) }

pub index_mut-requires : goal.index_mut-requires
index_mut-requires c =
    let len = c.loop-i.invariant.len in
    let most = c.loop-i.invariant.most in
    let room = c.requires.room in
    let whole = c.loop-i.own.ok.0 in
    omega (arith, len, most, room, whole)

pub count_own-count-requires : goal.count_own-count-requires
count_own-count-requires c =
    let most = c.loop-i.invariant.most in
    let within = c.requires.within in
    let few = c.requires.few in
    omega (arith, most, within, few)

pub loop-i-preserved : goal.loop-i-preserved
loop-i-preserved c =
    let ns = c.args.numbers.now in
    let len = c.loop-i.invariant.len in
    let most = c.loop-i.invariant.most in
    let room = c.requires.room in
    let there : c.loop-i.count < length c.loop-i.own.items = omega (arith, len, most, room) in
    record {
      len = length-set c.loop-i.own.items c.loop-i.count _ ∙ len;
      most = count_most ns c.args.start c.loop-i.i c.loop-i.count c.count_own-count.result most c.count_own-count.ensures;
      own = listed_more ns c.loop-i.own.items c.args.start c.loop-i.i c.loop-i.count c.count_own-count.result there c.loop-i.invariant.own c.count_own-count.ensures;
    }

pub returns-clause-most : goal.returns-clause-most
returns-clause-most c =
    let len = c.loop-i.invariant.len in
    let most = c.loop-i.invariant.most in
    let room = c.requires.room in
    let order = c.requires.order in
    omega (arith, len, most, room, order)
