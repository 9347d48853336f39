use Rattle.std.proofs.Common.{◌≡◌, ℕ, length, get_or, subst, arith}
use Rattle.icf_part.specs.Classes.{AreItems, lists_of}
use Rattle.icf_part.proofs.EdgesInto.{items_first, items_next, list_set, lists_wide}
use Rattle.icf_part.proofs.classes.member_lists.Goals as goal

pub loop-a-init : goal.loop-a-init
loop-a-init c = items_first c.args.labels.now (lists_of c.in_ok-lists.lists.items) c.in_ok-lists.ensures

pub loop-a-preserved : goal.loop-a-preserved
loop-a-preserved c =
    let count = c.loop-a.invariant.count in
    items_next c.args.labels.now c.loop-a.a (lists_of c.loop-a.lists.items) _ c.loop-a.invariant
    (list_set c.loop-a.lists.items (get_or c.args.labels.now c.loop-a.a 0) c.loop-a.a c.index_mut.result.now c.push.new.self
    (omega (arith, count, lists_wide c.loop-a.lists.items, c.requires.within c.loop-a.a (omega arith))) c.index_mut.ensures.value c.in_ok-push.ensures.items)

pub returns : goal.returns
returns c =
    let all : c.loop-a.a ≡ length c.args.labels.now = omega arith in
    let P : ℕ → Type 0 = λ n. AreItems c.args.labels.now n (lists_of c.loop-a.lists.items) in
    subst P all c.loop-a.invariant
