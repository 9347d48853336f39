use Rattle.std.proofs.Common.{◌≡◌, ℕ, length, get_or, subst, arith}
use Rattle.icf_part.specs.Classes.{AreAdded, lists_of, word}
use Rattle.icf_part.proofs.EdgesInto.{added_first, added_next, list_set, lists_wide}
use Rattle.icf_part.proofs.incoming.push_edges.Goals as goal

pub loop-k-init : goal.loop-k-init
loop-k-init c = added_first c.args.row.now c.args.a (lists_of c.args.into.now.items)

pub loop-k-preserved : goal.loop-k-preserved
loop-k-preserved c =
    let wide = c.loop-k.invariant.wide in
    added_next c.args.row.now c.loop-k.k c.args.a (lists_of c.args.into.now.items) (lists_of c.loop-k.into.items) _ c.loop-k.invariant
    (list_set c.loop-k.into.items (get_or c.args.row.now c.loop-k.k 0) (word c.loop-k.k c.args.a) c.index_mut.result.now c.push.new.self
    (omega (arith, wide, lists_wide c.loop-k.into.items, lists_wide c.args.into.now.items, c.requires.within c.loop-k.k (omega arith))) c.index_mut.ensures.value c.in_ok-push.ensures.items)

pub returns : goal.returns
returns c =
    let all : c.loop-k.k ≡ length c.args.row.now = omega arith in
    let P : ℕ → Type 0 = λ n. AreAdded c.args.row.now n c.args.a (lists_of c.args.into.now.items) (lists_of c.loop-k.into.items) in
    subst P all c.loop-k.invariant
