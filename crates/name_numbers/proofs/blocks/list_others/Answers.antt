use Rattle.std.proofs.Common.{ℕ, ◌≡◌, ◌+◌, length, subst, arith}
use Rattle.name_numbers.specs.Placed.{AreOthers}
use Rattle.name_numbers.proofs.BlockTexts.{others_next, others_none}
use Rattle.name_numbers.proofs.blocks.list_others.Goals as goal

pub loop-n-init : goal.loop-n-init
loop-n-init c = others_none c.args.texts.now _ _ c.clear.ensures.items c.clear-2.ensures.items

pub loop-n-preserved : goal.loop-n-preserved
loop-n-preserved c =
    others_next c.args.texts.now c.loop-n.n c.number_met-number.result c.text.result c.loop-n.others.items c.push.new.self.items c.loop-n.list.items c.push-in-loop-n.new.self.items
    c.in_ok-push.ensures.items c.in_ok-push-2.ensures.items c.text.ensures c.loop-n.invariant

pub returns : goal.returns
returns c =
    let all : c.loop-n.n ≡ length c.args.near.now = omega arith in
    let P : ℕ → Type 0 = λ n. AreOthers c.args.texts.now n c.loop-n.others.items c.loop-n.list.items in
    subst P all c.loop-n.invariant
