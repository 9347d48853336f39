use Rattle.std.proofs.Common.{◌≡◌, ℕ, length, subst, arith}
use Rattle.str_merge.specs.Members.{AreMembers}
use Rattle.str_merge.proofs.MemberSteps.{member_step, none_having}
use Rattle.str_merge.proofs.members.members_of.Goals as goal

pub loop-i-init : goal.loop-i-init
loop-i-init c = none_having c.args.numbers.now _ c.args.count c.in_ok-lists.lists.items c.in_ok-lists.ensures

pub loop-i-preserved : goal.loop-i-preserved
loop-i-preserved c =
    member_step c.args.numbers.now c.args.count c.loop-i.i c.loop-i.lists.items c.index_mut.result.now c.push.new.self
    c.loop-i.invariant (c.requires.within c.loop-i.i 0 (omega arith)) c.index_mut.ensures.value c.in_ok-push.ensures.items

pub returns : goal.returns
returns c =
    let all : c.loop-i.i ≡ length c.args.numbers.now = omega arith in
    let P : ℕ → Type 0 = λ n. AreMembers c.args.numbers.now c.args.count n c.loop-i.lists.items in
    subst P all c.loop-i.invariant
