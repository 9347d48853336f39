use Rattle.std.proofs.Common.{[], get_or}
use Rattle.name_numbers.proofs.Walks.{walk_map}
use Rattle.name_numbers.proofs.numbers.follow_by_one.Goals as goal

pub loop-s-preserved : goal.loop-s-preserved
loop-s-preserved c =
    let firsts = c.args.firsts.now in
    walk_map (λ s. get_or firsts (get_or firsts s 0) 0) [] c.loop-s.list.items c.push.new.self.items c.followed_at.result c.loop-s.s c.loop-s.invariant c.in_ok-push.ensures.items c.followed_at.ensures
