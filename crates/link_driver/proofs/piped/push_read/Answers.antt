use Rattle.std.proofs.Common.{◌++◌, ap, ◌∙◌, arith}
use Rattle.std.specs.Prelude.{filter, is_some}
use Rattle.std.specs.Vec.Iter.{into_iter_items}
use Rattle.work_split.proofs.Sharing.{taken_all, taken_more}
use Rattle.link_driver.proofs.KnownHeads.{read_more}
use Rattle.link_driver.proofs.piped.push_read.Goals as goal

pub loop-head-preserved : goal.loop-head-preserved
loop-head-preserved c =
    let before = c.loop-head.invariant in
    let items = into_iter_items c.loop-head.head-iterator in
    let rest = into_iter_items c.next.new.self in (
      tt,
      tt,
      taken_more c.loop-head.yielded items rest c.args.heads.items c.in-Some.head before.2 c.in-Some.ensures.steps.0,
      read_more c.args.list.now.items c.loop-head.list.items c.push_some.new.list.items c.loop-head.yielded c.in-Some.head before.3 c.in_ok-push_some.ensures,
    )

pub returns : goal.returns
returns c =
    let before = c.loop-head.invariant in
    let items = into_iter_items c.loop-head.head-iterator in
    let none = c.in-None.ensures.steps.0 in
    let counts = c.loop-head.head-iterator.rest.ok.0 in
    before.3 ∙ ap (λ l. c.args.list.now.items ++ filter is_some l) (taken_all c.loop-head.yielded items c.args.heads.items before.2 (omega arith))
