use Rattle.std.proofs.Common.{arith}
use Rattle.std.specs.Vec.Iter.{into_iter_items}
use Rattle.std.proofs.lemmas.List.{length_push}
use Rattle.work_split.proofs.Sharing.{taken_more}
use Rattle.piped_reads.proofs.OfLoaded.{next_numbered}
use Rattle.piped_reads.proofs.piped.files_of.Goals as goal

pub loop-one-preserved : goal.loop-one-preserved
loop-one-preserved c =
    let before = c.loop-one.invariant in (
      tt,
      tt,
      taken_more c.loop-one.yielded (into_iter_items c.loop-one.one-iterator) (into_iter_items c.next.new.self) c.args.took.items c.in-Some.one before.2 c.in-Some.ensures.steps.0,
      omega (arith, before.3, length_push c.loop-one.yielded c.in-Some.one),
      next_numbered c.loop-one.yielded c.in-Some.one c.loop-one.files.items c.push.new.self.items c.loop-one.at before.4 before.3 c.if-index-at.false c.in_ok-push.ensures.items,
    )
