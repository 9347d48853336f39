use Rattle.std.proofs.Common.{◌+◌, ◌-◌, ◌∙◌, ap, arith, drop, length, refl, sym, take}
use Rattle.lk_depot.specs.Files.{added_if_seen}
use Rattle.lk_depot.proofs.Counts.{later_then_rose}
use Rattle.lk_depot.proofs.NamedMaps.{added_if_seen_nothing}
use Rattle.link_driver.proofs.BlockWise.{added_on, part_added}
use Rattle.link_driver.proofs.linked.put_blocks.Goals as goal

pub loop-done-init : goal.loop-done-init
loop-done-init g c = record {
  within = omega arith;
  files = sym (added_if_seen_nothing c.args.name.now _);
  kinds = refl;
  begun = refl;
  unread = refl;
  later = omega arith;
}

pub loop-done-preserved : goal.loop-done-preserved
loop-done-preserved g c = record {
  within = omega arith;
  files = c.in-Ok.ensures.ok ∙ ap (added_if_seen c.args.name.now _) c.loop-done.invariant.files
      ∙ added_on c.args.name.now c.args.bytes.now c.loop-done.done _ _ (omega arith);
  kinds = c.in-Ok.ensures.kinds ∙ c.loop-done.invariant.kinds;
  begun = c.in-Ok.ensures.begun ∙ c.loop-done.invariant.begun;
  unread = c.in-Ok.ensures.unread ∙ c.loop-done.invariant.unread;
  later = omega (arith, c.loop-done.invariant.later, c.in-Ok.ensures.cause.later);
}

pub returns-in-Err-clause-err : goal.returns-in-Err-clause-err
returns-in-Err-clause-err g c =
    part_added c.args.name.now c.args.bytes.now c.loop-done.done _ (g.D.Depot.store c.args.depot.now).files _ _ (omega arith) (omega arith)
    c.loop-done.invariant.files c.in-Err.ensures.err

pub returns-in-Err-clause-cause : goal.returns-in-Err-clause-cause
returns-in-Err-clause-cause g c = record {
  later = omega (arith, c.loop-done.invariant.later, c.in-Err.ensures.cause.later);
  failed = later_then_rose _ _ _ c.loop-done.invariant.later c.in-Err.ensures.cause.failed;
}
