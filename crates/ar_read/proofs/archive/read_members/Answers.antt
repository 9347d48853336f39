use Rattle.std.proofs.Common.{length, arith, sym}
use Rattle.std.proofs.lemmas.Result.{err_from_is_err_and}
use Rattle.ar_read.proofs.Walk.{begun, walk_on, walk_fails, walk_ends, all_more}
use Rattle.std.proofs.lemmas.List.Elements.{All-nil}
use Rattle.ar_read.specs.Archives.{LiesIn}
use Rattle.ar_read.proofs.archive.read_members.Goals as goal

pub loop-at-init : goal.loop-at-init
loop-at-init c = record { walked = begun c.args.bytes.now c.new-members.result.items c.new-members.ensures.items; lie = rw c.new-members.ensures.items (All-nil (LiesIn (length c.args.bytes.now))); table_inside = tt }

pub returns-in_err-entry-clause-exact : goal.returns-in_err-entry-clause-exact
returns-in_err-entry-clause-exact c =
    let p = err_from_is_err_and c.from_residual.result c.from_residual.ensures.1 in
    rw (p.1, p.2) (walk_fails c.args.bytes.now c.loop-at.at c.loop-at.table c.loop-at.members.items _
    c.loop-at.invariant.walked c.loop-at-test.true (sym c.in_err-entry.ensures.value))

pub loop-at-preserved : goal.loop-at-preserved
loop-at-preserved c = record {
  walked = walk_on c.args.bytes.now c.loop-at.at c.loop-at.table c.loop-at.members.items _ c.in_ok-entry.entry
      c.loop-at.invariant.walked c.loop-at-test.true (sym c.in_ok-entry.ensures.value) c.in_ok-push_some.ensures;
  lie = all_more (LiesIn (length c.args.bytes.now)) c.loop-at.members.items _ c.in_ok-entry.entry.member
      c.loop-at.invariant.lie c.in_ok-entry.ensures.lies c.in_ok-push_some.ensures;
  table_inside = c.in_ok-entry.ensures.inside;
}

pub returns-clause-exact : goal.returns-clause-exact
returns-clause-exact c =
    walk_ends c.args.bytes.now c.loop-at.at c.loop-at.table c.loop-at.members.items c.loop-at.invariant.walked (omega (arith, c.loop-at-test.false))
