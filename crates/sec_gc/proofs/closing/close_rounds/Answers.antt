use Rattle.std.proofs.Common.{length, subst}
use Rattle.sec_gc.specs.Closing.{HaveEnds, Rests}
use Rattle.sec_gc.proofs.Rounds.{round_at, round_reach, round_smaller}
use Rattle.sec_gc.proofs.closing.close_rounds.Goals as goal

pub loop-more-init : goal.loop-more-init
loop-more-init g c =
    let marked = c.mark_missing.ensures in
    let rests = subst (λ l. Rests c.mark_missing.new.seat.seen l (HaveEnds c.args.marks.now.ends l 0 (length l)) c.in_ok-more.more) c.as_slice.ensures.value c.in_ok-more.ensures.rests in
    round_at c.args.marks.now c.args.seat.now.seen c.args.seat.now c.look_at_all.new.seat c.mark_missing.new.seat c.in_ok-on.on.items c.in_ok-more.more c.requires.within (λ f has. has) c.requires.rooted
    c.look_at_all.ensures.keeps c.in_ok-on.ensures.found c.in_ok-on.ensures.seen marked.seat marked.keeps rests

pub loop-more-preserved : goal.loop-more-preserved
loop-more-preserved g c =
    let inv = c.loop-more.invariant in
    let marked = c.in_ok-more-2.ensures in
    let rests = subst (λ l. Rests c.mark_missing-in-loop-more.new.seat.seen l (HaveEnds c.args.marks.now.ends l 0 (length l)) c.in_ok-more-2.more) c.as_slice-in-loop-more.ensures.value marked.rests in
    round_at c.args.marks.now c.args.seat.now.seen c.loop-more.seat c.look_at_all-in-loop-more.new.seat c.mark_missing-in-loop-more.new.seat c.in_ok-on-2.on.items c.in_ok-more-2.more c.requires.within inv.keeps inv.rooted
    c.look_at_all-in-loop-more.ensures.keeps c.in_ok-on-2.ensures.found c.in_ok-on-2.ensures.seen marked.seat marked.keeps rests

pub loop-more-smaller : goal.loop-more-smaller
loop-more-smaller g c =
    round_smaller c.args.marks.now c.args.seat.now.seen c.loop-more.seat c.loop-more.on.items c.in_ok-on-2.on.items c.loop-more.more c.loop-more.invariant c.loop-more-test.true c.in_ok-on-2.ensures.seen c.in_ok-on-2.ensures.found.wide

pub returns : goal.returns
returns g c = round_reach c.args.marks.now c.args.seat.now.seen c.loop-more.seat c.loop-more.on.items c.loop-more.more c.loop-more.invariant c.loop-more-test.false
