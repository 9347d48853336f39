use Rattle.std.proofs.Common.{◌≡◌, ℕ, length, rules, ap, arith}
use Rattle.sec_gc.proofs.Sitting.{sits_looked}
use Rattle.sec_gc.proofs.Rounds.{found_looked, keeps_looked, keeps_more, looked_more, looked_none}
use Rattle.sec_gc.proofs.closing.look_at_all.Goals as goal

pub loop-section-init : goal.loop-section-init
loop-section-init c = record {
  sits = c.requires.seat;
  keeps = λ f has. has;
  count = search rules;
  looked = looked_none c.args.marks.now c.args.seat.now.seen c.args.seat.now.seen c.in_ok-on.on.items (search rules);
}

pub loop-section-preserved : goal.loop-section-preserved
loop-section-preserved c =
    let inv = c.loop-section.invariant in
    let section : ℕ = c.loop-section.section in
    let counts = c.loop-section.on.ok.0 in
    let step = c.look.ensures.step in
    record {
      sits = sits_looked c.args.marks.now c.loop-section.seat _ _ _ inv.sits step;
      keeps = keeps_more c.args.seat.now.seen c.loop-section.seat.seen _ inv.keeps (keeps_looked c.loop-section.seat _ _ _ step);
      count = search rules;
      looked = looked_more c.args.marks.now c.args.seat.now.seen c.loop-section.seat _ c.loop-section.on.items _ section c.look.result (omega (arith, inv.count, counts)) c.in_ok-push.ensures.items step c.look.ensures.seen c.look.ensures.within inv.keeps inv.looked;
    }

pub returns-clause-found : goal.returns-clause-found
returns-clause-found c =
    let inv = c.loop-section.invariant in
    let same = ap length c.requires.edges in
    let long : length c.loop-section.on.items ≡ length c.args.marks.now.ends =
    omega (arith, inv.count, c.loop-section.on.ok.0, c.loop-section-test.false, c.loop-section.auto.section-end, c.count-section-end.ensures.value, same) in
    found_looked c.args.marks.now c.args.seat.now.seen c.loop-section.seat.seen c.loop-section.on.items long inv.looked

pub returns-clause-seen : goal.returns-clause-seen
returns-clause-seen c = c.loop-section.invariant.looked.have

pub returns-in_err-push-clause-keeps : goal.returns-in_err-push-clause-keeps
returns-in_err-push-clause-keeps c = keeps_more c.args.seat.now.seen c.loop-section.seat.seen _ c.loop-section.invariant.keeps (keeps_looked c.loop-section.seat _ _ _ c.look.ensures.step)
