use Rattle.std.proofs.Common.{[], get_or, ap, ◌∙◌, arith}
use Rattle.icf_part.proofs.Seeded.{waiting_last, waiting_next}
use Rattle.icf_part.proofs.seeds.first_waiting.Goals as goal

pub loop-a-preserved : goal.loop-a-preserved
loop-a-preserved c =
    let ends = c.args.ends.now in
    let now = c.loop-a.waiting in
    let next = c.compare.new.waiting in
    waiting_next ends c.args.classes.now c.loop-a.a c.row-own.result.now c.row-first.result.now now.waits.items now.queue.items next.waits.items next.queue.items c.loop-a.invariant c.row-own.ensures
    (c.row-first.ensures ∙ ap (λ k. get_or ends k []) c.class_at.ensures) c.in_ok-compare.ensures.longer c.in_ok-compare.ensures.waits

pub returns : goal.returns
returns c = waiting_last c.args.ends.now c.args.classes.now c.loop-a.a c.loop-a.waiting (omega arith) c.loop-a.invariant
