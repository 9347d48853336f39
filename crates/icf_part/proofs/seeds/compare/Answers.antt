use Rattle.std.proofs.Common.{◌≡◌, ℕ, length, get_or, ap, ◌∙◌, subst, arith}
use Rattle.icf_part.proofs.Seeded.{Told, longer_same, longer_then, told_next}
use Rattle.icf_part.proofs.seeds.compare.Goals as goal

pub loop-k-init : goal.loop-k-init
loop-k-init c = (longer_same c.args.waiting.now.waits.items c.args.waiting.now.queue.items, λ k lt. absurd (omega arith))

pub loop-k-preserved : goal.loop-k-preserved
loop-k-preserved c =
    let start = c.args.waiting.now in
    let now = c.loop-k.waiting in
    let next = c.wait_apart.new.waiting in (
      longer_then start.waits.items start.queue.items now.waits.items now.queue.items next.waits.items next.queue.items c.loop-k.invariant.0 c.in_ok-wait_apart.ensures.longer,
      told_next c.args.classes.now c.args.own.now c.args.first.now c.loop-k.k now.waits.items now.queue.items next.waits.items next.queue.items c.class_at-class.result c.class_at-other.result
          c.in_ok-wait_apart.ensures.longer c.loop-k.invariant.1 c.class_at-class.ensures (c.class_at-other.ensures ∙ ap (λ k. get_or c.args.classes.now k 0) c.place_at.ensures) c.in_ok-wait_apart.ensures.waits,
    )

pub returns-clause-longer : goal.returns-clause-longer
returns-clause-longer c = c.loop-k.invariant.0

pub returns-clause-waits : goal.returns-clause-waits
returns-clause-waits c =
    let all : c.loop-k.k ≡ length c.args.own.now = omega arith in
    let P : ℕ → Type 0 = λ n. Told c.args.classes.now c.args.own.now c.args.first.now n c.loop-k.waiting.waits.items in
    subst P all c.loop-k.invariant.1
