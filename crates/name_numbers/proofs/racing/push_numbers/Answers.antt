use Rattle.std.proofs.Common.{ℕ, ◌≡◌, ◌+◌, ◌++◌, length, map, subst, arith}
use Rattle.std.specs.List.{range_with_len}
use Rattle.intern_race.proofs.Sitting.{sits_after}
use Rattle.name_numbers.specs.Texts.{number_at}
use Rattle.name_numbers.proofs.HashSteps.{run_none, run_pushed}
use Rattle.name_numbers.proofs.Placing.{keeps_after, number_read}
use Rattle.name_numbers.proofs.racing.push_numbers.Goals as goal

pub loop-k-init : goal.loop-k-init
loop-k-init c = record { sits = c.requires.seat; keeps = λ p has. has; list = run_none (number_at c.args.texts.now) c.args.start c.args.numbers.now.items }

pub first-requires-clause-seat : goal.first-requires-clause-seat
first-requires-clause-seat c = c.loop-k.invariant.sits

pub first-requires-clause-within : goal.first-requires-clause-within
first-requires-clause-within c = c.requires.slots.within c.loop-k.k c.loop-k-test.true

pub first-requires-clause-slot : goal.first-requires-clause-slot
first-requires-clause-slot c =
    let k = c.loop-k.k in
    (c.args.start + k, c.loop-k.invariant.keeps _ (c.requires.slots.each k c.loop-k-test.true))

pub returns-in_err-push-clause-sits : goal.returns-in_err-push-clause-sits
returns-in_err-push-clause-sits c =
    let step = c.first.ensures.step in
    sits_after c.args.table.now c.loop-k.seat _ _ c.loop-k.invariant.sits step.1

pub returns-in_err-push-clause-keeps : goal.returns-in_err-push-clause-keeps
returns-in_err-push-clause-keeps c =
    let step = c.first.ensures.step in
    λ p has. keeps_after c.loop-k.seat _ _ step.1 p (c.loop-k.invariant.keeps p has)

pub loop-k-preserved : goal.loop-k-preserved
loop-k-preserved c =
    let t = c.args.table.now in
    let old = c.loop-k.seat in
    let k = c.loop-k.k in
    let step = c.first.ensures.step in
    let lt = c.loop-k-test.true in
    record {
      sits = sits_after t old _ _ c.loop-k.invariant.sits step.1;
      keeps = λ p has. keeps_after old _ _ step.1 p (c.loop-k.invariant.keeps p has);
      list = run_pushed (number_at c.args.texts.now) c.args.start k (c.args.start + k) c.args.numbers.now.items c.loop-k.numbers.items c.push.new.self.items c.first.result (omega arith)
          c.loop-k.invariant.list c.in_ok-push.ensures.items
          (number_read t c.args.texts.now c.args.seat.now.placed old _ _ c.first.result (c.args.start + length c.args.slots.now) (c.args.start + k) _ c.requires.texts c.loop-k.invariant.sits step.1 c.first.ensures.apart
          c.loop-k.invariant.keeps c.requires.all (omega (arith, lt)) (c.requires.slots.each k c.loop-k-test.true) c.first.ensures.least);
    }

pub returns-clause-sits : goal.returns-clause-sits
returns-clause-sits c = c.loop-k.invariant.sits

pub returns-clause-keeps : goal.returns-clause-keeps
returns-clause-keeps c = c.loop-k.invariant.keeps

pub returns-clause-numbers : goal.returns-clause-numbers
returns-clause-numbers c =
    let all : c.loop-k.k ≡ length c.args.slots.now = omega arith in
    let P : ℕ → Type 0 = λ n. c.loop-k.numbers.items ≡ c.args.numbers.now.items ++ map (number_at c.args.texts.now) (range_with_len c.args.start n) in
    subst P all c.loop-k.invariant.list
