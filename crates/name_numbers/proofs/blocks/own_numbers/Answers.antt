use Rattle.std.proofs.Common.{◌≡◌, ◌+◌, ◌<◌, ◌∙◌, length, refl, arith}
use Rattle.std.proofs.lemmas.List.{length-set}
use Rattle.name_numbers.proofs.BlockTexts.{own_next}
use Rattle.name_numbers.proofs.blocks.own_numbers.Goals as goal

pub loop-k-init : goal.loop-k-init
loop-k-init c = record { len = refl; own = λ j lt. absurd (omega (arith, lt)) }

pub bounds-alike-k : goal.bounds-alike-k
bounds-alike-k c =
    let room = c.requires.room in
    let len = c.loop-k.invariant.len in
    omega (arith, room, len)

pub loop-k-preserved : goal.loop-k-preserved
loop-k-preserved c =
    let room = c.requires.room in
    let len = c.loop-k.invariant.len in
    record {
      len = length-set c.loop-k.alike c.loop-k.k _ ∙ c.loop-k.invariant.len;
      own = own_next c.args.from c.loop-k.k c.loop-k.alike (omega (arith, room, len)) c.loop-k.invariant.own;
    }

pub returns-clause-own : goal.returns-clause-own
returns-clause-own c = λ j lt. c.loop-k.invariant.own j (omega (arith, lt))
