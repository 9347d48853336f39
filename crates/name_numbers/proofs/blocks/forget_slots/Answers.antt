use Rattle.std.proofs.Common.{◌≡◌, ◌+◌, ◌<◌, ◌∙◌, length, refl, arith}
use Rattle.std.proofs.lemmas.List.{length-set}
use Rattle.name_numbers.specs.Placed.{no_slot}
use Rattle.name_numbers.proofs.BlockTexts.{same_next}
use Rattle.name_numbers.proofs.blocks.forget_slots.Goals as goal

pub loop-k-init : goal.loop-k-init
loop-k-init c = record { len = refl; none = λ j lt. absurd (omega (arith, lt)) }

pub loop-k-preserved : goal.loop-k-preserved
loop-k-preserved c =
    let len = c.loop-k.invariant.len in
    record {
      len = length-set c.loop-k.early c.loop-k.k _ ∙ c.loop-k.invariant.len;
      none = same_next no_slot c.loop-k.k c.loop-k.early (omega (arith, len)) c.loop-k.invariant.none;
    }

pub returns-clause-none : goal.returns-clause-none
returns-clause-none c = λ j lt. c.loop-k.invariant.none j (omega (arith, lt))
