use Rattle.std.proofs.Common.{◌∙◌, refl}
use Rattle.name_numbers.proofs.blocks.place_listed.Goals as goal

pub loop-n-init : goal.loop-n-init
loop-n-init c = record { sits = c.requires.seat; keeps = λ p has. has; len = refl; early = c.requires.early }

pub loop-n-preserved : goal.loop-n-preserved
loop-n-preserved c =
    let before = c.loop-n.invariant in
    let now = c.place_one-cost.ensures in record {
      sits = now.sits;
      keeps = λ p has. now.keeps p (before.keeps p has);
      len = now.len ∙ before.len;
      early = now.early;
    }
