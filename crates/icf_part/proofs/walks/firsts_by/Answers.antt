use Rattle.std.proofs.Common.{◌≡◌, ℕ, subst, arith}
use Rattle.icf_part.specs.Numbered.{AreFirstBy}
use Rattle.icf_part.proofs.walks.firsts_by.Goals as goal

pub returns-clause-firsts : goal.returns-clause-firsts
returns-clause-firsts c =
    let none : c.down.left ≡ 0 = omega arith in
    let P : ℕ → Type 0 = λ k. AreFirstBy c.args.labels.now k c.down.firsts.items in
    subst P none c.down.invariant.1.1
