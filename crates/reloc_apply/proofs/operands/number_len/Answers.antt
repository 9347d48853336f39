use Rattle.std.proofs.Common.{ℕ, Option, arith, ap, ◌∙◌}
use Rattle.std.specs.Prelude.{unwrap_or}
use Rattle.lk_tables.proofs.Widths.{uleb_few}
use Rattle.reloc_apply.proofs.operands.number_len.Goals as goal

pub returns-clause-few : goal.returns-clause-few
returns-clause-few c =
    let len = c.unwrap_or.ensures ∙ ap (λ (o : Option ℕ). unwrap_or o 0) c.uleb_len.ensures in
    omega (arith, len, uleb_few c.args.contents.now c.args.offset)
