use Rattle.std.proofs.Common.{length, refl, arith}
use Rattle.rv_code.proofs.NopWords.{nops_are}
use Rattle.rv_code.proofs.instructions.nops.Goals as goal

pub returns-clause-nops : goal.returns-clause-nops
returns-clause-nops c =
    nops_are (length c.loop-i.place) c.loop-i.place refl (λ k lt. c.loop-i.invariant k (omega (arith, lt, c.loop-i-test.false, c.loop-i.auto.place)))
