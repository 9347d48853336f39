use Rattle.std.proofs.Common.{◌≡◌, ◌++◌}
use Rattle.link_gen.specs.Elf.{zeros}
use Rattle.link_gen.proofs.numbers.push_zeros.Given as goal

abbrev pub invariant-loop-zero : goal.invariant-loop-zero
invariant-loop-zero l = l.out.items ≡ l.fn.out.items ++ zeros l._zero
