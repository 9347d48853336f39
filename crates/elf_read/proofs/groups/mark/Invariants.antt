use Rattle.std.proofs.Common.{◌≡◌, length, drop}
use Rattle.elf_read.specs.Groups.{with_marked}
use Rattle.elf_read.proofs.groups.mark.Given as goal

-- the marks of the members so far are set
abbrev pub invariant-loop-number : goal.invariant-loop-number
invariant-loop-number l = record {
  len : length l.taken ≡ length l.initial.taken;
  rest : with_marked l.taken (drop l.number l.members) ≡ with_marked l.initial.taken l.members;
}
