use Rattle.std.proofs.Common.{◌≡◌, map}
use Rattle.std.specs.List.{range_with_len}
use Rattle.lk_tables.specs.Groups.{member}
use Rattle.elf_read.proofs.groups.read_members.Given as goal

-- the members so far
abbrev pub invariant-loop-number : goal.invariant-loop-number
invariant-loop-number l = l.members.items ≡ map (member l.file.bytes.now l.index) (range_with_len 0 l.number)
