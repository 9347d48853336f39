use Rattle.std.proofs.Common.{◌≡◌}
use Rattle.lk_tables.specs.Bodies.{use_checks, all_use_checks}
use Rattle.lk_tables.specs.Checks.{passes, from_on}
use Rattle.lk_tables.specs.Symbols.{symbol_count}
use Rattle.elf_read.proofs.symbol_checks.check_each_use.Given as goal

-- what is left of the checks passes as all do
abbrev pub invariant-loop-index : goal.invariant-loop-index
invariant-loop-index l =
    passes (from_on (use_checks l.file.bytes.now) l.index (symbol_count l.file.bytes.now)) ≡ passes (all_use_checks l.file.bytes.now)
