use Rattle.std.proofs.Common.{◌≡◌, ◌+◌, drop, bit_and, bit_or}
use Rattle.std.specs.List.{fold}
use Rattle.lk_base.specs.declared.abi.TheConstants.{SHF_ALLOC, SHF_EXECINSTR, SHF_TLS, SHF_WRITE}
use Rattle.layout.specs.Walk.{flags_of}
use Rattle.layout.proofs.walk.flags_of.Given as goal

abbrev pub invariant-loop-row : goal.invariant-loop-row
invariant-loop-row l = bit_and (fold (λ flags row. bit_or flags row.flags) l.flags (drop l.row-index l.rows)) (SHF_WRITE + SHF_ALLOC + SHF_EXECINSTR + SHF_TLS) ≡ flags_of l.rows
