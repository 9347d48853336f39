use Rattle.std.proofs.Common.{◌≡◌, ℕ, ◌*◌, List, ◌++◌, append_assoc, ap, ◌∙◌, arith}
use Rattle.lk_base.proofs.Loops.{collect_step}
use Rattle.lk_base.specs.declared.abi.TheConstants.{R_RISCV_CALL_PLT, R_RISCV_RELAX}
use Rattle.link_gen.specs.Elf.{relocation}
use Rattle.link_gen.specs.Generated.{call_relocations, callee}
use Rattle.link_gen.proofs.contents.push_call_relocations.Goals as goal

-- both relocations of a call
both_pushed : (old mid new : List ℕ) (k i symbol : ℕ) → symbol ≡ callee k i → mid ≡ old ++ relocation (8 * i) R_RISCV_CALL_PLT symbol
    → new ≡ mid ++ relocation (8 * i) R_RISCV_RELAX 0 → new ≡ old ++ call_relocations k i
both_pushed old mid new k i symbol is first second =
    second ∙ ap (λ l. l ++ relocation (8 * i) R_RISCV_RELAX 0) first
    ∙ append_assoc old (relocation (8 * i) R_RISCV_CALL_PLT symbol) (relocation (8 * i) R_RISCV_RELAX 0)
    ∙ ap (λ s. old ++ (relocation (8 * i) R_RISCV_CALL_PLT s ++ relocation (8 * i) R_RISCV_RELAX 0)) is

pub loop-call-preserved : goal.loop-call-preserved
loop-call-preserved c =
    collect_step (call_relocations c.args.k) c.loop-call.call c.args.calls c.loop-call.out.items c.push_relocation-in-loop-call.new.out.items _
    (omega arith) c.loop-call.invariant
    (both_pushed c.loop-call.out.items c.push_relocation.new.out.items c.push_relocation-in-loop-call.new.out.items c.args.k
    c.loop-call.call c.callee.result c.callee.ensures c.in_ok-push_relocation.ensures c.in_ok-push_relocation-2.ensures)
