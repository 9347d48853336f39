use Rattle.std.proofs.Common.{length, sym, ◌∙◌, arith}
use Rattle.lk_tables.specs.Relocations.{is_unpaired}
use Rattle.elf_read.proofs.PairWalks.{first_all, first_here, first_later, first_none}
use Rattle.elf_read.proofs.relocations.first_unpaired.Goals as goal

pub loop-k-init : goal.loop-k-init
loop-k-init c = first_all (is_unpaired c.args.relocs.now) (length c.args.relocs.now)

pub returns-then-is_unpaired-clause-value : goal.returns-then-is_unpaired-clause-value
returns-then-is_unpaired-clause-value c =
    sym (first_here (is_unpaired c.args.relocs.now) c.loop-k.k (length c.args.relocs.now) (omega arith) (sym c.is_unpaired.ensures ∙ c.if-is_unpaired.true))
    ∙ c.loop-k.invariant

pub loop-k-preserved : goal.loop-k-preserved
loop-k-preserved c =
    sym (first_later (is_unpaired c.args.relocs.now) c.loop-k.k (length c.args.relocs.now) (omega arith) (sym c.is_unpaired.ensures ∙ c.if-is_unpaired.false))
    ∙ c.loop-k.invariant

pub returns-clause-value : goal.returns-clause-value
returns-clause-value c =
    sym (first_none (is_unpaired c.args.relocs.now) c.loop-k.k (length c.args.relocs.now) (omega arith)) ∙ c.loop-k.invariant
