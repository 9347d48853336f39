use Rattle.lk_base.proofs.Loops.{map_step}
use Rattle.elf_read.specs.Relocations.{number_at}
use Rattle.elf_read.proofs.relocations.number.Goals as goal

pub loop-number-preserved : goal.loop-number-preserved
loop-number-preserved c = map_step (number_at c.args.relocs.now) c.loop-number.number _ _ c.loop-number.invariant c.in_ok-push.ensures.items
