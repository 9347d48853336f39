use Rattle.reloc_apply.proofs.scanning.fresh.Goals as goal

pub returns-then-copy_between : goal.returns-then-copy_between
returns-then-copy_between c = c.copy_between.ensures.shows c.if-copy_between.true
