use Rattle.reloc_apply.proofs.Placing.{copied}
use Rattle.reloc_apply.proofs.image.fill_piece.Goals as goal

pub returns-then-start-end : goal.returns-then-start-end
returns-then-start-end c = λ i lt.
    copied c.args.block.now c.args.piece.now.bytes.now _ c.args.from c.args.piece.now.at c.max-start.result c.min-end.result i
    c.max-start.ensures c.min-end.ensures c.if-start-end.true lt c.copy_from_slice.ensures.after
