use Rattle.std.proofs.Common.{◌∙◌, sym}
use Rattle.sec_graph.proofs.Needing.{others_left, others_right}
use Rattle.sec_graph.proofs.frame_relocs.has_other.Goals as goal

pub returns-then-has_reloc : goal.returns-then-has_reloc
returns-then-has_reloc c =
    sym (others_left c.args.relocs.now c.others.result.0.now c.others.result.1.now c.args.reloc.now c.others.ensures (sym c.has_reloc.ensures ∙ c.if-has_reloc.true))

pub returns : goal.returns
returns c =
    c.has_reloc-2.ensures
    ∙ sym (others_right c.args.relocs.now c.others.result.0.now c.others.result.1.now c.args.reloc.now c.others.ensures (sym c.has_reloc.ensures ∙ c.if-has_reloc.false))
