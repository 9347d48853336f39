use Rattle.eh_frame.proofs.StrayChecks.{none_wide, stray_is}
use Rattle.eh_frame.proofs.strays.is_stray.Goals as goal

pub returns-then-not-has_width : goal.returns-then-not-has_width
returns-then-not-has_width c = none_wide c.args.bytes.now c.args.reloc.now c.has_width.result c.has_width.ensures c.if-not-has_width.true

pub returns : goal.returns
returns c =
    stray_is c.args.bytes.now c.args.relocs.now c.args.records.now c.args.reloc.now c.has_width.result c.lies_in_one.result c.requires.records
    c.has_width.ensures c.if-not-has_width.false c.lies_in_one.ensures
