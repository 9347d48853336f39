use Rattle.std.proofs.Common.{length, arith}
use Rattle.lk_tables.specs.Records.{cie_before}
use Rattle.eh_frame.proofs.OneRecord.{short_fde, other_begin, fde_is}
use Rattle.eh_frame.proofs.reading.cie_of_fde.Goals as goal

pub returns-then-len-lt-FDE_LEN_MIN : goal.returns-then-len-lt-FDE_LEN_MIN
returns-then-len-lt-FDE_LEN_MIN c =
    let j = length c.args.earlier.now in
    short_fde c.args.bytes.now c.args.relocs.now j c.args.at c.args.len (cie_before c.args.bytes.now j) c.requires.here c.requires.len c.if-len-lt-FDE_LEN_MIN.true

pub returns-then-not-begins_well : goal.returns-then-not-begins_well
returns-then-not-begins_well c =
    let j = length c.args.earlier.now in
    other_begin c.args.bytes.now c.args.relocs.now c.args.own.now j c.args.at c.begins_well.result (cie_before c.args.bytes.now j)
    c.requires.here c.requires.own c.begins_well.ensures c.if-not-begins_well.true

pub returns : goal.returns
returns c =
    let j = length c.args.earlier.now in
    fde_is c.args.bytes.now c.args.relocs.now c.args.own.now j c.args.at c.args.len c.begins_well.result c.cie_before.result
    c.requires.here c.requires.len (omega (arith, c.if-len-lt-FDE_LEN_MIN.false)) c.requires.own c.begins_well.ensures c.if-not-begins_well.false c.cie_before.ensures
