use Rattle.std.proofs.Common.{◌-◌, length, ltb-true, arith}
use Rattle.reloc_apply.proofs.ScanSteps.{rise}
use Rattle.reloc_apply.proofs.scanning.are_below.Goals as goal

pub returns : goal.returns
returns c = λ below k lt.
    let last = ltb-true _ _ below in
    let own = c.offset_of-offset.ensures.value in
    let up = rise c.args.view.now c.args.source.now c.requires k (length c.args.source.now.relocs.now - 1) (omega (arith, lt)) (omega (arith, lt)) in
    omega (arith, up, own, last)
