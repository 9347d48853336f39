use Rattle.std.proofs.Common.{◌∙◌, arith}
use Rattle.reloc_apply.proofs.LittleNumbers.{first_number}
use Rattle.reloc_apply.proofs.scanning.held_in.Goals as goal

pub returns : goal.returns
returns c = λ few. c.read_uint.ensures ∙ first_number c.args.width c.args.window.now (omega (arith, few, c.requires))
