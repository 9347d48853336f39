use Rattle.std.proofs.Common.{◌-◌, ap, sym, arith, ◌∙◌}
use Rattle.lk_base.specs.declared.abi.TheConstants.{IMAGE_BASE}
use Rattle.elf_out.proofs.Outputs.{frames_low, header_is}
use Rattle.elf_out.proofs.frames.header_offset.Goals as goal

pub returns-clause-value : goal.returns-clause-value
returns-clause-value c = c.offset_of.ensures ∙ ap (λ n. n - IMAGE_BASE) (sym (header_is c.args.view.now))

pub returns-clause-low : goal.returns-clause-low
returns-clause-low c = omega (arith, c.offset_of.ensures, header_is c.args.view.now, (frames_low c.args.view.now).0)
