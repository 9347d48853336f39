use Rattle.std.proofs.Common.{◌<◌, arith, length, refl}
use Rattle.elf_out.proofs.NameSteps.{along_step}
use Rattle.elf_out.proofs.sections.push_output_headers.Goals as goal

pub loop-output-preserved : goal.loop-output-preserved
loop-output-preserved c =
    let below : c.loop-output.output-index < length c.args.outputs.now = omega arith in
    along_step c.args.outputs.now c.loop-output.output-index _ c.args.out.now.items c.loop-output.out.items
    c.push_section_header.new.out.items c.loop-output.name _ c.output_section.result
    c.output_section.ensures c.in_ok-push_section_header.ensures refl below c.loop-output.invariant
