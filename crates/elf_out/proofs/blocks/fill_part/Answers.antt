use Rattle.std.proofs.Common.{◌≡◌, ◌+◌, ◌∙◌, ap, arith}
use Rattle.link_sections.specs.Views.{binding_in, files_in, laid_in, leaders_in}
use Rattle.elf_out.specs.Executable.{pieces_with}
use Rattle.elf_out.specs.TablesView.{frame_contents, tables_in}
use Rattle.reloc_apply.specs.Image.{byte_at}
use Rattle.elf_out.proofs.blocks.fill_part.Goals as goal

pub returns : goal.returns
returns g c = λ k lt.
    let v = c.args.view.now in
    let pieces = pieces_with (files_in v) (binding_in v) (leaders_in v) (laid_in v) (frame_contents c.args.frames.now) (tables_in v) in
    let e : c.args.from + c.args.start + k ≡ c.args.from + (c.args.start + k) = omega arith in
    c.fill.ensures.1 k lt ∙ ap (byte_at pieces) e
