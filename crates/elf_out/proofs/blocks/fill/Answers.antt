use Rattle.link_sections.specs.Views.{binding_in, files_in, laid_in, leaders_in}
use Rattle.elf_out.specs.Executable.{pieces_with}
use Rattle.elf_out.specs.TablesView.{frame_contents, tables_in}
use Rattle.elf_out.proofs.Laying.{over_zeros}
use Rattle.elf_out.proofs.blocks.fill.Goals as goal

pub returns : goal.returns
returns c =
    let v = c.args.view.now in
    over_zeros c.args.from (pieces_with (files_in v) (binding_in v) (leaders_in v) (laid_in v) (frame_contents c.args.frames.now) (tables_in v))
    c.args.block.now c.clear.new.out c.lay.new.block c.clear.ensures c.lay.ensures
