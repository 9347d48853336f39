use Rattle.std.proofs.Common.{◌*◌}
use Rattle.link_sections.specs.Views.{binding_in, files_in, laid_in, leaders_in}
use Rattle.elf_out.specs.Executable.{executable, file_length, file_with, pieces_with}
use Rattle.elf_out.specs.TablesView.{frame_contents, tables_in}
use Rattle.elf_out.proofs.Laying.{filled}
use Rattle.elf_out.proofs.blocks.fill_window.Goals as goal

pub returns : goal.returns
unfolding executable file_with
returns g c =
    let v = c.args.view.now in
    let tables = tables_in v in
    filled (65536 * c.args.k) (file_length (laid_in v) tables) (pieces_with (files_in v) (binding_in v) (leaders_in v) (laid_in v) (frame_contents c.args.frames.now) tables)
    c.args.window.now c.fill_blocks.new.window c.requires.within c.fill_blocks.ensures
