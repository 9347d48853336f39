use Rattle.std.proofs.Common.{◌*◌}
use Rattle.link_sections.specs.Views.{binding_in, files_in, laid_in, leaders_in}
use Rattle.elf_out.specs.Executable.{FrameContents, end_pieces, executable, file_length, file_with, frame_pieces, pieces_with}
use Rattle.elf_out.specs.Prepared.{headers_in}
use Rattle.elf_out.specs.TablesView.{frame_contents, tables_in}
use Rattle.elf_out.proofs.Laying.{part, shows_all}
use Rattle.reloc_apply.specs.Image.{piece}
use Rattle.reloc_apply.specs.Relocated.{relocated_pieces}
use Rattle.elf_out.proofs.blocks.block.Goals as goal

pub returns-clause-written : goal.returns-clause-written
unfolding executable file_with pieces_with
returns-clause-written c =
    let v = c.args.view.now in
    let tables = tables_in v in
    let frames : FrameContents = frame_contents c.args.frames.now in
    let head = piece 0 (headers_in v tables) in
    let middle = relocated_pieces (files_in v) (binding_in v) (leaders_in v) (laid_in v) in
    part (65536 * c.args.k) (file_length (laid_in v) tables) (pieces_with (files_in v) (binding_in v) (leaders_in v) (laid_in v) frames tables) c.args.out.now
    c.clear.new.out c.lay_ends.new.block c.requires.within c.clear.ensures
    (shows_all (65536 * c.args.k) head (frame_pieces (laid_in v) frames) middle (end_pieces (laid_in v) tables) c.clear.new.out c.lay_headers.new.block c.lay_frames.new.block
    c.apply.new.block c.lay_ends.new.block c.lay_headers.ensures c.lay_frames.ensures c.in-Ok.ensures.bytes c.lay_ends.ensures)

pub returns-in-Err-clause-sure : goal.returns-in-Err-clause-sure
returns-in-Err-clause-sure c = c.in-Err.ensures.sure
