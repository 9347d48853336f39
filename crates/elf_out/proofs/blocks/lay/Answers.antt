use Rattle.link_sections.specs.Views.{binding_in, files_in, laid_in, leaders_in}
use Rattle.elf_out.specs.Executable.{end_pieces, frame_pieces, pieces_with}
use Rattle.elf_out.specs.Prepared.{headers_in}
use Rattle.elf_out.specs.TablesView.{frame_contents, tables_in}
use Rattle.elf_out.proofs.Laying.{shows_all}
use Rattle.reloc_apply.specs.Image.{piece}
use Rattle.reloc_apply.specs.Relocated.{relocated_pieces}
use Rattle.elf_out.proofs.blocks.lay.Goals as goal

pub returns : goal.returns
unfolding pieces_with
returns c =
    let v = c.args.view.now in
    let tables = tables_in v in
    shows_all c.args.from (piece 0 (headers_in v tables)) (frame_pieces (laid_in v) (frame_contents c.args.frames.now))
    (relocated_pieces (files_in v) (binding_in v) (leaders_in v) (laid_in v)) (end_pieces (laid_in v) tables)
    c.args.block.now c.lay_headers.new.block c.lay_frames.new.block c.write_block.new.block c.lay_ends.new.block
    c.lay_headers.ensures c.lay_frames.ensures c.write_block.ensures c.lay_ends.ensures
