use Rattle.link_sections.specs.Views.{binding_in, files_in, laid_in, leaders_in}
use Rattle.elf_out.specs.TablesView.{tables_in}
use Rattle.elf_out.proofs.Preparing.{ends_shown, names_small, own_tables_small}
use Rattle.elf_out.proofs.prepared.lay_ends.Goals as goal

pub lay_tables-requires-clause-end : goal.lay_tables-requires-clause-end
lay_tables-requires-clause-end c =
    let v = c.args.view.now in
    own_tables_small (files_in v) (binding_in v) (leaders_in v) (laid_in v) (tables_in v) c.args.prepared.now c.requires.prepared

pub lay_piece-requires-clause-at : goal.lay_piece-requires-clause-at
lay_piece-requires-clause-at c =
    let v = c.args.view.now in
    names_small (files_in v) (binding_in v) (leaders_in v) (laid_in v) (tables_in v) c.args.prepared.now c.requires.prepared

pub returns : goal.returns
returns c =
    let v = c.args.view.now in
    ends_shown (files_in v) (binding_in v) (leaders_in v) (laid_in v) (tables_in v) c.args.prepared.now c.requires.prepared c.args.from c.args.block.now
    c.lay_tables.new.block c.lay_piece.new.block c.lay_piece-2.new.block c.as_slice.result.now c.as_slice-2.result.now c.as_slice.ensures.value
    c.as_slice-2.ensures.value c.lay_tables.ensures c.lay_piece.ensures c.lay_piece-2.ensures
