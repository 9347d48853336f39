use Rattle.std.proofs.Common.{flat_map, take}
use Rattle.link_sections.specs.Views.{binding_in, files_in, laid_in, leaders_in}
use Rattle.reloc_apply.specs.Image.{ShowsFrom}
use Rattle.reloc_apply.proofs.TableSteps.{entry_pieces}
use Rattle.reloc_apply.proofs.table_words.write_table.Given as goal

abbrev pub invariant-loop-k : goal.invariant-loop-k
invariant-loop-k l = ShowsFrom l.from l.fn.block l.block
    (flat_map (entry_pieces (files_in l.view) (binding_in l.view) (leaders_in l.view) (laid_in l.view) l.at) (take l.k (laid_in l.view).table))
