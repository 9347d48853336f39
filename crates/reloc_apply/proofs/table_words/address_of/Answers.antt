use Rattle.std.proofs.Common.{arith}
use Rattle.link_sections.specs.Views.{binding_in, files_in, laid_in, leaders_in}
use Rattle.reloc_apply.proofs.TableSteps.{address_past}
use Rattle.reloc_apply.proofs.table_words.address_of.Goals as goal

pub returns-then-file_count-entry : goal.returns-then-file_count-entry
returns-then-file_count-entry c =
    let view = c.args.view.now in
    address_past (files_in view) (binding_in view) (leaders_in view) (laid_in view) c.args.entry.now.file c.args.entry.now.symbol
    (omega (arith, c.if-file_count-entry.true, c.file_count.ensures))
