use Rattle.std.proofs.Common.{arith, get_or}
use Rattle.lk_tables.specs.Files.{no_reloc}
use Rattle.link_sections.specs.Views.{binding_in, files_in, laid_in, leaders_in}
use Rattle.reloc_apply.proofs.States.{wide_few}
use Rattle.reloc_apply.proofs.scanning.first_near.Goals as goal

pub returns-clause-before : goal.returns-clause-before
returns-clause-before c = λ k lt.
    let r = get_or c.args.source.now.relocs.now k no_reloc in
    omega (arith, c.count_below.ensures.before k lt, wide_few (files_in c.args.view.now) (binding_in c.args.view.now) (leaders_in c.args.view.now) (laid_in c.args.view.now) c.args.source.now.site.section r, c.saturating_sub.ensures, c.saturating_sub-2.ensures)
