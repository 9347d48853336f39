use Rattle.link_sections.specs.Views.{binding_in, files_in, laid_in, leaders_in}
use Rattle.reloc_apply.proofs.FoundSteps.{IsLeast}
use Rattle.reloc_apply.proofs.relocated.first_defect.Given as goal

abbrev pub invariant-loop-k : goal.invariant-loop-k
invariant-loop-k l = IsLeast (files_in l.view) (binding_in l.view) (leaders_in l.view) (laid_in l.view) l.from l.len l.k l.least
