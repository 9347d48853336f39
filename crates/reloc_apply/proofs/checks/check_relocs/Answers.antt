use Rattle.std.proofs.Common.{ℕ, ◌-◌, List, arith, get_or}
use Rattle.lk_base.proofs.Loops.{found_step, pass_end, pass_step}
use Rattle.lk_base.specs.declared.defects.Defect.{Defect}
use Rattle.lk_tables.specs.Files.{no_reloc}
use Rattle.link_sections.specs.Views.{binding_in, files_in, laid_in, leaders_in}
use Rattle.reloc_apply.specs.Relocated.{reloc_defects}
use Rattle.reloc_apply.proofs.checks.check_relocs.Goals as goal

pub returns-in-Some : goal.returns-in-Some
returns-in-Some c =
    let f : ℕ → List Defect = λ x. reloc_defects (files_in c.args.view.now) (binding_in c.args.view.now) (leaders_in c.args.view.now) (laid_in c.args.view.now) c.args.site.section (get_or c.args.relocs.now (x - 1) no_reloc) (get_or c.args.relocs.now x no_reloc) in
    found_step f c.loop-k.k c.args.to _ c.in-Some.defect (omega arith) c.loop-k.invariant c.in-Some.ensures

pub loop-k-preserved : goal.loop-k-preserved
loop-k-preserved c =
    let f : ℕ → List Defect = λ x. reloc_defects (files_in c.args.view.now) (binding_in c.args.view.now) (leaders_in c.args.view.now) (laid_in c.args.view.now) c.args.site.section (get_or c.args.relocs.now (x - 1) no_reloc) (get_or c.args.relocs.now x no_reloc) in
    pass_step f c.loop-k.k c.args.to _ (omega arith) c.loop-k.invariant c.in_default.ensures

pub returns : goal.returns
returns c =
    let f : ℕ → List Defect = λ x. reloc_defects (files_in c.args.view.now) (binding_in c.args.view.now) (leaders_in c.args.view.now) (laid_in c.args.view.now) c.args.site.section (get_or c.args.relocs.now (x - 1) no_reloc) (get_or c.args.relocs.now x no_reloc) in
    pass_end f c.loop-k.k c.args.to _ (omega arith) c.loop-k.invariant
