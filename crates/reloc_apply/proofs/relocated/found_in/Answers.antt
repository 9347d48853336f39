use Rattle.std.proofs.Common.{◌∙◌, ℕ, List, Option, Some, None, refl, sym, subst}
use Rattle.lk_base.specs.Firsts.{BeginsWith, IsFirst}
use Rattle.lk_base.specs.declared.defects.Defect.{Defect}
use Rattle.link_sections.specs.Views.{binding_in, files_in, laid_in, leaders_in}
use Rattle.reloc_apply.specs.Founds.{IsFound}
use Rattle.reloc_apply.specs.Relocated.{section_touching}
use Rattle.reloc_apply.proofs.FoundSteps.{touching_is}
use Rattle.reloc_apply.proofs.MemberFacts.{written}
use Rattle.reloc_apply.proofs.relocated.found_in.Goals as goal

pub source_of-requires : goal.source_of-requires
source_of-requires c =
    let view = c.args.view.now in
    (written (files_in view) (binding_in view) (leaders_in view) (laid_in view) c.args.k c.in-Some.section view.sound c.requires.member
    (sym c.section_in.ensures ∙ c.in-Some.is)).laid_is

pub returns-in_default-first_touching : goal.returns-in_default-first_touching
returns-in_default-first_touching c =
    let view = c.args.view.now in
    let o = sym c.section_in.ensures ∙ c.in-Some.is in
    let own = written (files_in view) (binding_in view) (leaders_in view) (laid_in view) c.args.k c.in-Some.section view.sound c.requires.member o in
    let P : Option ℕ → Type 0 = λ w. IsFound (section_touching (files_in view) (binding_in view) (leaders_in view) (laid_in view) c.args.from c.args.len) w None in
    let Q : List Defect → Type 0 = λ l. IsFirst l None in
    let whole = touching_is (files_in view) (binding_in view) (leaders_in view) (laid_in view) c.args.from c.args.len c.in-Some.section c.source_of.result.site.section
    c.source_of.result.relocs.now own.laid_is c.source_of.ensures.section c.source_of.ensures.source.relocs in
    subst P (sym o) (subst Q whole c.in_default-first_touching.ensures)

pub returns : goal.returns
returns c =
    let view = c.args.view.now in
    let o = sym c.section_in.ensures ∙ c.in-Some.is in
    let own = written (files_in view) (binding_in view) (leaders_in view) (laid_in view) c.args.k c.in-Some.section view.sound c.requires.member o in
    let P : Option ℕ → Type 0 = λ w. IsFound (section_touching (files_in view) (binding_in view) (leaders_in view) (laid_in view) c.args.from c.args.len) w
    (Some (record { section = c.in-Some.section; defect = c.in-Some-first_touching.defect })) in
    let Q : List Defect → Type 0 = λ l. BeginsWith l c.in-Some-first_touching.defect in
    let whole = touching_is (files_in view) (binding_in view) (leaders_in view) (laid_in view) c.args.from c.args.len c.in-Some.section c.source_of.result.site.section
    c.source_of.result.relocs.now own.laid_is c.source_of.ensures.section c.source_of.ensures.source.relocs in
    subst P (sym o) (refl, subst Q whole c.in-Some-first_touching.ensures)
