use Rattle.std.proofs.Common.{◌<◌, ◌∙◌, All, List, Option, ℕ, ap, sym, subst}
use Rattle.std.specs.Prelude.{slice_get, IfSome}
use Rattle.asked_names.specs.AskedNames.{lists_of, named_sections}
use Rattle.lk_tables.specs.BindingView.{binding_view}
use Rattle.lk_tables.specs.Files.{section_total}
use Rattle.lk_tables.specs.TablesView.{files_of}
use Rattle.link_driver.proofs.Certifying.{first_within}
use Rattle.link_driver.proofs.certificates.section_of.Goals as goal

pub returns-clause-section : goal.returns-clause-section
returns-clause-section c =
    let files = files_of c.args.tables.now in
    let b = binding_view c.args.binding.now in
    c.first_of.ensures ∙ ap (λ (l : List ℕ). slice_get l 0) (c.as_slice-2.ensures.value ∙ c.in_ok-sections.ensures.sections
    ∙ ap (named_sections files b) (ap lists_of c.as_slice.ensures.value ∙ c.in_ok-names.ensures))

pub returns-clause-within : goal.returns-clause-within
returns-clause-within c =
    let n = section_total (files_of c.args.tables.now) in
    let P : List ℕ → Type 0 = λ l. All (λ s. s < n) l in
    let Q : Option ℕ → Type 0 = λ o. IfSome o (λ s. s < n) in
    subst Q (sym c.first_of.ensures) (first_within n c.as_slice-2.result.now (subst P (sym c.as_slice-2.ensures.value) c.in_ok-sections.ensures.within))
