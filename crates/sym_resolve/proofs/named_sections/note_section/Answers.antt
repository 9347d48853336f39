use Rattle.std.proofs.Common.{◌≡◌, None, Some, List, ℕ, sym, ap, ◌∙◌, subst}
use Rattle.std.specs.Option.{option_or}
use Rattle.indexmap.specs.IndexMap.{get}
use Rattle.lk_tables.specs.declared.section_places.SectionPlace.{SectionPlace}
use Rattle.lk_tables.specs.BindingView.{binding_view}
use Rattle.lk_tables.specs.InputSections.{input_at, may_stay_at}
use Rattle.lk_tables.specs.LinkerSymbols.{is_named}
use Rattle.lk_tables.specs.TablesView.{files_of}
use Rattle.sym_resolve.specs.NamedSections.{eq_names, name_if}
use Rattle.sym_resolve.proofs.NamedSections.{number_none, number_some, on_ok, or_none}
use Rattle.sym_resolve.proofs.named_sections.note_section.Goals as goal

pub returns-in_default : goal.returns-in_default
unfolding is_named
returns-in_default c = λ q named.
    let files = files_of c.args.tables.now in
    let b = binding_view c.args.binding.now in
    let n = c.args.section in
    let P : SectionPlace → Type 0 = λ p. None ≡ name_if files b p.file p.index in
    let held = subst P c.place_of-place.ensures.place c.in_default.ensures in
    or_none (get eq_names c.args.sections.now q)
    ∙ ap (option_or (get eq_names c.args.sections.now q)) (sym (number_none (may_stay_at files b n) (input_at files b n).name q.now n held named))

pub returns : goal.returns
unfolding is_named
returns c =
    let files = files_of c.args.tables.now in
    let b = binding_view c.args.binding.now in
    let n = c.args.section in
    let own : List ℕ = c.in-Some.name.now in
    let P : SectionPlace → Type 0 = λ p. Some own ≡ name_if files b p.file p.index in
    let held = subst P c.place_of-place.ensures.place c.in-Some.ensures in
    on_ok c.note.result (λ noted. λ q named.
    noted q ∙ ap (option_or (get eq_names c.args.sections.now q)) (number_some (may_stay_at files b n) (input_at files b n).name own q.now n held)) c.note.ensures
