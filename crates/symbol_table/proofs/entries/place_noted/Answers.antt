use Rattle.std.proofs.Common.{◌≡◌, ◌-◌, ℕ, ap, sym, ◌∙◌, inl, inr}
use Rattle.lk_tables.specs.Files.{section_no}
use Rattle.lk_tables.specs.InputSections.{input_of}
use Rattle.link_sections.specs.GotView.{entries_of}
use Rattle.link_sections.specs.LaidOut.{layout_view}
use Rattle.link_sections.specs.PoolViews.{pools_view}
use Rattle.link_sections.specs.Views.{binding_in, files_in, laid_in}
use Rattle.symbol_table.specs.Outputs.{place_in}
use Rattle.symbol_table.specs.SymbolTable.{section_in}
use Rattle.symbol_table.proofs.OutputPlaces.{same_place}
use Rattle.symbol_table.proofs.entries.place_noted.Goals as goal

pub returns-in-Some-clause-place : goal.returns-in-Some-clause-place
returns-in-Some-clause-place c =
    let v = c.args.view.now in
    let files = files_in v in
    let b = binding_in v in
    let f = c.args.file in
    let index : c.saturating_sub-index.result ≡ c.args.section - section_no files f 0 = c.saturating_sub-index.ensures ∙ ap (λ n. c.args.section - n) c.section_no.ensures in
    c.requires.seen c.saturating_sub-index.result c.in-Some.place (sym c.seen_at.ensures ∙ c.in-Some.is) ∙ ap (λ k. place_in (laid_in v) (input_of files b f k)) index

pub returns-clause-place : goal.returns-clause-place
returns-clause-place c =
    let v = c.args.view.now in
    let files = files_in v in
    c.place_of-place.ensures ∙ ap (place_in (layout_view v.layout.now)) c.requires.input
    ∙ same_place (layout_view v.layout.now) (pools_view files v.pools.now) (entries_of v.got.now) (section_in files (binding_in v) c.args.file c.args.section)

pub returns-clause-seen : goal.returns-clause-seen
returns-clause-seen c = λ i p is.
    let v = c.args.view.now in
    let files = files_in v in
    let b = binding_in v in
    let f = c.args.file in
    let index : c.saturating_sub-index.result ≡ c.args.section - section_no files f 0 = c.saturating_sub-index.ensures ∙ ap (λ n. c.args.section - n) c.section_no.ensures in
    let own : c.place_of-place.result ≡ place_in (laid_in v) (section_in files b f c.args.section) =
    c.place_of-place.ensures ∙ ap (place_in (layout_view v.layout.now)) c.requires.input
    ∙ same_place (layout_view v.layout.now) (pools_view files v.pools.now) (entries_of v.got.now) (section_in files b f c.args.section) in
    elim (c.note_place.ensures i p is) [
      | inl before ↦ c.requires.seen i p before
      | inr (at, same) ↦ same ∙ own ∙ ap (λ k. place_in (laid_in v) (input_of files b f k)) (sym (at ∙ index))
    ]
