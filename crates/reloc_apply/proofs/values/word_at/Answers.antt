use Rattle.std.proofs.Common.{◌≡◌, ◌∙◌, ap, sym, Some}
use Rattle.std.specs.Prelude.{unwrap_or}
use Rattle.lk_tables.specs.declared.section_places.SectionPlace.{SectionPlace}
use Rattle.link_sections.specs.GotEntries.{key_of, word_of}
use Rattle.link_sections.specs.GotView.{entries_of}
use Rattle.link_sections.specs.LaidOut.{with_contents}
use Rattle.link_sections.specs.Views.{binding_in, files_in, laid_in, leaders_in}
use Rattle.lk_tables.specs.Sites.{place_of}
use Rattle.reloc_apply.specs.Values.{word_at, word_for}
use Rattle.reloc_apply.proofs.values.word_at.Goals as goal

pub returns-in-Some-word_of : goal.returns-in-Some-word_of
unfolding word_at with_contents
returns-in-Some-word_of c =
    let view = c.args.view.now in
    let files = files_in view in
    let r = c.args.reloc.now in
    let table = entries_of view.got.now in
    let usage = c.in-Some.usage in
    let key = key_of files (place_of files c.args.site.section).file r.symbol in
    let at : word_of table (key_of files c.args.site.place.file r.symbol) usage ≡ Some c.in-Some-word_of.word =
    ap (λ k. word_of table k usage) (sym c.key_of-key.ensures) ∙ sym c.word_of.ensures ∙ c.in-Some-word_of.is in
    sym (ap (λ o. unwrap_or o 0) at)
    ∙ ap (λ (p : SectionPlace). unwrap_or (word_of table (key_of files p.file r.symbol) usage) 0) c.requires.site.place
    ∙ ap (word_for files (binding_in view) (leaders_in view) (laid_in view) table key) (sym (sym c.use_of.ensures ∙ c.in-Some.is))

pub returns-in-None : goal.returns-in-None
unfolding word_at with_contents
returns-in-None c =
    let view = c.args.view.now in
    let files = files_in view in
    let r = c.args.reloc.now in
    let table = entries_of view.got.now in
    let usage = c.in-Some.usage in
    let key = key_of files (place_of files c.args.site.section).file r.symbol in
    let at = ap (λ k. word_of table k usage) (sym c.key_of-key.ensures) ∙ sym c.word_of.ensures ∙ c.in-None.is in
    sym (ap (λ o. unwrap_or o 0) at)
    ∙ ap (λ (p : SectionPlace). unwrap_or (word_of table (key_of files p.file r.symbol) usage) 0) c.requires.site.place
    ∙ ap (word_for files (binding_in view) (leaders_in view) (laid_in view) table key) (sym (sym c.use_of.ensures ∙ c.in-Some.is))
