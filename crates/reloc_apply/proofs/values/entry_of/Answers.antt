use Rattle.std.proofs.Common.{◌≡◌, ◌+◌, ◌*◌, ap, pos, ◌+ℤ◌, rules}
use Rattle.link_sections.specs.LaidOut.{layout_view, with_contents}
use Rattle.link_sections.specs.Views.{binding_in, files_in, laid_in, leaders_in}
use Rattle.reloc_apply.specs.Values.{entry_of}
use Rattle.reloc_apply.proofs.values.entry_of.Goals as goal

pub returns-clause-value : goal.returns-clause-value
unfolding entry_of layout_view with_contents
returns-clause-value c =
    let view = c.args.view.now in
    let r = c.args.reloc.now in
    let same : pos (view.layout.now.got + 8 * c.word_at.result) +ℤ r.addend ≡ entry_of (files_in view) (binding_in view) (leaders_in view) (laid_in view) c.args.site.section r =
    ap (λ w. pos (view.layout.now.got + 8 * w) +ℤ r.addend) c.word_at.ensures in
    search (rules, same)
