use Rattle.std.proofs.Common.{◌+◌, ◌∙◌, ap}
use Rattle.lk_tables.specs.Targets.{bound}
use Rattle.link_sections.specs.LaidOut.{layout_view, with_contents}
use Rattle.link_sections.specs.Views.{binding_in, files_in}
use Rattle.reloc_apply.specs.Relocated.{offset_word}
use Rattle.reloc_apply.proofs.table_words.offset_in.Goals as goal

pub returns : goal.returns
unfolding layout_view with_contents
returns c =
    let view = c.args.view.now in
    let from = view.layout.now.bounds.tls_start + c.args.more in
    c.offset_of.ensures
    ∙ ap (λ b. offset_word b c.address_of.result from) c.bound.ensures
    ∙ ap (λ a. offset_word (bound (files_in view) (binding_in view) c.args.entry.now.file c.args.entry.now.symbol) a from) c.address_of.ensures
