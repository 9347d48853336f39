use Rattle.std.proofs.Common.{◌∙◌, ap, sym}
use Rattle.link_sections.specs.Calls.{call_size}
use Rattle.link_sections.specs.CutsView.{cut_views}
use Rattle.link_sections.specs.LaidOut.{with_contents}
use Rattle.reloc_apply.proofs.LaidCuts.{cuts_of}
use Rattle.reloc_apply.proofs.calls.size_of.Goals as goal

pub returns : goal.returns
unfolding with_contents
returns c =
    c.call_size.ensures
    ∙ ap (λ cs. call_size cs c.args.offset) (ap cut_views c.cuts.ensures.value ∙ sym (cuts_of c.args.view.now.layout.now c.args.section))
