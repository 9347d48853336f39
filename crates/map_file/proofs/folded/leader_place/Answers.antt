use Rattle.std.proofs.Common.{ap, ◌∙◌}
use Rattle.lk_tables.specs.declared.section_places.SectionPlace.{SectionPlace}
use Rattle.lk_tables.specs.Sites.{place_of}
use Rattle.link_sections.specs.GotView.{entries_of}
use Rattle.link_sections.specs.InputSections.{input_at, input_of}
use Rattle.link_sections.specs.LaidOut.{layout_view}
use Rattle.link_sections.specs.Leaders.{leader_of}
use Rattle.link_sections.specs.PoolViews.{pools_view}
use Rattle.link_sections.specs.Views.{binding_in, files_in, leaders_in}
use Rattle.symbol_table.specs.Outputs.{place_in}
use Rattle.symbol_table.proofs.OutputPlaces.{same_place}
use Rattle.map_file.proofs.folded.leader_place.Goals as goal

pub returns : goal.returns
returns c =
    let v = c.args.view.now in
    let files = files_in v in
    let b = binding_in v in
    let input = c.input_in-input.ensures ∙ ap (λ (p : SectionPlace). input_of files b p.file p.index) (c.place_of-place.ensures.place ∙ ap (place_of files) c.leader_of.ensures) in
    c.place_of.ensures ∙ ap (place_in (layout_view v.layout.now)) input
    ∙ same_place (layout_view v.layout.now) (pools_view files v.pools.now) (entries_of v.got.now) (input_at files b (leader_of (leaders_in v) c.args.section))
