use Rattle.std.proofs.Common.{◌∙◌, [], ap, arith, get_or}
use Rattle.std.proofs.lemmas.List.FromFn.{get_or-map-range_with_len}
use Rattle.lk_tables.specs.BindingView.{binding_view}
use Rattle.lk_tables.specs.Files.{section_total}
use Rattle.lk_tables.specs.Frames.{all_frames, all_lists, frames_at}
use Rattle.lk_tables.specs.TablesView.{files_of}
use Rattle.sec_graph.proofs.frame_relocs.fdes_of.Goals as goal

pub returns : goal.returns
unfolding all_frames
returns c =
    let files = files_of c.args.tables.now in
    let b = binding_view c.args.binding.now in
    let n = c.args.section in
    c.of_section.ensures ∙ ap (λ l. get_or l n []) c.requires.frames.of
    ∙ get_or-map-range_with_len (frames_at files b (all_lists files)) 0 (section_total files) n n [] c.requires.section (omega arith)
