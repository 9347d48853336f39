use Rattle.std.proofs.Common.{List, ◌∙◌, ◌++◌, ap, map, flat_map, get_or, arith}
use Rattle.lk_tables.specs.BindingView.{binding_view}
use Rattle.lk_tables.specs.Frames.{RecordList, frame_no}
use Rattle.lk_tables.specs.TablesView.{files_of}
use Rattle.sec_graph.specs.FrameKeys.{number_of}
use Rattle.sec_graph.specs.FrameRelocs.{cie_no, cies_of}
use Rattle.sec_graph.specs.Graph.{cie_ends}
use Rattle.sec_graph.proofs.FramePushes.{one_element, only_cie}
use Rattle.sec_graph.proofs.frame_ends.push_cies.Goals as goal

pub cie_of-cie-requires : goal.cie_of-cie-requires
cie_of-cie-requires c = c.requires.within.order

pub cies_of-requires : goal.cies_of-requires
cies_of-requires c = c.requires.within.order

pub returns-then-fdes-eq1 : goal.returns-then-fdes-eq1
returns-then-fdes-eq1 c =
    let files = files_of c.args.tables.now in
    let b = binding_view c.args.binding.now in
    let fdes = c.args.fdes.now in
    let fde = get_or fdes 0 (frame_no 0 0) in
    only_cie files b fdes fde c.args.ends.now.items c.push_cie.new.ends.items (one_element fdes (frame_no 0 0) (omega (arith, c.if-fdes-eq1.true)))
    (c.in_ok-push_cie.ensures
    ∙ ap (λ n. c.args.ends.now.items ++ cie_ends files b n) (c.cie_of-cie.ensures ∙ ap (λ (ls : List RecordList). cie_no ls fde) c.requires.lists))

pub returns : goal.returns
returns c =
    let files = files_of c.args.tables.now in
    let b = binding_view c.args.binding.now in
    let old = c.args.ends.now.items in
    c.in_ok-push_all.ensures ∙ ap (λ l. old ++ flat_map (cie_ends files b) (map number_of l)) c.as_slice.ensures.keys
    ∙ ap (λ l. old ++ flat_map (cie_ends files b) l) c.in_ok-cies.ensures
    ∙ ap (λ ls. old ++ flat_map (cie_ends files b) (cies_of ls c.args.fdes.now)) c.requires.lists
