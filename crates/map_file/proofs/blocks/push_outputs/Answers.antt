use Rattle.std.proofs.Common.{◌≡◌, ℕ, ◌+◌, ◌<◌, List, length, arith, ap, sym, ◌∙◌}
use Rattle.std.specs.Global.{Vec}
use Rattle.std.proofs.lemmas.List.{length-map}
use Rattle.link_sections.specs.LaidOut.{layout_view, with_contents}
use Rattle.link_sections.specs.Views.{laid_in}
use Rattle.map_file.specs.MapView.{lists_view}
use Rattle.map_file.proofs.FoldedSteps.{listed_at, output_count}
use Rattle.map_file.proofs.OutputSteps.{block_added, blocks_end}
use Rattle.map_file.proofs.blocks.push_outputs.Goals as goal

pub loop-i-preserved : goal.loop-i-preserved
loop-i-preserved c =
    let v = c.args.view.now in
    let list = c.as_slice-outputs.result.now in
    let items : Vec ℕ → List ℕ = λ list. list.items in
    let many : length (lists_view c.args.folded.now) ≡ length c.args.folded.now = length-map c.args.folded.now items in
    let outputs : length (laid_in v).outputs ≡ length list = output_count v ∙ sym (ap length c.as_slice-outputs.ensures.value) in
    let below : c.loop-i.i + 1 < length (lists_view c.args.folded.now) = omega (arith, c.requires.enough, outputs) in
    let sections = c.as_slice.ensures.value ∙ listed_at c.args.folded.now (c.loop-i.i + 1) c.index-folded-i.result (omega (arith, below, many)) c.index-folded-i.is
    ∙ c.requires.each (c.loop-i.i + 1) below in
    block_added v list _ c.loop-i.i c.loop-i.bits.now c.loop-i.nobits_members.now c.bits_after-bits.result.now c.nobits_after-nobits_members.result.now c.members_of-members.result.now
    c.as_slice.result.now c.loop-i.text.items c.push_block.new.text.items _ (omega arith) c.loop-i.invariant c.members_of-members.ensures c.bits_after-bits.ensures c.nobits_after-nobits_members.ensures
    sections c.in_ok-push_block.ensures

pub returns : goal.returns
unfolding layout_view with_contents
returns c =
    let v = c.args.view.now in
    blocks_end v c.as_slice-outputs.result.now c.loop-i.i c.loop-i.bits.now c.loop-i.nobits_members.now c.loop-i.text.items _ (omega arith) c.loop-i.invariant
