use Rattle.std.proofs.Common.{◌<◌, ◌∙◌, ◌++◌, ap, arith, length}
use Rattle.std.proofs.lemmas.List.{length-map}
use Rattle.lk_base.proofs.Loops.{collect_step}
use Rattle.link_passes.specs.Contents.{input_contents, sources_of}
use Rattle.link_passes.specs.Sources.{input_sources, sources_at}
use Rattle.link_passes.proofs.finding.find_sources.Goals as goal

pub loop-input-preserved : goal.loop-input-preserved
loop-input-preserved c =
    let i = c.loop-input.input in
    let contents = input_contents c.args.inputs.now in
    let long = c.args.inputs.now.files.ok.0 in
    let lt : i < length contents = omega (arith, long, c.len-input-end.ensures, length-map c.args.inputs.now.files.items (λ file. file.1.items)) in
    collect_step (sources_at c.args.limits.now contents) i (length contents) (sources_of c.loop-input.list.items) _ _ lt c.loop-input.invariant
    (c.in_ok-push_input.ensures ∙ ap (λ b. sources_of c.loop-input.list.items ++ input_sources c.args.limits.now i b) c.bytes_at.ensures)
