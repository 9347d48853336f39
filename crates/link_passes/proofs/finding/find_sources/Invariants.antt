use Rattle.std.proofs.Common.{◌≡◌, ◌++◌, ◌-◌, flat_map, length}
use Rattle.std.specs.List.{range_with_len}
use Rattle.link_passes.specs.Contents.{input_contents, sources_of}
use Rattle.link_passes.specs.Sources.{sources_at}
use Rattle.link_passes.proofs.finding.find_sources.Given as goal

abbrev pub invariant-loop-input : goal.invariant-loop-input
invariant-loop-input l =
    sources_of l.list.items ++ flat_map (sources_at l.limits (input_contents l.inputs)) (range_with_len l.input (length (input_contents l.inputs) - l.input))
    ≡ flat_map (sources_at l.limits (input_contents l.inputs)) (range_with_len 0 (length (input_contents l.inputs)))
