use Rattle.std.proofs.Common.{◌≡◌, ◌++◌, drop}
use Rattle.link_passes.specs.Contents.{input_contents, input_names, names_of, sources_of}
use Rattle.link_passes.specs.Sources.{shown_files}
use Rattle.link_driver.proofs.shown.names_if.Given as goal

abbrev pub invariant-loop-source : goal.invariant-loop-source
invariant-loop-source l =
    names_of l.names.items ++ shown_files (input_names l.inputs) (input_contents l.inputs) (sources_of (drop l.source-index l.sources))
    ≡ shown_files (input_names l.inputs) (input_contents l.inputs) (sources_of l.sources)
