use Rattle.std.proofs.Common.{◌≡◌, drop}
use Rattle.lk_tables.specs.OutputNames.{gathered, texts}
use Rattle.lk_tables.proofs.output_names.gathered.Given as goal

abbrev pub invariant-loop-prefix : goal.invariant-loop-prefix
invariant-loop-prefix l = gathered (texts (drop l.prefix-index l.prefixes)) l.name ≡ gathered (texts l.prefixes) l.name
