use Rattle.std.proofs.Common.{◌≡◌, drop}
use Rattle.piped_reads.specs.Readings.{heads_from, heads_seen}
use Rattle.piped_reads.proofs.HeadSteps.{after_heads}
use Rattle.piped_reads.proofs.reading.read_members.Given as goal

abbrev pub invariant-loop-place : goal.invariant-loop-place
invariant-loop-place l = after_heads (heads_seen l.heads.items) (heads_from l.bytes l.place (drop l.place l.members)) ≡ heads_from l.bytes 0 l.members
