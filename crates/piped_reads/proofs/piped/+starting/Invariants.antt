use Rattle.std.proofs.Common.{◌+◌, ◌*◌}
use Rattle.piped_reads.proofs.piped.+starting.Given as goal

abbrev pub decreases-join_mut+arg3 : goal.decreases-join_mut+arg3
decreases-join_mut+arg3 g l = 2 * l.later + 1

abbrev pub decreases-with_parsers : goal.decreases-with_parsers
decreases-with_parsers g l = 2 * l.left
