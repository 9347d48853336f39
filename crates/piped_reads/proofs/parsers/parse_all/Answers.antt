use Rattle.piped_reads.proofs.RuleSteps.{admits}
use Rattle.piped_reads.proofs.parsers.parse_all.Goals as goal

pub pass-pass-requires : goal.pass-pass-requires
pass-pass-requires g c = admits
