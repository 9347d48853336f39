use Rattle.link_passes.proofs.FileFacts.{text_short}
use Rattle.link_passes.proofs.finding.push_member.Goals as goal

pub invariant_of-push : goal.invariant_of-push
invariant_of-push c = record { short = text_short c.args.bytes.now c.text_of-body.result.now c.args.member.now.body c.text_of-body.ensures c.requires }
