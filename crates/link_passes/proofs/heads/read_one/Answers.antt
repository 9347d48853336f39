use Rattle.std.proofs.Common.{rules}
use Rattle.link_passes.specs.Contents.{source_view}
use Rattle.link_passes.proofs.FileFacts.{head_read}
use Rattle.link_passes.proofs.heads.read_one.Goals as goal

pub returns-in-Ok-clause-head : goal.returns-in-Ok-clause-head
returns-in-Ok-clause-head c = head_read (source_view c.args.source.now) c.in-Ok.head (search rules) (search rules) (search rules)
