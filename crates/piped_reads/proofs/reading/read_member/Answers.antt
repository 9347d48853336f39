use Rattle.piped_reads.proofs.HeadSteps.{member_fails, member_read}
use Rattle.piped_reads.proofs.reading.read_member.Goals as goal

pub returns-in-Ok : goal.returns-in-Ok
returns-in-Ok c = member_read c.args.bytes.now c.args.member.now c.text_of-body.result.now c.is_elf.result c.in-Ok.head c.text_of-body.ensures c.is_elf.ensures c.if-not-is_elf.false c.in-Ok.ensures.exact

pub returns-in-Err : goal.returns-in-Err
returns-in-Err c = member_fails c.args.bytes.now c.args.member.now c.text_of-body.result.now c.is_elf.result c.in-Err.fault c.text_of-body.ensures c.is_elf.ensures c.if-not-is_elf.false c.in-Err.ensures.exact
