use Rattle.why_chain.proofs.Ends.{if_none}
use Rattle.why_chain.proofs.meetings.meet_alike.Goals as goal

pub returns-in_default-clause-queue : goal.returns-in_default-clause-queue
returns-in_default-clause-queue c = if_none _ c.in_ok-end.end c.in_default.is c.in_ok-end.ensures.queue

pub returns-in_default-clause-known : goal.returns-in_default-clause-known
returns-in_default-clause-known c = if_none _ c.in_ok-end.end c.in_default.is c.in_ok-end.ensures.known
