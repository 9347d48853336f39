use Rattle.std.proofs.Common.{sym, ◌∙◌}
use Rattle.str_merge.proofs.orders.empty_block.Goals as goal

pub returns : goal.returns
returns c = sym c.in_ok-own.own.ok.0 ∙ c.in_ok-own.ensures.len
