use Rattle.link_driver.proofs.OneLine.{is_line_of}
use Rattle.link_driver.proofs.diagnostics.line_for.Goals as goal

pub invariant_of-result : goal.invariant_of-result
invariant_of-result c = record { one = is_line_of c.in_ok-bytes.bytes.items c.in_ok-bytes.ensures.one_line }
