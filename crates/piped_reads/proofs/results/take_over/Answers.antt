use Rattle.std.specs.Prelude.{is_ok}
use Rattle.piped_reads.proofs.results.take_over.Goals as goal

pub returns : goal.returns
returns c = (is_ok c.append.result, c.append.ensures.items)
