use Rattle.link_gen.proofs.Lengths.{f_length}
use Rattle.link_gen.proofs.symbols.f_size.Goals as goal

pub returns-clause-value : goal.returns-clause-value
returns-clause-value c = f_length c.args.calls
