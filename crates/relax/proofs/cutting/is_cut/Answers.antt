use Rattle.std.proofs.Common.{sym, ◌∙◌}
use Rattle.relax.proofs.Fitting.{stays}
use Rattle.relax.proofs.cutting.is_cut.Goals as goal

pub returns-then-not-moves_bytes : goal.returns-then-not-moves_bytes
returns-then-not-moves_bytes c = sym (stays c.args.size c.args.reloc.now (sym c.moves_bytes.ensures ∙ c.if-not-moves_bytes.true))
