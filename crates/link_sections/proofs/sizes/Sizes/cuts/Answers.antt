use Rattle.std.proofs.Common.{sym, subst}
use Rattle.link_sections.specs.CutsView.{AreCuts}
use Rattle.link_sections.proofs.CutRows.{cuts_in}
use Rattle.link_sections.proofs.sizes.Sizes.cuts.Goals as goal

pub returns-clause-sound : goal.returns-clause-sound
returns-clause-sound c = subst AreCuts (sym c.row.ensures) (cuts_in c.args.self.now.rows c.args.section c.args.self.now.sound)
