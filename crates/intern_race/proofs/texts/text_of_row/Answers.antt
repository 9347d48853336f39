use Rattle.std.proofs.Common.{sym, ◌∙◌}
use Rattle.intern_race.proofs.Rows.{row_text}
use Rattle.intern_race.proofs.texts.text_of_row.Goals as goal

pub returns : goal.returns
returns c = c.text_of.ensures ∙ sym (row_text c.args.rows.now c.args.i c.args.r c.requires.rows c.requires.row)
