use Rattle.output_sections.proofs.rows.settle.Goals as goal

pub returns-then-noted : goal.returns-then-noted
returns-then-noted c = c.requires.rows c.if-noted.true
