use Rattle.std.proofs.Common.{length, ap, sym, ◌∙◌}
use Rattle.intern_race.specs.declared.texts.Cut.{Cut}
use Rattle.intern_race.specs.Texts.{texts_in}
use Rattle.intern_race.proofs.Rows.{length-cut_texts}
use Rattle.intern_race.proofs.texts.texts_of.Goals as goal

pub returns-in-Whole : goal.returns-in-Whole
returns-in-Whole c = ap (λ (x : Cut). length (texts_in x)) (sym c.in-Whole.is)

pub returns-in-At : goal.returns-in-At
returns-in-At c = sym (length-cut_texts c.in-At.field-0.now c.in-At.ends.now) ∙ ap (λ (x : Cut). length (texts_in x)) (sym c.in-At.is)
