use Rattle.std.proofs.Common.{sym, ap, ◌∙◌}
use Rattle.std.proofs.lemmas.Slice.Eq.{bytes_eq-Decides}
use Rattle.intern_race.specs.Texts.{text_at}
use Rattle.intern_race.proofs.Tags.{told_apart}
use Rattle.intern_race.proofs.table.is_text.Goals as goal

pub returns-then-number-i : goal.returns-then-number-i
returns-then-number-i c =
    let texts = c.args.texts.now in
    let d = bytes_eq-Decides (text_at texts c.args.number) (text_at texts c.args.i) in
    sym (d.1 (ap (text_at texts) c.if-number-i.true))

pub returns-then-number-alike : goal.returns-then-number-alike
returns-then-number-alike c =
    let texts = c.args.texts.now in
    let d = bytes_eq-Decides (text_at texts c.args.number) (text_at texts c.args.i) in
    sym (d.1 (ap (text_at texts) c.if-number-alike.true ∙ c.requires.alike))

pub returns-then-has_other : goal.returns-then-has_other
returns-then-has_other c = told_apart c.args.texts.now c.args.tags.now c.args.number c.args.i c.args.tag c.requires.tags c.requires.tag (sym c.has_other.ensures ∙ c.if-has_other.true)
