use Rattle.std.proofs.Common.{◌-◌, get_or, take, drop, ap, ◌∙◌}
use Rattle.intern_race.specs.Texts.{cut_text}
use Rattle.intern_race.proofs.texts.text_between.Goals as goal

pub returns : goal.returns
unfolding cut_text
returns c =
    let bytes = c.args.bytes.now in
    let k = c.args.k in
    c.part_of.ensures ∙ ap (λ s. take (get_or c.args.ends.now k 0 - s) (drop s bytes)) c.start_of.ensures
