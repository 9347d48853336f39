use Rattle.std.proofs.Common.{ap, ◌∙◌}
use Rattle.intern_race.specs.Texts.{cut_texts}
use Rattle.str_merge.proofs.CutTexts.{none_cut}
use Rattle.str_merge.proofs.cuts.ends_of.Goals as goal

pub returns-then-size-eq0 : goal.returns-then-size-eq0
unfolding cut_texts
returns-then-size-eq0 c =
    ap (cut_texts c.args.contents.now) c.new.ensures.items ∙ none_cut c.args.contents.now c.args.size c.args.are_strings c.if-size-eq0.true
