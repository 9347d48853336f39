use Rattle.std.proofs.Common.{sym, ◌∙◌}
use Rattle.eh_frame.proofs.Lengths.{whole_from}
use Rattle.eh_frame.proofs.reading.length_at.Goals as goal

pub word_at-requires : goal.word_at-requires
word_at-requires c = (whole_from c.args.bytes.now c.args.at (sym c.is_bad_length.ensures ∙ c.if-is_bad_length.false)).0

pub returns-clause-least : goal.returns-clause-least
returns-clause-least c =
    let h = whole_from c.args.bytes.now c.args.at (sym c.is_bad_length.ensures ∙ c.if-is_bad_length.false) in
    rw c.word_at.ensures h.1

pub returns-clause-whole : goal.returns-clause-whole
returns-clause-whole c =
    let h = whole_from c.args.bytes.now c.args.at (sym c.is_bad_length.ensures ∙ c.if-is_bad_length.false) in
    rw c.word_at.ensures h.2
