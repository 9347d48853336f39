use Rattle.std.proofs.Common.{ℕ, List, ◌≡◌, ◌+◌, ap, sym, ◌∙◌, arith}
use Rattle.std.proofs.lemmas.Slice.Eq.{bytes_eq-Decides}
use Rattle.name_numbers.specs.Texts.{text_at}
use Rattle.name_numbers.proofs.BlockTexts.{alike_set}
use Rattle.name_numbers.proofs.blocks.compare_other.Goals as goal

pub bounds-alike-k : goal.bounds-alike-k
bounds-alike-k c = let wide = c.requires.alike.wide in omega (arith, wide)

pub returns-then-is_same-clause-alike : goal.returns-then-is_same-clause-alike
returns-then-is_same-clause-alike c =
    let texts = c.args.texts.now in
    let d = bytes_eq-Decides c.args.text.now c.text.result.now in
    let equal : c.args.text.now ≡ c.text.result.now = d.0 (sym c.is_same.ensures ∙ c.if-is_same.true) in
    alike_set texts c.args.from c.args.count c.args.k c.args.other c.args.alike.now (omega arith) (sym c.requires.other ∙ equal ∙ c.text.ensures) c.requires.alike
