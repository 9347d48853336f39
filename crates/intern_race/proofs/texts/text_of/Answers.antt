use Rattle.std.proofs.Common.{◌≡◌, ◌<◌, ◌∷◌, [], length, ap, sym, ◌∙◌, subst, arith}
use Rattle.intern_race.specs.declared.texts.Cut.{Cut}
use Rattle.intern_race.specs.Texts.{text_at, texts_in}
use Rattle.intern_race.proofs.Rows.{cut_at, length-cut_texts}
use Rattle.intern_race.proofs.texts.text_of.Goals as goal

pub text_between-requires : goal.text_between-requires
text_between-requires c =
    let Below : Cut → Type 0 = λ x. c.args.k < length (texts_in x) in
    let lt = subst Below c.in-At.is c.requires in
    let long = length-cut_texts c.in-At.bytes.now c.in-At.ends.now in
    omega (arith, lt, long)

pub returns-in-Whole : goal.returns-in-Whole
returns-in-Whole c =
    let Below : Cut → Type 0 = λ x. c.args.k < length (texts_in x) in
    let lt : c.args.k < 1 = subst Below c.in-Whole.is c.requires in
    let first : 0 ≡ c.args.k = omega (arith, lt) in
    ap (λ n. text_at (c.in-Whole.text.now ∷ []) n) first ∙ ap (λ (x : Cut). text_at (texts_in x) c.args.k) (sym c.in-Whole.is)

pub returns-in-At : goal.returns-in-At
returns-in-At c =
    let Below : Cut → Type 0 = λ x. c.args.k < length (texts_in x) in
    let lt = subst Below c.in-At.is c.requires in
    let long = length-cut_texts c.in-At.bytes.now c.in-At.ends.now in
    c.text_between.ensures ∙ sym (cut_at c.in-At.bytes.now c.in-At.ends.now c.args.k (omega (arith, lt, long))) ∙ ap (λ (x : Cut). text_at (texts_in x) c.args.k) (sym c.in-At.is)
