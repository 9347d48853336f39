use Rattle.std.proofs.Common.{ℕ, ◌<◌, List, length, get_or, sym, ap, ◌∙◌, subst, arith}
use Rattle.std.proofs.lemmas.List.{length-map}
use Rattle.std.specs.Borrow.{Bor}
use Rattle.name_numbers.specs.Texts.{text_numbers}
use Rattle.icf_part.specs.Chosen.{AreShared}
use Rattle.icf_part.proofs.NumberedRows.{numbers_wide, numbers_within}
use Rattle.icf_part.proofs.sharing.shared_texts.Goals as goal

pub number_texts-requires-after_bounds : goal.number_texts-requires-after_bounds
number_texts-requires-after_bounds g c κs bound =
    let few = c.requires in
    omega (arith, few, ap length c.of-all.ensures, length-map c.args.texts.items (λ (text : Bor (List ℕ)). text.now))

pub shared_items-requires-clause-few : goal.shared_items-requires-clause-few
shared_items-requires-clause-few g c =
    let few = c.requires in
    omega (
      arith,
      few,
      ap length (c.as_slice.ensures.value ∙ c.in_ok-numbers.ensures),
      numbers_wide c.of-all.result,
      ap length c.of-all.ensures,
      length-map c.args.texts.items (λ (text : Bor (List ℕ)). text.now),
    )

pub shared_items-requires-clause-within : goal.shared_items-requires-clause-within
shared_items-requires-clause-within g c =
    let P : List ℕ → Type 0 = λ l. (a : ℕ) → a < length l → get_or l a 0 < length l in
    subst P (sym (c.as_slice.ensures.value ∙ c.in_ok-numbers.ensures)) (numbers_within c.of-all.result)

pub returns : goal.returns
returns g c =
    let P : List ℕ → Type 0 = λ b. AreShared b c.in_ok-list.list.items in
    subst P (c.as_slice.ensures.value ∙ c.in_ok-numbers.ensures ∙ ap text_numbers c.of-all.ensures) c.in_ok-list.ensures
