use Rattle.std.proofs.Common.{ℕ, List, sym, ◌∙◌, subst, arith}
use Rattle.link_sections.specs.FoldItems.{item_views}
use Rattle.icf_part.specs.Chosen.{AreShared}
use Rattle.icf_part.specs.Signatures.{bytes_of}
use Rattle.icf_part.proofs.SharedWhole.{numbers_inside, views_wide}
use Rattle.icf_part.proofs.Whole.{all_numbers}
use Rattle.icf_part.proofs.folding.fold.Goals as goal

pub shared_items-requires-clause-few : goal.shared_items-requires-clause-few
shared_items-requires-clause-few g c =
    omega (arith, c.requires.few, all_numbers bytes_of (item_views c.args.items.now) c.as_slice.result.now (c.as_slice.ensures.value ∙ c.in_ok-bytes.ensures), views_wide c.args.items.now)

pub shared_items-requires-clause-within : goal.shared_items-requires-clause-within
shared_items-requires-clause-within g c = numbers_inside c.args.items.now c.as_slice.result.now (c.as_slice.ensures.value ∙ c.in_ok-bytes.ensures)

pub fold_shared-requires-clause-bytes : goal.fold_shared-requires-clause-bytes
fold_shared-requires-clause-bytes g c κs within = c.as_slice-2.ensures.value ∙ c.in_ok-bytes.ensures

pub fold_shared-requires-clause-chosen : goal.fold_shared-requires-clause-chosen
fold_shared-requires-clause-chosen g c κs within =
    let P : List ℕ → Type 0 = λ b. AreShared b c.in_ok-chosen.chosen.items in
    let Q : List ℕ → Type 0 = λ l. AreShared c.as_slice-2.result.now l in
    subst Q (sym c.as_slice-3.ensures.value) (subst P (c.as_slice.ensures.value ∙ sym c.as_slice-2.ensures.value) c.in_ok-chosen.ensures)
