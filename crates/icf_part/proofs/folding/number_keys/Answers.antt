use Rattle.std.proofs.Common.{ℕ, List, length, flat_map, sym, ap, ◌∙◌, arith}
use Rattle.link_sections.specs.FoldItems.{item_views}
use Rattle.name_numbers.specs.Texts.{text_numbers}
use Rattle.icf_part.specs.Chosen.{views_at}
use Rattle.icf_part.specs.Signatures.{key_at, output_of}
use Rattle.icf_part.proofs.ChosenItems.{items_wide}
use Rattle.icf_part.proofs.RowSteps.{all_rows}
use Rattle.icf_part.proofs.Whole.{all_numbers, key_numbers}
use Rattle.icf_part.proofs.folding.number_keys.Goals as goal

pub all_keys-requires-clause-bytes : goal.all_keys-requires-clause-bytes
all_keys-requires-clause-bytes g c κs within = c.requires.bytes.wide ∙ items_wide (item_views c.args.items.now) c.args.chosen.now

pub all_keys-requires-clause-outputs : goal.all_keys-requires-clause-outputs
all_keys-requires-clause-outputs g c κs within =
    all_numbers output_of (views_at c.args.items.now c.args.chosen.now) c.as_slice.result.now (c.as_slice.ensures.value ∙ c.in_ok-outputs.ensures)
    ∙ items_wide (item_views c.args.items.now) c.args.chosen.now

pub number_rows-requires-after_bounds : goal.number_rows-requires-after_bounds
number_rows-requires-after_bounds g c κs within =
    omega (
      arith,
      c.requires.few,
      ap (λ (p : List (List (List ℕ))). length (flat_map (λ part. part) p)) c.as_slice-2.ensures.value,
      all_rows (key_at (views_at c.args.items.now c.args.chosen.now) c.args.bytes.now c.as_slice.result.now) (length c.args.chosen.now) (flat_map (λ part. part) c.in_ok-parts.parts.items) c.in_ok-parts.ensures,
    )

pub returns : goal.returns
returns g c =
    key_numbers (views_at c.args.items.now c.args.chosen.now) (length c.args.chosen.now) c.args.bytes.now c.as_slice.result.now (flat_map (λ part. part) c.in_ok-parts.parts.items) c.in_ok-keys.keys.items
    (sym (items_wide (item_views c.args.items.now) c.args.chosen.now)) c.requires.bytes (c.as_slice.ensures.value ∙ c.in_ok-outputs.ensures) c.in_ok-parts.ensures
    (c.in_ok-keys.ensures ∙ ap (λ (p : List (List (List ℕ))). text_numbers (flat_map (λ part. part) p)) c.as_slice-2.ensures.value)
