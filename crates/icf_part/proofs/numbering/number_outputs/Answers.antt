use Rattle.std.proofs.Common.{length, ap, arith}
use Rattle.std.proofs.lemmas.List.{length-map}
use Rattle.link_sections.specs.FoldItems.{item_views}
use Rattle.icf_part.specs.Chosen.{views_at}
use Rattle.icf_part.specs.Signatures.{output_of}
use Rattle.icf_part.proofs.ChosenItems.{items_wide}
use Rattle.icf_part.proofs.numbering.number_outputs.Goals as goal

pub number_texts-requires-after_bounds : goal.number_texts-requires-after_bounds
number_texts-requires-after_bounds g c κs within =
    omega (
      arith,
      c.requires.few,
      ap length c.of.ensures,
      ap length c.in_ok-texts.ensures,
      length-map (views_at c.args.items.now c.args.chosen.now) output_of,
      items_wide (item_views c.args.items.now) c.args.chosen.now,
    )
