use Rattle.std.proofs.Common.{◌≡◌, map, take}
use Rattle.link_sections.specs.declared.fold_items.FoldItem.{FoldItem as LentItem}
use Rattle.name_numbers.specs.Texts.{lent_texts}
use Rattle.icf_part.proofs.numbering.contents_of.Given as goal

abbrev pub invariant-loop-a : goal.invariant-loop-a
invariant-loop-a l = lent_texts l.texts.items ≡ map (λ (i : LentItem). i.bytes.now) (take l.a l.items)
