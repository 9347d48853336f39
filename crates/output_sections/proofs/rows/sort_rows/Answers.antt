use Rattle.std.proofs.Common.{rules, refl}
use Rattle.std.proofs.lemmas.List.Sorted.{IsNonDecreasingBy-from_sort_by_key, answers_always}
use Rattle.lk_base.proofs.StableOrder.{sorted_is}
use Rattle.output_sections.specs.Order.{key_of}
use Rattle.output_sections.proofs.rows.sort_rows.Goals as goal

pub returns-then-is_ordered : goal.returns-then-is_ordered
returns-then-is_ordered c =
    sorted_is key_of c.args.rows.now.items c.args.rows.now.items
    (rw (c.as_slice.ensures.value) at (c.is_ordered.ensures) (c.if-is_ordered.true)) (λ z. refl)

pub returns : goal.returns
returns c =
    sorted_is key_of c.sort_by_key.new.self.items c.args.rows.now.items
    (IsNonDecreasingBy-from_sort_by_key key_of _ c.in_ok-sort_by_key.ensures.sorted (λ a r q k. search rules))
    (c.in_ok-sort_by_key.ensures.stable key_of (answers_always _ _ _ (λ f a r q k. search rules)))
