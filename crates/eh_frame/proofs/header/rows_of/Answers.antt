use Rattle.std.proofs.Common.{ap, ◌∙◌, rules}
use Rattle.std.proofs.lemmas.List.Sorted.{IsNonDecreasingBy-from_sort_by_key, answers_always}
use Rattle.lk_base.specs.Order.{stable_order}
use Rattle.lk_base.proofs.StableOrder.{sorted_is}
use Rattle.eh_frame.specs.Header.{row_key}
use Rattle.eh_frame.proofs.header.rows_of.Goals as goal

pub returns : goal.returns
returns g c =
    sorted_is row_key c.sort_by_key.new.self.items c.in_ok-rows.rows.items
    (IsNonDecreasingBy-from_sort_by_key row_key _ c.in_ok-sort_by_key.ensures.sorted (λ a r q k. search rules))
    (c.in_ok-sort_by_key.ensures.stable row_key (answers_always _ _ _ (λ f a r q k. search rules)))
    ∙ ap (stable_order row_key) c.in_ok-rows.ensures
