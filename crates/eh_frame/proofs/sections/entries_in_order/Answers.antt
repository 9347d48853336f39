use Rattle.std.proofs.Common.{rules, ap, ◌∙◌}
use Rattle.std.proofs.lemmas.List.Sorted.{IsNonDecreasingBy-from_sort_by_key, answers_always}
use Rattle.lk_base.specs.Order.{stable_order}
use Rattle.lk_base.proofs.StableOrder.{sorted_is}
use Rattle.eh_frame.proofs.EntryOrder.{entries_are, offset_of}
use Rattle.eh_frame.proofs.sections.entries_in_order.Goals as goal

pub returns : goal.returns
returns c =
    entries_are c.args.bytes.now c.args.index c.sort_by_key.new.self.items
    (sorted_is offset_of c.sort_by_key.new.self.items c.in_ok-entries.entries.items
    (IsNonDecreasingBy-from_sort_by_key offset_of _ c.in_ok-sort_by_key.ensures.sorted (λ a r q k. search rules))
    (c.in_ok-sort_by_key.ensures.stable offset_of (answers_always _ _ _ (λ f a r q k. search rules)))
    ∙ ap (stable_order offset_of) c.in_ok-entries.ensures)
