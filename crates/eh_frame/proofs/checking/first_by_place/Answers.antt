use Rattle.std.proofs.Common.{◌≡◌, ◌∙◌, List, ap, flat_map, rules, subst, sym}
use Rattle.std.specs.List.{All}
use Rattle.std.proofs.lemmas.List.Sorted.{IsNonDecreasingBy-from_sort_by_key, answers_always}
use Rattle.lk_base.specs.Order.{stable_order}
use Rattle.lk_base.proofs.StableElements.{all_stable}
use Rattle.lk_base.proofs.StableOrder.{sorted_is}
use Rattle.lk_tables.specs.Frames.{lists_of}
use Rattle.link_sections.specs.Views.{binding_in, files_in, laid_in, leaders_in}
use Rattle.eh_frame.specs.declared.placing.Placed.{Placed}
use Rattle.eh_frame.specs.Bytes.{IsKnown, placed_order, order_of, placed_defects}
use Rattle.eh_frame.proofs.PlacedOrder.{first_of_same}
use Rattle.eh_frame.proofs.checking.first_by_place.Goals as goal

pub first_in-requires-clause-known : goal.first_in-requires-clause-known
first_in-requires-clause-known c =
    let Known : Placed → Type 0 = λ (p : Placed). IsKnown (files_in c.args.view.now) (lists_of c.args.frames.now) p.number in
    let sorted : c.as_slice.result.now ≡ stable_order order_of c.args.placed.now =
    c.as_slice.ensures.value
    ∙ sorted_is order_of c.sort_by_key.new.self.items c.in_ok-ordered.ordered.items
    (IsNonDecreasingBy-from_sort_by_key order_of _ c.in_ok-sort_by_key.ensures.sorted (λ a r q k. search rules))
    (c.in_ok-sort_by_key.ensures.stable order_of (answers_always _ _ _ (λ f a r q k. search rules)))
    ∙ ap (stable_order order_of) (c.in_ok-ordered.ensures.items_if_clones_equal (λ x y h. h)) in
    let P : List Placed → Type 0 = λ l. All Known l in
    subst P (sym sorted) (all_stable Known order_of c.args.placed.now c.requires.known)

pub returns : goal.returns
unfolding placed_order
returns c =
    let defects = placed_defects (files_in c.args.view.now) (binding_in c.args.view.now) (leaders_in c.args.view.now) (laid_in c.args.view.now) (lists_of c.args.frames.now) c.args.start in
    let sorted : c.as_slice.result.now ≡ stable_order order_of c.args.placed.now =
    c.as_slice.ensures.value
    ∙ sorted_is order_of c.sort_by_key.new.self.items c.in_ok-ordered.ordered.items
    (IsNonDecreasingBy-from_sort_by_key order_of _ c.in_ok-sort_by_key.ensures.sorted (λ a r q k. search rules))
    (c.in_ok-sort_by_key.ensures.stable order_of (answers_always _ _ _ (λ f a r q k. search rules)))
    ∙ ap (stable_order order_of) (c.in_ok-ordered.ensures.items_if_clones_equal (λ x y h. h)) in
    first_of_same (flat_map defects c.as_slice.result.now) (flat_map defects (stable_order order_of c.args.placed.now)) c.first_in.result (ap (flat_map defects) sorted) c.first_in.ensures
