use Rattle.std.proofs.Common.{ℕ, ◌<◌, All, List, length, flat_map, sym, ap, ◌∙◌, subst, arith}
use Rattle.std.specs.List.Sorted.{IsStrictlyIncreasing}
use Rattle.link_sections.specs.FoldItems.{item_views}
use Rattle.name_numbers.specs.Texts.{text_numbers}
use Rattle.icf_part.specs.Chosen.{views_at}
use Rattle.icf_part.specs.Counts.{leader_count}
use Rattle.icf_part.specs.Signatures.{rest_at}
use Rattle.icf_part.proofs.ChosenItems.{items_wide}
use Rattle.icf_part.proofs.RowSteps.{all_rows}
use Rattle.icf_part.proofs.Whole.{all_ends, all_sections, all_steps, few_steps, first_classes, first_ends, first_firsts, folded, start_fewer}
use Rattle.icf_part.proofs.folding.fold_chosen.Goals as goal

pub of-requires-clause-order : goal.of-requires-clause-order
of-requires-clause-order g c = subst IsStrictlyIncreasing (sym c.in_ok-list.ensures) c.requires.order

pub of-requires-clause-few : goal.of-requires-clause-few
of-requires-clause-few g c =
    omega (arith, c.requires.few, items_wide (item_views c.args.items.now) c.args.chosen.now, all_sections (views_at c.args.items.now c.args.chosen.now) c.in_ok-list.list.items c.in_ok-list.ensures)

pub all_places-requires-clause-few : goal.all_places-requires-clause-few
all_places-requires-clause-few g c =
    omega (arith, c.requires.few, items_wide (item_views c.args.items.now) c.args.chosen.now, all_sections (views_at c.args.items.now c.args.chosen.now) c.in_ok-sections.sections (c.in_ok-sections.ensures ∙ c.in_ok-list.ensures))

pub all_rests-requires-clause-few : goal.all_rests-requires-clause-few
all_rests-requires-clause-few g c =
    omega (arith, c.requires.few, items_wide (item_views c.args.items.now) c.args.chosen.now, all_sections (views_at c.args.items.now c.args.chosen.now) c.in_ok-sections.sections (c.in_ok-sections.ensures ∙ c.in_ok-list.ensures))

pub all_rests-requires-clause-keys : goal.all_rests-requires-clause-keys
all_rests-requires-clause-keys g c κs within = ap length c.as_slice-3.ensures.value ∙ c.in_ok-keys.ensures.wide

pub number_rows-requires-after_bounds : goal.number_rows-requires-after_bounds
number_rows-requires-after_bounds g c κs within =
    omega (arith, c.requires.few, ap (λ (p : List (List (List ℕ))). length (flat_map (λ part. part) p)) c.as_slice-5.ensures.value, all_rows (rest_at (views_at c.args.items.now c.args.chosen.now) c.as_slice-3.result.now c.in_ok-ends.ends) (length c.args.chosen.now) (flat_map (λ part. part) c.in_ok-parts.parts.items) c.in_ok-parts.ensures)

pub refine-requires-clause-few : goal.refine-requires-clause-few
refine-requires-clause-few g c = omega (arith, c.requires.few, items_wide (item_views c.args.items.now) c.args.chosen.now, all_ends (views_at c.args.items.now c.args.chosen.now) c.in_ok-ends.ends c.in_ok-ends.ensures)

pub refine-requires-clause-firsts : goal.refine-requires-clause-firsts
refine-requires-clause-firsts g c =
    let first = first_classes (views_at c.args.items.now c.args.chosen.now) (length c.args.chosen.now) c.in_ok-keys.keys.items c.as_slice-3.result.now c.in_ok-ends.ends (flat_map (λ part. part) c.in_ok-parts.parts.items) c.in_ok-start.start.items
    (sym (items_wide (item_views c.args.items.now) c.args.chosen.now)) c.in_ok-keys.ensures c.as_slice-3.ensures.value c.in_ok-ends.ensures c.in_ok-parts.ensures (c.in_ok-start.ensures ∙ ap (λ (p : List (List (List ℕ))). text_numbers (flat_map (λ part. part) p)) c.as_slice-5.ensures.value) in
    first_firsts (views_at c.args.items.now c.args.chosen.now) c.in_ok-keys.keys.items c.in_ok-start.start.items c.in_ok-ends.ends c.in_ok-ends.ensures first

pub refine-requires-clause-ends : goal.refine-requires-clause-ends
refine-requires-clause-ends g c =
    let first = first_classes (views_at c.args.items.now c.args.chosen.now) (length c.args.chosen.now) c.in_ok-keys.keys.items c.as_slice-3.result.now c.in_ok-ends.ends (flat_map (λ part. part) c.in_ok-parts.parts.items) c.in_ok-start.start.items
    (sym (items_wide (item_views c.args.items.now) c.args.chosen.now)) c.in_ok-keys.ensures c.as_slice-3.ensures.value c.in_ok-ends.ensures c.in_ok-parts.ensures (c.in_ok-start.ensures ∙ ap (λ (p : List (List (List ℕ))). text_numbers (flat_map (λ part. part) p)) c.as_slice-5.ensures.value) in
    first_ends (views_at c.args.items.now c.args.chosen.now) c.in_ok-keys.keys.items c.in_ok-start.start.items c.in_ok-ends.ends c.in_ok-ends.ensures first

pub returns-clause-leaders : goal.returns-clause-leaders
returns-clause-leaders g c =
    let first = first_classes (views_at c.args.items.now c.args.chosen.now) (length c.args.chosen.now) c.in_ok-keys.keys.items c.as_slice-3.result.now c.in_ok-ends.ends (flat_map (λ part. part) c.in_ok-parts.parts.items) c.in_ok-start.start.items
    (sym (items_wide (item_views c.args.items.now) c.args.chosen.now)) c.in_ok-keys.ensures c.as_slice-3.ensures.value c.in_ok-ends.ensures c.in_ok-parts.ensures (c.in_ok-start.ensures ∙ ap (λ (p : List (List (List ℕ))). text_numbers (flat_map (λ part. part) p)) c.as_slice-5.ensures.value) in
    let all = folded (views_at c.args.items.now c.args.chosen.now) c.in_ok-keys.keys.items c.in_ok-start.start.items c.in_ok-leaders.leaders.items c.in_ok-ends.ends c.requires.order c.in_ok-ends.ensures first c.in_ok-leaders.ensures.refined in
    all.leaders

pub returns-clause-congruence : goal.returns-clause-congruence
returns-clause-congruence g c =
    let first = first_classes (views_at c.args.items.now c.args.chosen.now) (length c.args.chosen.now) c.in_ok-keys.keys.items c.as_slice-3.result.now c.in_ok-ends.ends (flat_map (λ part. part) c.in_ok-parts.parts.items) c.in_ok-start.start.items
    (sym (items_wide (item_views c.args.items.now) c.args.chosen.now)) c.in_ok-keys.ensures c.as_slice-3.ensures.value c.in_ok-ends.ensures c.in_ok-parts.ensures (c.in_ok-start.ensures ∙ ap (λ (p : List (List (List ℕ))). text_numbers (flat_map (λ part. part) p)) c.as_slice-5.ensures.value) in
    let all = folded (views_at c.args.items.now c.args.chosen.now) c.in_ok-keys.keys.items c.in_ok-start.start.items c.in_ok-leaders.leaders.items c.in_ok-ends.ends c.requires.order c.in_ok-ends.ensures first c.in_ok-leaders.ensures.refined in
    all.congruence

pub returns-clause-greatest : goal.returns-clause-greatest
returns-clause-greatest g c =
    let first = first_classes (views_at c.args.items.now c.args.chosen.now) (length c.args.chosen.now) c.in_ok-keys.keys.items c.as_slice-3.result.now c.in_ok-ends.ends (flat_map (λ part. part) c.in_ok-parts.parts.items) c.in_ok-start.start.items
    (sym (items_wide (item_views c.args.items.now) c.args.chosen.now)) c.in_ok-keys.ensures c.as_slice-3.ensures.value c.in_ok-ends.ensures c.in_ok-parts.ensures (c.in_ok-start.ensures ∙ ap (λ (p : List (List (List ℕ))). text_numbers (flat_map (λ part. part) p)) c.as_slice-5.ensures.value) in
    let all = folded (views_at c.args.items.now c.args.chosen.now) c.in_ok-keys.keys.items c.in_ok-start.start.items c.in_ok-leaders.leaders.items c.in_ok-ends.ends c.requires.order c.in_ok-ends.ensures first c.in_ok-leaders.ensures.refined in
    all.greatest

pub returns-clause-places : goal.returns-clause-places
returns-clause-places g c =
    let first = first_classes (views_at c.args.items.now c.args.chosen.now) (length c.args.chosen.now) c.in_ok-keys.keys.items c.as_slice-3.result.now c.in_ok-ends.ends (flat_map (λ part. part) c.in_ok-parts.parts.items) c.in_ok-start.start.items
    (sym (items_wide (item_views c.args.items.now) c.args.chosen.now)) c.in_ok-keys.ensures c.as_slice-3.ensures.value c.in_ok-ends.ensures c.in_ok-parts.ensures (c.in_ok-start.ensures ∙ ap (λ (p : List (List (List ℕ))). text_numbers (flat_map (λ part. part) p)) c.as_slice-5.ensures.value) in
    let all = folded (views_at c.args.items.now c.args.chosen.now) c.in_ok-keys.keys.items c.in_ok-start.start.items c.in_ok-leaders.leaders.items c.in_ok-ends.ends c.requires.order c.in_ok-ends.ensures first c.in_ok-leaders.ensures.refined in
    let P : ℕ → Type 0 = λ n. All (λ p. p < n) c.in_ok-leaders.leaders.items in
    subst P (items_wide (item_views c.args.items.now) c.args.chosen.now) all.places

pub returns-clause-own : goal.returns-clause-own
returns-clause-own g c =
    let first = first_classes (views_at c.args.items.now c.args.chosen.now) (length c.args.chosen.now) c.in_ok-keys.keys.items c.as_slice-3.result.now c.in_ok-ends.ends (flat_map (λ part. part) c.in_ok-parts.parts.items) c.in_ok-start.start.items
    (sym (items_wide (item_views c.args.items.now) c.args.chosen.now)) c.in_ok-keys.ensures c.as_slice-3.ensures.value c.in_ok-ends.ensures c.in_ok-parts.ensures (c.in_ok-start.ensures ∙ ap (λ (p : List (List (List ℕ))). text_numbers (flat_map (λ part. part) p)) c.as_slice-5.ensures.value) in
    let all = folded (views_at c.args.items.now c.args.chosen.now) c.in_ok-keys.keys.items c.in_ok-start.start.items c.in_ok-leaders.leaders.items c.in_ok-ends.ends c.requires.order c.in_ok-ends.ensures first c.in_ok-leaders.ensures.refined in
    all.own

pub returns-clause-least : goal.returns-clause-least
returns-clause-least g c =
    let first = first_classes (views_at c.args.items.now c.args.chosen.now) (length c.args.chosen.now) c.in_ok-keys.keys.items c.as_slice-3.result.now c.in_ok-ends.ends (flat_map (λ part. part) c.in_ok-parts.parts.items) c.in_ok-start.start.items
    (sym (items_wide (item_views c.args.items.now) c.args.chosen.now)) c.in_ok-keys.ensures c.as_slice-3.ensures.value c.in_ok-ends.ensures c.in_ok-parts.ensures (c.in_ok-start.ensures ∙ ap (λ (p : List (List (List ℕ))). text_numbers (flat_map (λ part. part) p)) c.as_slice-5.ensures.value) in
    let all = folded (views_at c.args.items.now c.args.chosen.now) c.in_ok-keys.keys.items c.in_ok-start.start.items c.in_ok-leaders.leaders.items c.in_ok-ends.ends c.requires.order c.in_ok-ends.ensures first c.in_ok-leaders.ensures.refined in
    all.least

pub overflow_sub-next : goal.overflow_sub-next
overflow_sub-next g c =
    let first = first_classes (views_at c.args.items.now c.args.chosen.now) (length c.args.chosen.now) c.in_ok-keys.keys.items c.as_slice-3.result.now c.in_ok-ends.ends (flat_map (λ part. part) c.in_ok-parts.parts.items) c.in_ok-start.start.items
    (sym (items_wide (item_views c.args.items.now) c.args.chosen.now)) c.in_ok-keys.ensures c.as_slice-3.ensures.value c.in_ok-ends.ensures c.in_ok-parts.ensures (c.in_ok-start.ensures ∙ ap (λ (p : List (List (List ℕ))). text_numbers (flat_map (λ part. part) p)) c.as_slice-5.ensures.value) in
    let le = start_fewer (views_at c.args.items.now c.args.chosen.now) c.in_ok-keys.keys.items c.in_ok-start.start.items first in
    omega (arith, le, c.count_leaders-first.ensures, c.count_leaders-next.ensures, ap leader_count c.as_slice-6.ensures.value, ap leader_count c.as_slice-7.ensures.value)

pub returns-clause-steps : goal.returns-clause-steps
returns-clause-steps g c =
    let first = first_classes (views_at c.args.items.now c.args.chosen.now) (length c.args.chosen.now) c.in_ok-keys.keys.items c.as_slice-3.result.now c.in_ok-ends.ends (flat_map (λ part. part) c.in_ok-parts.parts.items) c.in_ok-start.start.items
    (sym (items_wide (item_views c.args.items.now) c.args.chosen.now)) c.in_ok-keys.ensures c.as_slice-3.ensures.value c.in_ok-ends.ensures c.in_ok-parts.ensures (c.in_ok-start.ensures ∙ ap (λ (p : List (List (List ℕ))). text_numbers (flat_map (λ part. part) p)) c.as_slice-5.ensures.value) in
    all_steps (views_at c.args.items.now c.args.chosen.now) c.in_ok-keys.keys.items c.in_ok-start.start.items c.in_ok-leaders.leaders.items c.args.steps.now c.add.new.self _ first
    (omega (arith, c.add.ensures, c.count_leaders-first.ensures, c.count_leaders-next.ensures, ap leader_count c.as_slice-6.ensures.value, ap leader_count c.as_slice-7.ensures.value))
    c.in_ok-leaders.ensures.steps

pub returns-clause-bound : goal.returns-clause-bound
returns-clause-bound g c =
    let first = first_classes (views_at c.args.items.now c.args.chosen.now) (length c.args.chosen.now) c.in_ok-keys.keys.items c.as_slice-3.result.now c.in_ok-ends.ends (flat_map (λ part. part) c.in_ok-parts.parts.items) c.in_ok-start.start.items
    (sym (items_wide (item_views c.args.items.now) c.args.chosen.now)) c.in_ok-keys.ensures c.as_slice-3.ensures.value c.in_ok-ends.ensures c.in_ok-parts.ensures (c.in_ok-start.ensures ∙ ap (λ (p : List (List (List ℕ))). text_numbers (flat_map (λ part. part) p)) c.as_slice-5.ensures.value) in
    let all = folded (views_at c.args.items.now c.args.chosen.now) c.in_ok-keys.keys.items c.in_ok-start.start.items c.in_ok-leaders.leaders.items c.in_ok-ends.ends c.requires.order c.in_ok-ends.ensures first c.in_ok-leaders.ensures.refined in
    let steps = all_steps (views_at c.args.items.now c.args.chosen.now) c.in_ok-keys.keys.items c.in_ok-start.start.items c.in_ok-leaders.leaders.items c.args.steps.now c.add.new.self _ first
    (omega (arith, c.add.ensures, c.count_leaders-first.ensures, c.count_leaders-next.ensures, ap leader_count c.as_slice-6.ensures.value, ap leader_count c.as_slice-7.ensures.value))
    c.in_ok-leaders.ensures.steps in
    let bound = few_steps (views_at c.args.items.now c.args.chosen.now) c.in_ok-keys.keys.items c.in_ok-start.start.items c.in_ok-leaders.leaders.items c.args.steps.now _ first all steps in
    omega (arith, bound, items_wide (item_views c.args.items.now) c.args.chosen.now)
