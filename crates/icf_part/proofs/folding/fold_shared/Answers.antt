use Rattle.std.proofs.Common.{ℕ, ◌<◌, All, List, length, refl, sym, ap, ◌∙◌, subst, arith}
use Rattle.link_sections.specs.FoldItems.{item_views}
use Rattle.icf_part.proofs.ChosenItems.{items_wide}
use Rattle.icf_part.proofs.SharedWhole.{chosen_contents, chosen_few, chosen_in_order, chosen_inside, chosen_numbered, chosen_rise, shared_folded, shared_steps, views_wide}
use Rattle.icf_part.proofs.folding.fold_shared.Goals as goal

pub chosen_numbers-requires : goal.chosen_numbers-requires
chosen_numbers-requires g c = chosen_numbered c.args.items.now c.args.bytes.now c.args.chosen.now c.requires.bytes c.requires.chosen

pub fold_chosen-requires-clause-chosen : goal.fold_chosen-requires-clause-chosen
fold_chosen-requires-clause-chosen g c κs within = chosen_inside c.args.items.now c.args.bytes.now c.args.chosen.now c.requires.bytes c.requires.chosen

pub fold_chosen-requires-clause-order : goal.fold_chosen-requires-clause-order
fold_chosen-requires-clause-order g c κs within = chosen_in_order c.args.items.now c.args.bytes.now c.args.chosen.now c.requires.bytes c.requires.chosen c.requires.order

pub fold_chosen-requires-clause-few : goal.fold_chosen-requires-clause-few
fold_chosen-requires-clause-few g c κs within = omega (arith, c.requires.few, chosen_few c.args.items.now c.args.bytes.now c.args.chosen.now c.requires.bytes c.requires.chosen)

pub fold_chosen-requires-clause-bytes : goal.fold_chosen-requires-clause-bytes
fold_chosen-requires-clause-bytes g c κs within =
    chosen_contents c.args.items.now c.args.bytes.now c.args.chosen.now c.requires.bytes c.requires.chosen c.in_ok-numbers.numbers.items c.as_slice.result.now c.as_slice.ensures.value c.in_ok-numbers.ensures

pub spread_leaders-requires-clause-chosen : goal.spread_leaders-requires-clause-chosen
spread_leaders-requires-clause-chosen g c = chosen_inside c.args.items.now c.args.bytes.now c.args.chosen.now c.requires.bytes c.requires.chosen

pub spread_leaders-requires-clause-order : goal.spread_leaders-requires-clause-order
spread_leaders-requires-clause-order g c = chosen_rise c.args.items.now c.args.bytes.now c.args.chosen.now c.requires.bytes c.requires.chosen

pub spread_leaders-requires-clause-wide : goal.spread_leaders-requires-clause-wide
spread_leaders-requires-clause-wide g c = ap length c.as_slice-2.ensures.value ∙ c.in_ok-leaders.ensures.leaders.count ∙ items_wide (item_views c.args.items.now) c.args.chosen.now

pub spread_leaders-requires-clause-within : goal.spread_leaders-requires-clause-within
spread_leaders-requires-clause-within g c =
    let P : List ℕ → Type 0 = All (λ k. k < length c.args.chosen.now) in
    subst P (sym c.as_slice-2.ensures.value) c.in_ok-leaders.ensures.places

pub returns-clause-value : goal.returns-clause-value
returns-clause-value g c =
    let all = shared_folded c.args.items.now c.args.bytes.now c.args.chosen.now c.requires.bytes c.requires.chosen c.in_ok-leaders.leaders.items c.as_slice-2.result.now c.in_ok-list.list.items (length c.args.items.now)
    c.in_ok-leaders.ensures.leaders c.in_ok-leaders.ensures.congruence c.in_ok-leaders.ensures.greatest c.as_slice-2.ensures.value refl c.in_ok-list.ensures in
    all.value

pub returns-clause-leaders : goal.returns-clause-leaders
returns-clause-leaders g c =
    let all = shared_folded c.args.items.now c.args.bytes.now c.args.chosen.now c.requires.bytes c.requires.chosen c.in_ok-leaders.leaders.items c.as_slice-2.result.now c.in_ok-list.list.items (length c.args.items.now)
    c.in_ok-leaders.ensures.leaders c.in_ok-leaders.ensures.congruence c.in_ok-leaders.ensures.greatest c.as_slice-2.ensures.value refl c.in_ok-list.ensures in
    all.leaders

pub returns-clause-congruence : goal.returns-clause-congruence
returns-clause-congruence g c =
    let all = shared_folded c.args.items.now c.args.bytes.now c.args.chosen.now c.requires.bytes c.requires.chosen c.in_ok-leaders.leaders.items c.as_slice-2.result.now c.in_ok-list.list.items (length c.args.items.now)
    c.in_ok-leaders.ensures.leaders c.in_ok-leaders.ensures.congruence c.in_ok-leaders.ensures.greatest c.as_slice-2.ensures.value refl c.in_ok-list.ensures in
    all.congruence

pub returns-clause-greatest : goal.returns-clause-greatest
returns-clause-greatest g c =
    let all = shared_folded c.args.items.now c.args.bytes.now c.args.chosen.now c.requires.bytes c.requires.chosen c.in_ok-leaders.leaders.items c.as_slice-2.result.now c.in_ok-list.list.items (length c.args.items.now)
    c.in_ok-leaders.ensures.leaders c.in_ok-leaders.ensures.congruence c.in_ok-leaders.ensures.greatest c.as_slice-2.ensures.value refl c.in_ok-list.ensures in
    all.greatest

pub returns-clause-places : goal.returns-clause-places
returns-clause-places g c =
    let all = shared_folded c.args.items.now c.args.bytes.now c.args.chosen.now c.requires.bytes c.requires.chosen c.in_ok-leaders.leaders.items c.as_slice-2.result.now c.in_ok-list.list.items (length c.args.items.now)
    c.in_ok-leaders.ensures.leaders c.in_ok-leaders.ensures.congruence c.in_ok-leaders.ensures.greatest c.as_slice-2.ensures.value refl c.in_ok-list.ensures in
    (let P : ℕ → Type 0 = λ n. All (λ p. p < n) c.in_ok-list.list.items in subst P (views_wide c.args.items.now) all.places)

pub returns-clause-own : goal.returns-clause-own
returns-clause-own g c =
    let all = shared_folded c.args.items.now c.args.bytes.now c.args.chosen.now c.requires.bytes c.requires.chosen c.in_ok-leaders.leaders.items c.as_slice-2.result.now c.in_ok-list.list.items (length c.args.items.now)
    c.in_ok-leaders.ensures.leaders c.in_ok-leaders.ensures.congruence c.in_ok-leaders.ensures.greatest c.as_slice-2.ensures.value refl c.in_ok-list.ensures in
    all.own

pub returns-clause-least : goal.returns-clause-least
returns-clause-least g c =
    let all = shared_folded c.args.items.now c.args.bytes.now c.args.chosen.now c.requires.bytes c.requires.chosen c.in_ok-leaders.leaders.items c.as_slice-2.result.now c.in_ok-list.list.items (length c.args.items.now)
    c.in_ok-leaders.ensures.leaders c.in_ok-leaders.ensures.congruence c.in_ok-leaders.ensures.greatest c.as_slice-2.ensures.value refl c.in_ok-list.ensures in
    all.least

pub returns-clause-steps : goal.returns-clause-steps
returns-clause-steps g c =
    shared_steps c.args.items.now c.args.bytes.now c.args.chosen.now c.requires.bytes c.requires.chosen c.in_ok-leaders.leaders.items c.as_slice-2.result.now c.in_ok-list.list.items (length c.args.items.now)
    c.in_ok-leaders.ensures.leaders c.in_ok-leaders.ensures.congruence c.in_ok-leaders.ensures.greatest c.as_slice-2.ensures.value refl c.in_ok-list.ensures
    c.args.steps.now c.fold_chosen.new.steps c.in_ok-leaders.ensures.steps

pub returns-clause-bound : goal.returns-clause-bound
returns-clause-bound g c = omega (arith, c.in_ok-leaders.ensures.bound, chosen_few c.args.items.now c.args.bytes.now c.args.chosen.now c.requires.bytes c.requires.chosen)
