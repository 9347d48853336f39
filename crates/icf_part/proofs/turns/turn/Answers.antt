use Rattle.std.proofs.Common.{◌==◌, ℕ, List, [], length, flat_map, get_or, Contains, sym, ap, ◌∙◌, subst, refl, arith}
use Rattle.std.specs.List.{filter}
use Rattle.icf_part.specs.Classes.{lists_of}
use Rattle.icf_part.specs.Runs.{IsRising}
use Rattle.icf_part.proofs.EdgesInto.{lists_wide}
use Rattle.icf_part.proofs.SplitRuns.{stands_from}
use Rattle.icf_part.proofs.Turned.{all_within, kept_members, members_are, turned_by, words_within}
use Rattle.icf_part.proofs.turns.turn.Goals as goal

pub list_at-requires : goal.list_at-requires
list_at-requires g c = omega (arith, c.requires.label, c.requires.kept.member_lists, lists_wide c.args.classes.now.members.items, ap length c.as_slice-2.ensures.value)

pub members_of-requires : goal.members_of-requires
members_of-requires g c =
    let list_is = c.list_at.ensures ∙ ap (λ l. get_or (lists_of l) c.args.label []) c.as_slice-2.ensures.value in
    all_within (length c.as_slice.result.now) c.list_at.result.now (λ a has.
    let P : List ℕ → Type 0 = λ l. Contains l a in
    omega (arith, ap length c.as_slice.ensures.value, c.requires.kept.within c.args.label a (subst P list_is has)))

pub edges_of-requires : goal.edges_of-requires
edges_of-requires g c =
    let start = c.args.classes.now in
    let n = length start.labels.items in
    let list_is = c.list_at.ensures ∙ ap (λ l. get_or (lists_of l) c.args.label []) c.as_slice-2.ensures.value in
    let own_is = c.in_ok-own.ensures ∙ ap (λ l. filter (λ a. get_or l a 0 == c.args.label) c.list_at.result.now) c.as_slice.ensures.value in
    let are = members_are n c.args.label start.labels.items start.sizes.items c.list_at.result.now c.in_ok-own.own.items (lists_of start.members.items) start.waits.items start.queue.items c.requires.kept list_is own_is in
    all_within (length c.args.into.now) c.as_slice-3.result.now (λ a has.
    let P : List ℕ → Type 0 = λ l. Contains l a in
    omega (arith, c.requires.count, are.only a (subst P c.as_slice-3.ensures.value has)))

pub split_all-requires-clause-kept : goal.split_all-requires-clause-kept
split_all-requires-clause-kept g c =
    let start = c.args.classes.now in
    let n = length start.labels.items in
    let list_is = c.list_at.ensures ∙ ap (λ l. get_or (lists_of l) c.args.label []) c.as_slice-2.ensures.value in
    let own_is = c.in_ok-own.ensures ∙ ap (λ l. filter (λ a. get_or l a 0 == c.args.label) c.list_at.result.now) c.as_slice.ensures.value in
    let are = members_are n c.args.label start.labels.items start.sizes.items c.list_at.result.now c.in_ok-own.own.items (lists_of start.members.items) start.waits.items start.queue.items c.requires.kept list_is own_is in
    kept_members n c.args.label start c.in_ok-own.own c.requires.kept c.requires.label are

pub split_all-requires-clause-rising : goal.split_all-requires-clause-rising
split_all-requires-clause-rising g c = let P : List ℕ → Type 0 = IsRising in subst P (sym c.as_slice-4.ensures.value) c.sort_words.ensures.rising

pub split_all-requires-clause-items : goal.split_all-requires-clause-items
split_all-requires-clause-items g c =
    let n = length c.args.classes.now.labels.items in
    let words_is = c.in_ok-words.ensures ∙ ap (λ l. flat_map (λ a. get_or (lists_of c.args.into.now) a []) l) c.as_slice-3.ensures.value in
    words_within n (lists_of c.args.into.now) c.in_ok-own.own.items c.as_slice-4.result.now c.requires.items (λ w has.
    let P : List ℕ → Type 0 = λ l. Contains l w in
    subst P words_is (c.sort_words.ensures.only w (subst P c.as_slice-4.ensures.value has)))

pub returns-clause-stands : goal.returns-clause-stands
returns-clause-stands g c =
    stands_from (length c.args.classes.now.labels.items) c.args.classes.now _ c.split_all.new.classes c.args.steps.now c.split_all.new.steps c.in_ok-split_all.ensures.stands refl refl refl

pub returns-clause-turned : goal.returns-clause-turned
returns-clause-turned g c = λ ends are_into.
    let start = c.args.classes.now in
    let n = length start.labels.items in
    let list_is = c.list_at.ensures ∙ ap (λ l. get_or (lists_of l) c.args.label []) c.as_slice-2.ensures.value in
    let own_is = c.in_ok-own.ensures ∙ ap (λ l. filter (λ a. get_or l a 0 == c.args.label) c.list_at.result.now) c.as_slice.ensures.value in
    let are = members_are n c.args.label start.labels.items start.sizes.items c.list_at.result.now c.in_ok-own.own.items (lists_of start.members.items) start.waits.items start.queue.items c.requires.kept list_is own_is in
    let words_is = c.in_ok-words.ensures ∙ ap (λ l. flat_map (λ a. get_or (lists_of c.args.into.now) a []) l) c.as_slice-3.ensures.value in
    turned_by n ends (lists_of c.args.into.now) c.args.label start.labels.items c.in_ok-own.own.items c.split_all.new.classes.labels.items c.as_slice-4.result.now
    (lists_wide c.args.into.now ∙ c.requires.count) c.requires.few are_into are
    (λ w has. let P : List ℕ → Type 0 = λ l. Contains l w in subst P (sym c.as_slice-4.ensures.value) (c.sort_words.ensures.all w (subst P (sym words_is) has)))
    (λ w has. let P : List ℕ → Type 0 = λ l. Contains l w in subst P words_is (c.sort_words.ensures.only w (subst P c.as_slice-4.ensures.value has)))
    c.in_ok-split_all.ensures.split
