use Rattle.std.proofs.Common.{◌≡◌, ◌<◌, ℕ, All, List, [], Vec, Global, get_or, length, map, sym, ap, ◌∙◌, subst, rules}
use Rattle.std.specs.List.Sorted.{IsNonDecreasingBy}
use Rattle.std.proofs.lemmas.List.{get_or-map}
use Rattle.lk_tables.specs.declared.commons.BoundCommon.{BoundCommon}
use Rattle.lk_tables.proofs.Finding.{ordered_at}
use Rattle.lk_tables.proofs.binding.Binding.commons.Goals as goal

abbrev items_of : Vec BoundCommon Global → List BoundCommon
items_of v = v.items

-- a list that is found among lists in order is in order
found_ordered : (key : BoundCommon → ℕ) (held : List (Vec BoundCommon Global)) (file : ℕ) (d : Vec BoundCommon Global) (found : List BoundCommon) →
    All (IsNonDecreasingBy key) (map items_of held) → file < length held → found ≡ items_of (get_or held file d) → IsNonDecreasingBy key found
found_ordered key held file d found ordered lt is =
    let P : List BoundCommon → Type 0 = IsNonDecreasingBy key in
    subst P (sym (is ∙ sym (get_or-map items_of held file d [] lt))) (ordered_at key (map items_of held) file ordered)

pub returns-in-Some-clause-ordered : goal.returns-in-Some-clause-ordered
returns-in-Some-clause-ordered c =
    let held = c.args.self.now.commons.items in
    let lt : c.args.file < length held = search rules in
    found_ordered (λ x. x.symbol) held c.args.file c.in-Some.list.now c.as_slice.result.now c.args.self.now.ordered lt
    (c.as_slice.ensures.value ∙ ap items_of c.in-Some.ensures.lookup.1 ∙ ap (λ l. items_of (get_or l c.args.file c.in-Some.list.now)) c.deref.ensures.value)

pub returns-in-Some-clause-numbered : goal.returns-in-Some-clause-numbered
returns-in-Some-clause-numbered c =
    let held = c.args.self.now.commons.items in
    let lt : c.args.file < length held = search rules in
    found_ordered (λ x. x.section) held c.args.file c.in-Some.list.now c.as_slice.result.now c.args.self.now.numbered lt
    (c.as_slice.ensures.value ∙ ap items_of c.in-Some.ensures.lookup.1 ∙ ap (λ l. items_of (get_or l c.args.file c.in-Some.list.now)) c.deref.ensures.value)
