use Rattle.std.proofs.Common.{◌≡◌, ℕ, ◌<◌, ◌≤◌, ◌==◌, ◌∙◌, true, false, List, length, map, get_or, sym, ap, subst, ltb, ltb-true, ltb-false, arith, rules, Some, None}
use Rattle.std.specs.Prelude.{Option, find, option_map}
use Rattle.std.specs.List.Sorted.{IsNonDecreasingBy, IsPartitionPoint}
use Rattle.std.proofs.lemmas.List.Sorted.{IsPartitionPoint-from_clause, IsPartitionedBy-ltb}
use Rattle.lk_tables.specs.Frames.{RecordList, list_view, nth, record_at}
use Rattle.lk_tables.specs.RecordViews.{record_views}
use Rattle.lk_tables.proofs.Finding.{found, missing_at}
use Rattle.lk_tables.proofs.FrameLists.{Listed, find_view, item_at, none_past, number_of, rising}
use Rattle.lk_tables.proofs.frames.Frames.record.Goals as goal
use Rattle.lk_tables.proofs.frames.Frames.record.Goals.{After-partition_point-place}

ordered : (c : After-partition_point-place) → IsNonDecreasingBy number_of c.deref.result.now
ordered c = subst (IsNonDecreasingBy number_of) (sym c.deref.ensures.value) (rising c.args.self.now.records.items c.requires)

point : (c : After-partition_point-place) →
    IsPartitionPoint (λ (x : Listed). ltb x.0 c.args.number.section ≡ true) (λ (x : Listed). ltb x.0 c.args.number.section ≡ false) c.deref.result.now c.partition_point-place.result
point c =
    let parted = IsPartitionedBy-ltb number_of c.deref.result.now c.args.number.section (ordered c) in
    IsPartitionPoint-from_clause (λ (x : Listed). ltb x.0 c.args.number.section) _ _ c.partition_point-place.ensures.partitioned parted (λ a r q k. search rules)

before : (c : After-partition_point-place) (k : ℕ) (d : Listed) → k < c.partition_point-place.result → number_of (get_or c.deref.result.now k d) < c.args.number.section
before c k d lt = ltb-true _ _ ((point c).0 k d (omega arith) lt)

next : (c : After-partition_point-place) (d : Listed) → c.partition_point-place.result < length c.deref.result.now →
    c.args.number.section ≤ number_of (get_or c.deref.result.now c.partition_point-place.result d)
next c d lt = ltb-false _ _ ((point c).1 c.partition_point-place.result d (omega arith) lt)

pub returns-in_default : goal.returns-in_default
unfolding record_at
returns-in_default c =
    let p = (goal.at.returns-in_default c).After-partition_point-place in
    let xs = c.deref.result.now in
    let n = c.args.number.section in
    let past : length xs ≤ c.partition_point-place.result = search rules in
    let P : List Listed → Option RecordList = λ l. find (λ (x : RecordList). x.section == n) (map list_view l) in
    sym (ap (nth c.args.number.at) (ap P (sym c.deref.ensures.value) ∙ find_view n xs ∙ ap (option_map list_view) (none_past xs n c.partition_point-place.result past (before p))))

pub returns-then-list-number : goal.returns-then-list-number
unfolding record_at
returns-then-list-number c =
    let p = (goal.at.returns-then-list-number c).After-partition_point-place in
    let xs = c.deref.result.now in
    let n = c.args.number.section in
    let place = c.partition_point-place.result in
    let lt : place < length xs = search rules in
    let own : c.in-Some.list.now ≡ get_or xs place c.in-Some.list.now =
    c.in-Some.ensures.lookup.1 ∙ ap (λ l. get_or l place c.in-Some.list.now) (c.deref-2.ensures.value ∙ sym c.deref.ensures.value) in
    let low = next p c.in-Some.list.now lt in
    let P : List Listed → Option RecordList = λ l. find (λ (x : RecordList). x.section == n) (map list_view l) in
    sym (ap (nth c.args.number.at) (ap P (sym c.deref.ensures.value) ∙ find_view n xs
    ∙ ap (option_map list_view) (missing_at number_of xs n place c.in-Some.list.now (ordered p) lt (before p) own (omega (arith, low, ap number_of own)) c.if-list-number.true)))

pub returns : goal.returns
unfolding record_at
returns c =
    let p = (goal.at.returns c).After-partition_point-place in
    let xs = c.deref.result.now in
    let n = c.args.number.section in
    let place = c.partition_point-place.result in
    let lt : place < length xs = search rules in
    let own : c.in-Some.list.now ≡ get_or xs place c.in-Some.list.now =
    c.in-Some.ensures.lookup.1 ∙ ap (λ l. get_or l place c.in-Some.list.now) (c.deref-2.ensures.value ∙ sym c.deref.ensures.value) in
    let P : List Listed → Option RecordList = λ l. find (λ (x : RecordList). x.section == n) (map list_view l) in
    let is : P c.args.self.now.records.items ≡ Some (list_view c.in-Some.list.now) =
    ap P (sym c.deref.ensures.value) ∙ find_view n xs ∙ ap (option_map list_view) (found number_of xs n place c.in-Some.list.now lt (before p) own c.if-list-number.false) in
    item_at c.deref-3.result.now c.args.number.at c.get-2.result c.get-2.ensures.lookup
    ∙ ap (λ rs. get_or (map (λ x. Some x) (record_views rs)) c.args.number.at None) c.deref-3.ensures.value
    ∙ sym (ap (nth c.args.number.at) is)
