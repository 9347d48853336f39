use Rattle.std.proofs.Common.{◌≡◌, ℕ, ◌<◌, ◌≤◌, ◌∙◌, List, length, map, get_or, true, false, sym, ap, subst, ltb, ltb-true, ltb-false, arith, rules}
use Rattle.std.specs.Prelude.{option_map}
use Rattle.std.specs.List.Sorted.{IsNonDecreasingBy, IsPartitionPoint}
use Rattle.std.proofs.lemmas.List.Sorted.{IsPartitionPoint-from_clause, IsPartitionedBy-ltb}
use Rattle.lk_tables.specs.Frames.{list_view, lists_of}
use Rattle.lk_tables.proofs.Finding.{found, missing_at}
use Rattle.lk_tables.proofs.FrameLists.{Listed, find_view, none_past, number_of, rising}
use Rattle.sec_graph.specs.FrameRelocs.{list_in}
use Rattle.sec_graph.proofs.frame_relocs.list_of.Goals as goal
use Rattle.sec_graph.proofs.frame_relocs.list_of.Goals.{After-partition_point-place}

ordered : (c : After-partition_point-place) → IsNonDecreasingBy number_of c.as_slice-lists.result.now
ordered c = subst (IsNonDecreasingBy number_of) (sym c.as_slice-lists.ensures.value) (rising c.args.frames.now.records.items c.requires)

point : (c : After-partition_point-place) →
    IsPartitionPoint (λ (x : Listed). ltb x.0 c.args.section ≡ true) (λ (x : Listed). ltb x.0 c.args.section ≡ false) c.as_slice-lists.result.now c.partition_point-place.result
point c =
    let parted = IsPartitionedBy-ltb number_of c.as_slice-lists.result.now c.args.section (ordered c) in
    IsPartitionPoint-from_clause (λ (x : Listed). ltb x.0 c.args.section) _ _ c.partition_point-place.ensures.partitioned parted (λ a r q k. search rules)

before : (c : After-partition_point-place) (k : ℕ) (d : Listed) → k < c.partition_point-place.result → number_of (get_or c.as_slice-lists.result.now k d) < c.args.section
before c k d lt = ltb-true _ _ ((point c).0 k d (omega arith) lt)

next : (c : After-partition_point-place) (d : Listed) → c.partition_point-place.result < length c.as_slice-lists.result.now →
    c.args.section ≤ number_of (get_or c.as_slice-lists.result.now c.partition_point-place.result d)
next c d lt = ltb-false _ _ ((point c).1 c.partition_point-place.result d (omega arith) lt)

-- the list as it is found among the views
by_view : (c : After-partition_point-place) → list_in (lists_of c.args.frames.now) c.args.section ≡ list_in (map list_view c.as_slice-lists.result.now) c.args.section
by_view c = ap (λ (l : List Listed). list_in (map list_view l) c.args.section) (sym c.as_slice-lists.ensures.value)

pub returns-in_default : goal.returns-in_default
returns-in_default c =
    let p = (goal.at.returns-in_default c).After-partition_point-place in
    let xs = c.as_slice-lists.result.now in
    let n = c.args.section in
    let past : length xs ≤ c.partition_point-place.result = search rules in
    sym (by_view p ∙ find_view n xs ∙ ap (option_map list_view) (none_past xs n c.partition_point-place.result past (before p)))

pub returns-then-number-section : goal.returns-then-number-section
returns-then-number-section c =
    let p = (goal.at.returns-then-number-section c).After-partition_point-place in
    let xs = c.as_slice-lists.result.now in
    let n = c.args.section in
    let place = c.partition_point-place.result in
    let lt : place < length xs = search rules in
    let own = c.in-Some.ensures.lookup.1 in
    let low = next p c.in-Some.list.now lt in
    sym (by_view p ∙ find_view n xs
    ∙ ap (option_map list_view) (missing_at number_of xs n place c.in-Some.list.now (ordered p) lt (before p) own (omega (arith, low, ap number_of own)) c.if-number-section.true))

pub returns : goal.returns
returns c =
    let p = (goal.at.returns c).After-partition_point-place in
    let xs = c.as_slice-lists.result.now in
    let n = c.args.section in
    let place = c.partition_point-place.result in
    let lt : place < length xs = search rules in
    sym (by_view p ∙ find_view n xs ∙ ap (option_map list_view) (found number_of xs n place c.in-Some.list.now lt (before p) c.in-Some.ensures.lookup.1 c.if-number-section.false))
