use Rattle.std.proofs.Common.{◌≡◌, ℕ, ◌+◌, ◌-◌, ◌<◌, ◌≤◌, min, true, false, List, length, get_or, sym, ap, subst, ltb, ltb-true, ltb-false, arith, rules}
use Rattle.std.specs.List.Sorted.{IsNonDecreasingBy, IsPartitionPoint}
use Rattle.std.proofs.lemmas.List.{get_or-map, length-map}
use Rattle.std.proofs.lemmas.List.Sorted.{IsPartitionPoint-from_clause, IsPartitionedBy-ltb}
use Rattle.link_sections.specs.declared.cuts.Cut.{Cut as HeldCut}
use Rattle.link_sections.specs.Cuts.{Cut, new_offset}
use Rattle.link_sections.specs.CutsView.{AreCuts, cut_view, cut_views}
use Rattle.link_sections.proofs.CutSums.{by_cut, in_order, no_cut, no_more}
use Rattle.link_sections.proofs.offsets.offset_by.Goals as goal
use Rattle.link_sections.proofs.offsets.offset_by.Goals.{After-partition_point-n}

abbrev at_of : HeldCut → ℕ
at_of cut = cut.at

abbrev none : HeldCut
none = record { at = 0; whole = 0; kept = 0; is_align = false; new_at = 0 }

viewed : (cuts : List HeldCut) (i : ℕ) (d : HeldCut) → i < length cuts → get_or (cut_views cuts) i (cut_view d) ≡ cut_view (get_or cuts i d)
viewed cuts i d lt = get_or-map cut_view cuts i d (cut_view d) lt

sorted : (cuts : List HeldCut) → AreCuts cuts → IsNonDecreasingBy at_of cuts
sorted cuts are = λ i j d le lt.
    let a : ℕ → ℕ = λ k. (get_or (cut_views cuts) k (cut_view d)).at in
    let first = ap (λ (x : Cut). x.at) (viewed cuts i d (omega arith)) in
    let second = ap (λ (x : Cut). x.at) (viewed cuts j d lt) in
    let le2 = in_order (cut_views cuts) i j (cut_view d) are.apart le (omega (arith, length-map cuts cut_view)) in
    omega (arith, first, second, le2)

point : (c : After-partition_point-n) →
    IsPartitionPoint (λ (x : HeldCut). ltb x.at c.args.old ≡ true) (λ (x : HeldCut). ltb x.at c.args.old ≡ false) c.args.cuts.now c.partition_point-n.result
point c =
    let parted = IsPartitionedBy-ltb at_of c.args.cuts.now c.args.old (sorted c.args.cuts.now c.requires) in
    IsPartitionPoint-from_clause (λ (x : HeldCut). ltb x.at c.args.old) _ _ c.partition_point-n.ensures.partitioned parted (λ a r q k. search rules)

before : (c : After-partition_point-n) (k : ℕ) (d : HeldCut) → k < c.partition_point-n.result → at_of (get_or c.args.cuts.now k d) < c.args.old
before c k d lt = ltb-true _ _ ((point c).0 k d (omega arith) lt)

next : (c : After-partition_point-n) (d : HeldCut) → c.partition_point-n.result < length c.args.cuts.now → c.args.old ≤ at_of (get_or c.args.cuts.now c.partition_point-n.result d)
next c d lt = ltb-false _ _ ((point c).1 c.partition_point-n.result d (omega arith) lt)

-- the last cut before the offset
abbrev last : After-partition_point-n → ℕ
last c = c.partition_point-n.result - 1

within : (c : After-partition_point-n) → 0 < c.partition_point-n.result → last c < length c.args.cuts.now
within c some = let bound = c.partition_point-n.ensures.bound in omega arith

pub returns-then-n-eq0-clause-value : goal.returns-then-n-eq0-clause-value
returns-then-n-eq0-clause-value c =
    let p = (goal.at.returns-then-n-eq0-clause-value c).After-partition_point-n in
    let cuts = c.args.cuts.now in
    let zero_is = c.if-n-eq0.true in
    sym (no_cut c.args.old (cut_views cuts) (cut_view none) c.requires.apart (λ some.
    let lt : 0 < length cuts = omega (arith, length-map cuts cut_view) in
    let high = next p none (omega arith) in
    let own = ap (λ (x : Cut). x.at) (viewed cuts 0 none lt) in
    let same = ap (λ k. at_of (get_or cuts k none)) zero_is in
    omega (arith, high, own, same)))

pub after_cut-requires-clause-after : goal.after_cut-requires-clause-after
after_cut-requires-clause-after c =
    let p = (goal.at.after_cut-requires-clause-after c).After-partition_point-n in
    let some = c.if-n-eq0.false in
    before p (last p) none (omega arith)

pub after_cut-requires-clause-kept : goal.after_cut-requires-clause-kept
after_cut-requires-clause-kept c =
    let p = (goal.at.after_cut-requires-clause-kept c).After-partition_point-n in
    let some = c.if-n-eq0.false in
    let lt = within p (omega arith) in
    let cuts = c.args.cuts.now in
    let is = viewed cuts (last p) none lt in
    let k = c.requires.apart.kept (last p) (cut_view none) (omega (arith, length-map cuts cut_view)) in
    let a = ap (λ (x : Cut). x.kept) is in
    let b = ap (λ (x : Cut). x.whole) is in
    omega (arith, k, a, b)

pub after_cut-requires-clause-low : goal.after_cut-requires-clause-low
after_cut-requires-clause-low c =
    let p = (goal.at.after_cut-requires-clause-low c).After-partition_point-n in
    let some = c.if-n-eq0.false in
    let lt = within p (omega arith) in
    let cuts = c.args.cuts.now in
    let placed = c.requires.placed (last p) none lt in
    let most = no_more (cut_views cuts) (at_of (get_or cuts (last p) none)) c.requires.apart in
    omega (arith, placed, most)

pub returns-clause-value : goal.returns-clause-value
returns-clause-value c =
    let p = (goal.at.returns-clause-value c).After-partition_point-n in
    let some = c.if-n-eq0.false in
    let lt = within p (omega arith) in
    let cuts = c.args.cuts.now in
    let views = cut_views cuts in
    let old = c.args.old in
    let cut : HeldCut = get_or cuts (last p) none in
    let is : get_or views (last p) (cut_view none) ≡ cut_view cut = viewed cuts (last p) none lt in
    let placed : cut.new_at ≡ new_offset views cut.at = c.requires.placed (last p) none lt in
    let own = before p (last p) none (omega arith) in
    let at = ap (λ (x : Cut). x.at) is in
    let up : last p + 1 < length views → old ≤ (get_or views (last p + 1) (cut_view none)).at = λ more.
    let less : c.partition_point-n.result < length cuts = omega (arith, length-map cuts cut_view) in
    let high = next p none less in
    let one : last p + 1 ≡ c.partition_point-n.result = omega arith in
    let view = ap (λ (x : Cut). x.at) (viewed cuts c.partition_point-n.result none less) in
    let same = ap (λ k. (get_or views k (cut_view none)).at) one in
    omega (arith, high, view, same) in
    let P : Cut → Type 0 = λ x. new_offset views old ≡ new_offset views x.at + min (old - x.at) x.kept + (old - x.at - min (old - x.at) x.whole) in
    let whole : P (cut_view cut) = subst P is (by_cut views (last p) old (cut_view none) c.requires.apart (omega (arith, length-map cuts cut_view)) (omega (arith, own, at)) up).0 in
    let value = c.after_cut.ensures.value in
    omega (arith, whole, placed, value)
