use Rattle.std.proofs.Common.{◌≡◌, ℕ, ◌+◌, ◌<◌, ◌≤◌, true, false, List, [], length, get_or, sym, ap, subst, ◌∙◌, ltb, ltb-true, ltb-false, arith, rules, inl, inr}
use Rattle.std.specs.List.Sorted.{IsNonDecreasingBy, IsPartitionPoint}
use Rattle.std.proofs.lemmas.Bool.{cases_lt}
use Rattle.std.proofs.lemmas.List.{get_or_default, get_or_past}
use Rattle.std.proofs.lemmas.List.Sorted.{IsPartitionPoint-from_clause, IsPartitionedBy-ltb}
use Rattle.std.proofs.lemmas.List.FromFn.{length-map-range_with_len}
use Rattle.relax.specs.declared.calls.Call.{Call}
use Rattle.relax.specs.declared.jumps.Mark.{Mark}
use Rattle.relax.specs.CallSizes.{row_at}
use Rattle.relax.specs.Jumps.{size_at}
use Rattle.relax.specs.Points.{mark_at}
use Rattle.relax.proofs.CutSteps.{size_found, size_none}
use Rattle.relax.proofs.PointSteps.{first_most, mark_is, mark_first}
use Rattle.relax.proofs.keeping.size_in.Goals as goal
use Rattle.relax.proofs.keeping.size_in.Goals.{After-partition_point-n}

abbrev no_mark : Mark
no_mark = record { start = 0; first = 0 }

point : (c : After-partition_point-n) →
    IsPartitionPoint (λ (x : Call). ltb x.reloc c.args.k ≡ true) (λ (x : Call). ltb x.reloc c.args.k ≡ false) c.row-row.result.now c.partition_point-n.result
point c =
    let sorted = subst (λ (l : List Call). IsNonDecreasingBy (λ (x : Call). x.reloc) l) (sym c.row-row.ensures) (c.requires.sound.numbered c.args.member) in
    let parted = IsPartitionedBy-ltb (λ (x : Call). x.reloc) c.row-row.result.now c.args.k sorted in
    IsPartitionPoint-from_clause (λ (x : Call). ltb x.reloc c.args.k) _ _ c.partition_point-n.ensures.partitioned parted (λ a r q k. search rules)

before : (c : After-partition_point-n) (m : ℕ) (e : Call) → m < c.partition_point-n.result → (get_or (row_at c.args.calls.now c.args.member) m e).reloc < c.args.k
before c m e lt =
    let P : List Call → Type 0 = λ l. (get_or l m e).reloc < c.args.k in
    subst P c.row-row.ensures (ltb-true _ _ ((point c).0 m e (omega arith) lt))

next : (c : After-partition_point-n) (m : ℕ) (e : Call) → c.partition_point-n.result ≤ m → m < length (row_at c.args.calls.now c.args.member) → c.args.k ≤ (get_or (row_at c.args.calls.now c.args.member) m e).reloc
next c m e le lt =
    let P : List Call → Type 0 = λ l. c.args.k ≤ (get_or l m e).reloc in
    subst P c.row-row.ensures (ltb-false _ _ ((point c).1 m e le (omega (arith, lt, ap length c.row-row.ensures))))

pub returns-in_default : goal.returns-in_default
returns-in_default c =
    let p = (goal.at.returns-in_default c).After-partition_point-n in
    let past : length c.row-row.result.now ≤ c.partition_point-n.result = search rules in
    size_none c.args.calls.now c.args.sizes.now c.args.member c.args.k
    (λ m e lt same. let low = before p m e (omega (arith, lt, past, ap length c.row-row.ensures)) in omega (arith, low, same))

pub returns-then-call-k : goal.returns-then-call-k
returns-then-call-k c =
    let p = (goal.at.returns-then-call-k c).After-partition_point-n in
    let row = row_at c.args.calls.now c.args.member in
    let n = c.partition_point-n.result in
    let lt : n < length c.row-row.result.now = search rules in
    let few = ap length c.row-row.ensures in
    let is : c.in-Some.call.now ≡ get_or row n c.in-Some.call.now = c.in-Some.ensures.lookup.1 ∙ ap (λ l. get_or l n c.in-Some.call.now) c.row-row.ensures in
    let own = ap (λ (x : Call). x.reloc) is in
    let differs = c.if-call-k.true in
    let sorted = c.requires.sound.numbered c.args.member in
    size_none c.args.calls.now c.args.sizes.now c.args.member c.args.k
    (λ m e less same. elim (cases_lt m n) [
      | inl early ↦ let low = before p m e early in omega (arith, low, same)
      | inr late ↦
          let high = next p n c.in-Some.call.now (omega arith) (omega (arith, lt, few)) in
          let up = sorted n m c.in-Some.call.now late less in
          let there = ap (λ (x : Call). x.reloc) (get_or_default row m e c.in-Some.call.now less) in
          let equal : c.in-Some.call.now.reloc ≡ c.args.k = omega (arith, high, up, there, same, own) in
          differs equal
    ])

here : (c : After-partition_point-n) → c.partition_point-n.result < length c.row-row.result.now → c.args.member < length c.args.calls.now
here c lt = elim (cases_lt c.args.member (length c.args.calls.now)) [
  | inl low ↦ low
  | inr past ↦ absurd (omega (arith, lt, ap length c.row-row.ensures, ap length (get_or_past c.args.calls.now c.args.member [] past)))
]

pub bounds-marks-member : goal.bounds-marks-member
bounds-marks-member c =
    let p = (goal.at.bounds-marks-member c).After-partition_point-n in
    let ms = c.args.members.now in
    let lt : c.partition_point-n.result < length c.row-row.result.now = search rules in
    omega (arith, here p lt, c.requires.sound.count, ap length c.requires.marks, length-map-range_with_len (mark_at ms c.args.calls.now) 0 (length ms))

pub overflow_add-marks : goal.overflow_add-marks
overflow_add-marks c =
    let p = (goal.at.overflow_add-marks c).After-partition_point-n in
    let ms = c.args.members.now in
    let rows = c.args.calls.now in
    let lt : c.partition_point-n.result < length c.row-row.result.now = search rules in
    let low = here p lt in
    let is = mark_is ms rows c.args.marks.now c.args.member no_mark c.requires.marks (omega (arith, low, c.requires.sound.count)) in
    omega (arith, mark_first ms rows (get_or c.args.marks.now c.args.member no_mark) c.args.member is, first_most rows c.args.member low, lt, ap length c.row-row.ensures, c.count_of.ensures.few)

pub returns : goal.returns
returns c =
    let p = (goal.at.returns c).After-partition_point-n in
    let ms = c.args.members.now in
    let rows = c.args.calls.now in
    let n = c.partition_point-n.result in
    let row = row_at rows c.args.member in
    let lt : n < length c.row-row.result.now = search rules in
    let few = ap length c.row-row.ensures in
    let low = here p lt in
    let is = mark_is ms rows c.args.marks.now c.args.member no_mark c.requires.marks (omega (arith, low, c.requires.sound.count)) in
    let first = mark_first ms rows (get_or c.args.marks.now c.args.member no_mark) c.args.member is in
    let own : c.in-Some.call.now ≡ get_or row n c.in-Some.call.now = c.in-Some.ensures.lookup.1 ∙ ap (λ l. get_or l n c.in-Some.call.now) c.row-row.ensures in
    c.size_at.ensures ∙ ap (λ f. size_at c.args.sizes.now (f + n)) first
    ∙ size_found rows c.args.sizes.now c.args.member c.args.k n c.in-Some.call.now (omega (arith, lt, few)) (before p) (ap (λ (x : Call). x.reloc) (sym own) ∙ c.if-call-k.false)
