use Rattle.std.proofs.Common.{◌≡◌, ℕ, ◌<◌, ◌-◌, List, length, get_or, replicate, sym, ap, ◌∙◌, subst, arith, rules}
use Rattle.std.proofs.lemmas.List.{length-replicate}
use Rattle.std.proofs.lemmas.List.Elements.{Contains-get_or}
use Rattle.name_numbers.specs.Marks.{Marks}
use Rattle.name_numbers.specs.Spans.{no_spot, span_of, place_of}
use Rattle.name_numbers.proofs.Runs.{IsLeastAt, marked_more, run_begins, run_goes_on, marks_all}
use Rattle.name_numbers.proofs.FirstSpans.{spots_run, new_span, old_span}
use Rattle.name_numbers.proofs.spans.mark_spots.Goals as goal
use Rattle.name_numbers.proofs.spans.mark_spots.Goals.{then-is_new, else-is_new}

pub index_mut-requires : goal.index_mut-requires
index_mut-requires c =
    let lt : c.loop-k.k < length c.args.spots.now = omega arith in
    let in_width = c.requires.within _ (Contains-get_or c.args.spots.now c.loop-k.k no_spot lt) in
    let wide = c.loop-k.invariant.wide in
    let start : c.in_ok-firsts.firsts.items ≡ replicate c.args.count 0 = search rules in
    omega (arith, ap length start, length-replicate {A = ℕ} c.args.count 0)

pub loop-k-preserved : goal.loop-k-preserved
loop-k-preserved c =
    let spots = c.args.spots.now in
    let n = length spots in
    let k = c.loop-k.k in
    let lt : k < n = omega arith in
    let key : ℕ → _ = λ j. (get_or spots j no_spot).span in
    let place : ℕ → ℕ = λ j. (get_or spots j no_spot).symbol in
    let run = spots_run spots c.requires.sorted c.requires.once in
    let in_width = c.requires.within _ (Contains-get_or spots k no_spot lt) in
    let wide = c.loop-k.invariant.wide in
    let start : c.in_ok-firsts.firsts.items ≡ replicate c.args.count 0 = search rules in
    let within : place k < length c.loop-k.firsts.items = omega (arith, ap length start, length-replicate {A = ℕ} c.args.count 0) in
    let P : ℕ → Type 0 = IsLeastAt key place n k in
    let least : IsLeastAt key place n k c.if-is_new.first = elim c.if-is_new.branch [
      | then-is_new w ↦ subst P (sym w.first-is) (run_begins key place n run k lt (new_span spots k (sym c.is_new.ensures ∙ w.if-is_new.true)))
      | else-is_new w ↦ subst P (sym w.first-is) (let old = old_span spots k (sym c.is_new.ensures ∙ w.if-is_new.false) in run_goes_on key place n k (k - 1) c.loop-k.first old.0 old.1 c.loop-k.invariant.last)
    ] in
    marked_more key place n run c.in_ok-firsts.firsts.items c.loop-k.firsts.items c.loop-k.first c.if-is_new.first k c.loop-k.invariant lt within least

pub returns : goal.returns
returns c =
    let spots = c.args.spots.now in
    let start : c.in_ok-firsts.firsts.items ≡ replicate c.args.count 0 = search rules in
    let P : List ℕ → Type 0 = λ old. Marks span_of place_of spots old c.loop-k.firsts.items in
    subst P start (marks_all span_of place_of spots no_spot c.in_ok-firsts.firsts.items c.loop-k.firsts.items c.loop-k.first c.loop-k.k (omega arith) c.loop-k.invariant)
