use Rattle.std.proofs.Common.{◌≡◌, ℕ, Vec, Global, List, length, map, drop, replicate, ap, ◌∙◌, subst, arith}
use Rattle.std.specs.List.{range_with_len}
use Rattle.std.specs.List.Sorted.{IsPermutation}
use Rattle.std.proofs.lemmas.List.{take_at}
use Rattle.std.proofs.lemmas.Result.{IfOk-weaker}
use Rattle.lk_tables.specs.FileView.{file_view}
use Rattle.name_numbers.specs.declared.spans.Spot.{Spot}
use Rattle.name_numbers.specs.Marks.{Marks}
use Rattle.name_numbers.specs.Spans.{first_or_none, span_of, place_of}
use Rattle.name_numbers.proofs.FirstSpans.{spots_moved, spot_back, spot_is, spots_once, firsts_are}
use Rattle.name_numbers.proofs.spans.sorted_firsts.Goals as goal

pub mark_spots-requires-clause-within : goal.mark_spots-requires-clause-within
mark_spots-requires-clause-within c s has =
    let symbols = (file_view c.args.file.now).head.symbols in
    let start = c.in_ok-spots.spots.items in
    let sorted = c.sort_spots.new.list in
    let len : length sorted ≡ c.in_ok-spots.spots.len = c.sort_spots.ensures.len ∙ c.as_mut_slice.ensures.len in
    let P : List Spot → Type 0 = λ l. IsPermutation l sorted in
    let moved : IsPermutation start sorted = subst P c.as_mut_slice.ensures.value c.sort_spots.ensures.permutation in
    let read = c.as_slice.ensures.value ∙ take_at sorted (drop (length sorted) start) c.in_ok-spots.spots.len len in
    let is = spot_is symbols s (spot_back symbols c.as_slice.result.now (spots_moved symbols start sorted c.as_slice.result.now c.in_ok-spots.ensures moved read) s has) in
    let inside = is.inside in
    omega (arith, ap length c.symbols.ensures)

pub mark_spots-requires-clause-once : goal.mark_spots-requires-clause-once
mark_spots-requires-clause-once c s t has also e =
    let symbols = (file_view c.args.file.now).head.symbols in
    let start = c.in_ok-spots.spots.items in
    let sorted = c.sort_spots.new.list in
    let len : length sorted ≡ c.in_ok-spots.spots.len = c.sort_spots.ensures.len ∙ c.as_mut_slice.ensures.len in
    let P : List Spot → Type 0 = λ l. IsPermutation l sorted in
    let moved : IsPermutation start sorted = subst P c.as_mut_slice.ensures.value c.sort_spots.ensures.permutation in
    let read = c.as_slice.ensures.value ∙ take_at sorted (drop (length sorted) start) c.in_ok-spots.spots.len len in
    let back = spot_back symbols c.as_slice.result.now (spots_moved symbols start sorted c.as_slice.result.now c.in_ok-spots.ensures moved read) in
    spots_once symbols s t (back s has) (back t also) e

pub returns : goal.returns
returns c =
    let symbols = (file_view c.args.file.now).head.symbols in
    let start = c.in_ok-spots.spots.items in
    let sorted = c.sort_spots.new.list in
    let len : length sorted ≡ c.in_ok-spots.spots.len = c.sort_spots.ensures.len ∙ c.as_mut_slice.ensures.len in
    let P : List Spot → Type 0 = λ l. IsPermutation l sorted in
    let moved : IsPermutation start sorted = subst P c.as_mut_slice.ensures.value c.sort_spots.ensures.permutation in
    let read = c.as_slice.ensures.value ∙ take_at sorted (drop (length sorted) start) c.in_ok-spots.spots.len len in
    let A : Vec ℕ Global → Type 0 = λ v. Marks span_of place_of c.as_slice.result.now (replicate (length c.symbols.result.now) 0) v.items in
    let B : Vec ℕ Global → Type 0 = λ v. v.items ≡ map (first_or_none symbols) (range_with_len 0 (length symbols)) in
    IfOk-weaker c.mark_spots.result A B (λ v m. firsts_are symbols c.symbols.result.now c.as_slice.result.now v.items (spots_moved symbols start sorted c.as_slice.result.now c.in_ok-spots.ensures moved read) c.symbols.ensures m) c.mark_spots.ensures
