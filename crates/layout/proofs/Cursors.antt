-- How far the cursor moves: over a member, an output section and a class.
use Rattle.std.proofs.Common.{◌≡◌, ℕ, ◌+◌, ◌*◌, ◌<◌, ◌≤◌, ◌==◌, Bool, true, false, if◌then◌else◌, max, List, [], ◌∷◌, length, refl, All, arith}
use Rattle.std.specs.List.{fold}
use Rattle.std.proofs.lemmas.List.Elements.{All-head, All-tail}
use Rattle.std.proofs.lemmas.List.Sums.{sum_by-cons}
use Rattle.lk_base.specs.declared.abi.TheConstants.{ALIGN_MAX}
use Rattle.lk_base.specs.Arithmetic.{up}
use Rattle.lk_base.proofs.Multiples.{up_below, up_least}
use Rattle.link_sections.specs.Cuts.{Cut}
use Rattle.output_sections.specs.declared.rows.Row.{Row}
use Rattle.layout.specs.declared.walk.Cursor.{Cursor}
use Rattle.layout.specs.Walk.{after, beside, cursor_at, end_along, greatest, is_empty, past, runs, size_at, start_of, weight}
use Rattle.layout.proofs.Runs.{EachRun}

-- what the walk's bounds rest on: an alignment that can be, and a member of at most three times its bytes
pub record RowFits (sizes : List (List Cut)) (row : Row) : Type 0 where
  pub some : 1 ≤ row.align
  pub aligned : row.align ≤ ALIGN_MAX
  pub sized : (start : ℕ) → size_at sizes start row ≤ 3 * row.size

greatest_from : (g : ℕ) (rows : List Row) → 1 ≤ g → 1 ≤ fold (λ found row. max found row.align) g rows
greatest_from g [] some = some
greatest_from g (row ∷ rows) some = greatest_from (max g row.align) rows (omega arith)

pub greatest_some : (rows : List Row) → 1 ≤ greatest rows
unfolding greatest
greatest_some rows = greatest_from 1 rows (omega arith)

greatest_to : (sizes : List (List Cut)) (g : ℕ) (rows : List Row) → g ≤ ALIGN_MAX → All (RowFits sizes) rows → fold (λ found row. max found row.align) g rows ≤ ALIGN_MAX
greatest_to sizes g [] most all = most
greatest_to sizes g (row ∷ rows) most all =
    let one : row.align ≤ ALIGN_MAX = (All-head (RowFits sizes) row rows all).aligned in
    greatest_to sizes (max g row.align) rows (omega arith) (All-tail (RowFits sizes) row rows all)

pub greatest_most : (sizes : List (List Cut)) (rows : List Row) → All (RowFits sizes) rows → greatest rows ≤ ALIGN_MAX
unfolding greatest
greatest_most sizes rows all = greatest_to sizes 1 rows (omega arith) all

-- where an output section starts
start_by : (b : Bool) (at extra g : ℕ) → 1 ≤ g → (at ≤ up at (if b then g else max extra g)) × (up at (if b then g else max extra g) < at + max extra g)
start_by true at extra g some = (up_least at g some, let below : up at g < at + g = up_below at g some in omega arith)
start_by false at extra g some =
    let most : 1 ≤ max extra g = omega arith in (up_least at (max extra g) most, up_below at (max extra g) most)

pub start_least : (c : Cursor) (rows : List Row) → c.at ≤ start_of c rows
unfolding start_of
start_least c rows = (start_by (is_empty rows) c.at c.extra (greatest rows) (greatest_some rows)).0

pub start_most : (sizes : List (List Cut)) (c : Cursor) (rows : List Row) → c.extra ≤ ALIGN_MAX → All (RowFits sizes) rows → start_of c rows < c.at + ALIGN_MAX
unfolding start_of
start_most sizes c rows extra all =
    let one = (start_by (is_empty rows) c.at c.extra (greatest rows) (greatest_some rows)).1 in
    let most : greatest rows ≤ ALIGN_MAX = greatest_most sizes rows all in
    omega (arith, one)

-- over the members of an output section
pub past_least : (sizes : List (List Cut)) (c : ℕ) (rows : List Row) → All (RowFits sizes) rows → c ≤ past sizes c rows
past_least sizes c [] all = omega arith
past_least sizes c (row ∷ rows) all =
    let one : c ≤ up c row.align = up_least c row.align (All-head (RowFits sizes) row rows all).some in
    let e : ℕ = up c row.align + size_at sizes (up c row.align) row in
    let more : e ≤ past sizes e rows = past_least sizes e rows (All-tail (RowFits sizes) row rows all) in
    omega arith

pub past_most : (sizes : List (List Cut)) (c : ℕ) (rows : List Row) → All (RowFits sizes) rows → past sizes c rows + length rows * ALIGN_MAX ≤ c + weight rows
past_most sizes c [] all = omega arith
past_most sizes c (row ∷ rows) all =
    let fits = All-head (RowFits sizes) row rows all in
    let one : up c row.align < c + row.align = up_below c row.align fits.some in
    let size : size_at sizes (up c row.align) row ≤ 3 * row.size = fits.sized (up c row.align) in
    let aligned : row.align ≤ ALIGN_MAX = fits.aligned in
    let e : ℕ = up c row.align + size_at sizes (up c row.align) row in
    let more : past sizes e rows + length rows * ALIGN_MAX ≤ e + weight rows = past_most sizes e rows (All-tail (RowFits sizes) row rows all) in
    omega (arith, sum_by-cons (λ (r : Row). 3 * r.size + 2 * ALIGN_MAX) row rows)

-- over an output section
some_row : (rows : List Row) → is_empty rows ≡ false → 1 ≤ length rows
unfolding is_empty
some_row [] e = cc
some_row (row ∷ rows) e = omega arith

pub record Moves (from end : Cursor) (room : ℕ) : Type 0 where
  pub least : from.at ≤ end.at
  pub most : end.at ≤ from.at + room
  pub extra : end.extra ≤ ALIGN_MAX

after_by : (b : Bool) (sizes : List (List Cut)) (c : Cursor) (rows : List Row) → is_empty rows ≡ b → c.extra ≤ ALIGN_MAX → All (RowFits sizes) rows
    → Moves c (if b then c else cursor_at (past sizes (start_of c rows) rows)) (weight rows)
after_by true sizes c rows e extra all = record { least = omega arith; most = omega arith; extra = extra }
after_by false sizes c rows e extra all =
    let from : c.at ≤ start_of c rows = start_least c rows in
    let near : start_of c rows < c.at + ALIGN_MAX = start_most sizes c rows extra all in
    let some : 1 ≤ length rows = some_row rows e in
    let least : start_of c rows ≤ past sizes (start_of c rows) rows = past_least sizes (start_of c rows) rows all in
    let most = past_most sizes (start_of c rows) rows all in
    record { least = omega arith; most = omega (arith, most, near, some); extra = omega arith }

pub after_moves : (sizes : List (List Cut)) (c : Cursor) (rows : List Row) → c.extra ≤ ALIGN_MAX → All (RowFits sizes) rows → Moves c (after sizes c rows) (weight rows)
unfolding after
after_moves sizes c rows extra all = after_by (is_empty rows) sizes c rows refl extra all

-- over a class
abbrev run_weight : List (List Row) → ℕ
run_weight [] = 0
run_weight (o ∷ os) = weight o + run_weight os

along_moves : (sizes : List (List Cut)) (c : Cursor) (os : List (List Row)) → c.extra ≤ ALIGN_MAX → EachRun (RowFits sizes) os
    → Moves c (end_along sizes c os) (run_weight os)
along_moves sizes c [] extra all = record { least = omega arith; most = omega arith; extra = extra }
along_moves sizes c (o ∷ os) extra all =
    let one = after_moves sizes c o extra all.0 in
    let more = along_moves sizes (after sizes c o) os one.extra all.1 in
    record { least = omega (arith, one.least, more.least); most = omega (arith, one.most, more.most); extra = more.extra }

weight_beside : (row : Row) (os : List (List Row)) → run_weight (beside row os) ≡ (3 * row.size + 2 * ALIGN_MAX) + run_weight os
weight_beside row [] = omega (arith, sum_by-cons (λ (r : Row). 3 * r.size + 2 * ALIGN_MAX) row [])
weight_beside row ([] ∷ rest) = omega (arith, sum_by-cons (λ (r : Row). 3 * r.size + 2 * ALIGN_MAX) row [])
weight_beside row ((next ∷ run) ∷ rest) = by (next.group == row.group)
  where
    by : (b : Bool) → run_weight (if b then (row ∷ next ∷ run) ∷ rest else (row ∷ []) ∷ (next ∷ run) ∷ rest)
        ≡ (3 * row.size + 2 * ALIGN_MAX) + run_weight ((next ∷ run) ∷ rest)
    by true = omega (arith, sum_by-cons (λ (r : Row). 3 * r.size + 2 * ALIGN_MAX) row (next ∷ run))
    by false = omega (arith, sum_by-cons (λ (r : Row). 3 * r.size + 2 * ALIGN_MAX) row [])

weight_runs : (rows : List Row) → run_weight (runs rows) ≡ weight rows
unfolding runs
weight_runs [] = refl
weight_runs (row ∷ rows) = omega (arith, weight_beside row (runs rows), weight_runs rows, sum_by-cons (λ (r : Row). 3 * r.size + 2 * ALIGN_MAX) row rows)

pub end_moves : (sizes : List (List Cut)) (c : Cursor) (rows : List Row) → c.extra ≤ ALIGN_MAX → EachRun (RowFits sizes) (runs rows)
    → Moves c (end_along sizes c (runs rows)) (weight rows)
end_moves sizes c rows extra all =
    let moves = along_moves sizes c (runs rows) extra all in
    record { least = moves.least; most = omega (arith, moves.most, weight_runs rows); extra = moves.extra }

pub least_along : (sizes : List (List Cut)) (c : Cursor) (os : List (List Row)) → c.extra ≤ ALIGN_MAX → EachRun (RowFits sizes) os → c.at ≤ (end_along sizes c os).at
least_along sizes c os extra all = (along_moves sizes c os extra all).least
