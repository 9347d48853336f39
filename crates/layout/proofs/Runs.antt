-- What holds of each row holds of each row of each run.
use Rattle.std.proofs.Common.{Bool, true, false, ◌==◌, if◌then◌else◌, List, [], ◌∷◌, All}
use Rattle.std.proofs.lemmas.List.Elements.{All-nil, All-head, All-tail, All-cons}
use Rattle.output_sections.specs.declared.rows.Row.{Row}
use Rattle.layout.specs.Walk.{beside, runs}

abbrev pub EachRun : (Row → Type 0) → List (List Row) → Type 0
EachRun P [] = Unit {0}
EachRun P (o ∷ os) = All P o × EachRun P os

each_beside : (P : Row → Type 0) (row : Row) (os : List (List Row)) → P row → EachRun P os → EachRun P (beside row os)
each_beside P row [] one all = (All-cons P row [] one (All-nil P), tt)
each_beside P row ([] ∷ rest) one all = (All-cons P row [] one (All-nil P), all.1)
each_beside P row ((next ∷ run) ∷ rest) one all = by (next.group == row.group)
  where
    by : (b : Bool) → EachRun P (if b then (row ∷ next ∷ run) ∷ rest else (row ∷ []) ∷ (next ∷ run) ∷ rest)
    by true = (All-cons P row (next ∷ run) one all.0, all.1)
    by false = (All-cons P row [] one (All-nil P), all)

pub each_run : (P : Row → Type 0) (rows : List Row) → All P rows → EachRun P (runs rows)
unfolding runs
each_run P [] all = tt
each_run P (row ∷ rows) all = each_beside P row (runs rows) (All-head P row rows all) (each_run P rows (All-tail P row rows all))

-- and the other way round
of_beside : (P : Row → Type 0) (row : Row) (os : List (List Row)) → EachRun P (beside row os) → P row × EachRun P os
of_beside P row [] all = (All-head P row [] all.0, tt)
of_beside P row ([] ∷ rest) all = (All-head P row [] all.0, (All-nil P, all.1))
of_beside P row ((next ∷ run) ∷ rest) all = by (next.group == row.group) all
  where
    by : (b : Bool) → EachRun P (if b then (row ∷ next ∷ run) ∷ rest else (row ∷ []) ∷ (next ∷ run) ∷ rest) → P row × EachRun P ((next ∷ run) ∷ rest)
    by true all = (All-head P row (next ∷ run) all.0, (All-tail P row (next ∷ run) all.0, all.1))
    by false all = (All-head P row [] all.0, all.1)

pub of_runs : (P : Row → Type 0) (rows : List Row) → EachRun P (runs rows) → All P rows
unfolding runs
of_runs P [] all = All-nil P
of_runs P (row ∷ rows) all =
    let both = of_beside P row (runs rows) all in
    All-cons P row rows both.0 (of_runs P rows both.1)
