-- Loads of a list of names on a shelf, one after another, and what they mean for a depot.
use Rattle.std.proofs.Common.{◌≡◌, ℕ, ◌+◌, ◌≤◌, List, refl, sym, ◌∙◌, ap, subst, arith, inl, inr, true, is_ok}
use Rattle.std.proofs.lemmas.Bool.{cases_lt}
use Rattle.std.specs.Prelude.{Result, Ok, Err, Some}
use Rattle.lk_depot.specs.Faults.{next_count}
use Rattle.lk_depot.specs.Loading.{name_at}
use Rattle.lk_depot.specs.Shelf.{Shelf, answer_load, after_load, calls_after, after_calls}
use Rattle.lk_depot.specs.ShelfLoads.{GiveFiles, LoadsEnd}
use Rattle.lk_depot.specs.declared.stops.LoadAllStop.{LoadAllStop}
use Rattle.lk_depot.specs.declared.stops.LoadAllStop.TheVariants as stops
use Rattle.lk_depot.specs.declared.stops.LoadStop.{LoadStop}
use Rattle.lk_depot.specs.declared.stops.LoadStop.TheVariants.{Absent, Failed, Memory}

-- one more load that gave its file
pub given_one_more : (before now : Shelf) (names : List (List ℕ)) (index : ℕ) (name bytes : List ℕ) → now ≡ after_calls before index
    → name ≡ name_at names index → answer_load now name ≡ Ok bytes → GiveFiles before names index → GiveFiles before names (index + 1)
given_one_more before now names index name bytes at named gives earlier i below = elim (cases_lt i index) [
  | inl less ↦ earlier i less
  | inr more ↦
      let last : index ≡ i = omega (arith, below, more) in
      let here : answer_load (after_calls before index) (name_at names index) ≡ Ok bytes =
      ap (answer_load (after_calls before index)) (sym named) ∙ ap (λ (s : Shelf). answer_load s name) (sym at) ∙ gives in
      subst (λ j. is_ok (answer_load (after_calls before j) (name_at names j)) ≡ true) last (ap is_ok here)
]

next_after : (calls index : ℕ) → next_count (calls_after index calls) ≡ calls_after (index + 1) calls
next_after calls index = omega arith

-- one more call, by which nothing else changed
pub left_one_more : (before now after : Shelf) (index : ℕ) → now ≡ after_calls before index → after ≡ record now { calls = next_count now.calls }
    → after ≡ after_calls before (index + 1)
left_one_more before now after index at step =
    step ∙ ap (λ (s : Shelf). record s { calls = next_count s.calls }) at
    ∙ ap (λ (n : ℕ). record before { calls = n }) (next_after before.calls index)

-- what loads leave of a depot
pub record Kept (before after : Shelf) : Type 0 where
  pub later : before.faults ≤ after.faults
  pub files : Some after.files ≡ Some before.files
  pub kinds : Some after.kinds ≡ Some before.kinds
  pub begun : after.begun ≡ before.begun

kept_calls : (before : Shelf) (calls : ℕ) → Kept before (after_calls before calls)
kept_calls before calls = record { later = omega arith; files = refl; kinds = refl; begun = refl }

kept_stop : (before : Shelf) (calls : ℕ) (name : List ℕ) (stop : LoadStop) → Kept before (after_load {T = List ℕ} (after_calls before calls) name (Err stop))
kept_stop before calls name Absent = record { later = omega arith; files = refl; kinds = refl; begun = refl }
kept_stop before calls name Failed = record { later = omega arith; files = refl; kinds = refl; begun = refl }
kept_stop before calls name Memory = record { later = omega arith; files = refl; kinds = refl; begun = refl }

pub kept_by : {T : Type 0} (before after : Shelf) (names : List (List ℕ)) (result : Result T LoadAllStop) → LoadsEnd before after names result
    → Kept before after
kept_by before after names (Ok x) ends = subst (Kept before) (sym ends.1) (kept_calls before _)
kept_by before after names (Err (stops.Absent index)) ends = subst (Kept before) (sym ends.left) (kept_stop before index (name_at names index) Absent)
kept_by before after names (Err (stops.Failed index)) ends = subst (Kept before) (sym ends.left) (kept_stop before index (name_at names index) Failed)
kept_by before after names (Err stops.Memory) ends = subst (Kept before) (sym ends.1.left) (kept_stop before ends.0 (name_at names ends.0) Memory)
