-- The runs of one group, one after the other.
use Rattle.std.proofs.Common.{◌≡◌, ℕ, suc, ◌+◌, List, [], ◌∷◌, ◌++◌, length, take, drop, Bool, true, false, ◌==◌, if◌then◌else◌, refl, ap, sym, ◌∙◌, append_assoc, arith}
use Rattle.lk_tables.specs.declared.classes.Class.{Class}
use Rattle.output_sections.specs.declared.rows.Row.{Row}
use Rattle.link_sections.specs.declared.members.Member.{Member}
use Rattle.link_sections.specs.Cuts.{Cut}
use Rattle.link_sections.specs.LaidOut.{OutputPlace, OutputSection}
use Rattle.output_sections.specs.Items.{Item}
use Rattle.layout.specs.declared.walk.Cursor.{Cursor}
use Rattle.layout.specs.Walk.{Stands, after, all_put, beside, end_along, members_along, members_in, place_in, places_along, put, runs, section_in, sections_along, stands_along, stands_in}
use Rattle.std.specs.List.{prefix_len}
use Rattle.std.proofs.lemmas.Bool.Decides.{nat_tests}

one_plus : (k : ℕ) → 1 + k ≡ suc k
one_plus k = omega arith

same_number : (a b : ℕ) → (a == b) ≡ true → b ≡ a
same_number a b e = grind (arith, nat_tests)

-- how many rows from the first on are of this group
abbrev same_len : ℕ → List Row → ℕ
same_len group rows = prefix_len (λ row. row.group == group) rows

same_run : (a b : ℕ) (rows : List Row) → (a == b) ≡ true → same_len b rows ≡ same_len a rows
same_run a b rows e = ap (λ g. same_len g rows) (same_number a b e)

merge : (b : Bool) (row next : Row) (rows : List Row) (k n : ℕ) → (b ≡ true → k ≡ n)
    → runs (next ∷ rows) ≡ (next ∷ take n rows) ∷ runs (drop n rows)
    → (if b then (row ∷ next ∷ take n rows) ∷ runs (drop n rows) else (row ∷ []) ∷ (next ∷ take n rows) ∷ runs (drop n rows))
    ≡ (row ∷ take (if b then 1 + k else 0) (next ∷ rows)) ∷ runs (drop (if b then 1 + k else 0) (next ∷ rows))
merge true row next rows k n same ih = rw (same refl, one_plus n) refl
merge false row next rows k n same ih = ap (λ os. (row ∷ []) ∷ os) (sym ih)

-- the first run
runs_run : (row : Row) (rows : List Row) → runs (row ∷ rows) ≡ (row ∷ take (same_len row.group rows) rows) ∷ runs (drop (same_len row.group rows) rows)
unfolding runs
runs_run row [] = refl
runs_run row (next ∷ rows) =
    ap (beside row) (runs_run next rows)
    ∙ merge (next.group == row.group) row next rows (same_len row.group rows) (same_len next.group rows)
    (same_run next.group row.group rows) (runs_run next rows)

pub runs_first : (row : Row) (rows : List Row) (n : ℕ) → n ≡ same_len row.group rows
    → runs (row ∷ rows) ≡ take (1 + n) (row ∷ rows) ∷ runs (drop (1 + n) (row ∷ rows))
runs_first row rows n len = rw (len, one_plus (same_len row.group rows)) (runs_run row rows)

pub runs_is : (rest front back : List Row) (n : ℕ) → runs rest ≡ take n rest ∷ runs (drop n rest) → front ≡ take n rest → back ≡ drop n rest → runs rest ≡ front ∷ runs back
runs_is rest front back n e front_is back_is = rw (front_is, back_is) e

pub nothing_left : (rest : List Row) → length rest ≡ 0 → runs rest ≡ []
unfolding runs
nothing_left [] none = refl
nothing_left (row ∷ rows) none = absurd (omega arith)

pub put_append : (ms ns : List Member) (s : Stands) → all_put (ms ++ ns) s ≡ all_put ns (all_put ms s)
put_append [] ns s = refl
put_append (m ∷ ms) ns s = put_append ms ns (put m.content m.start s)

-- the walk after one more output section
module _ (sizes : List (List Cut)) (at end : Cursor) (rest front back : List Row) (e : runs rest ≡ front ∷ runs back) (follows : end ≡ after sizes at front) where
  pub next_end : end_along sizes end (runs back) ≡ end_along sizes at (runs rest)
  next_end = rw (e, follows) refl

  pub next_sections : (items : List Item) (class : Class) (xs ys : List OutputSection) → ys ≡ xs ++ section_in sizes items class at front
      → ys ++ sections_along sizes items class end (runs back) ≡ xs ++ sections_along sizes items class at (runs rest)
  next_sections items class xs ys more =
      rw (e, follows, more) (append_assoc xs (section_in sizes items class at front) _)

  pub next_members : (xs ys : List Member) → ys ≡ xs ++ members_in sizes at front → ys ++ members_along sizes end (runs back) ≡ xs ++ members_along sizes at (runs rest)
  next_members xs ys more = rw (e, follows, more) (append_assoc xs (members_in sizes at front) _)

  pub next_places : (items : List Item) (class : Class) (xs ys : List OutputPlace) → ys ≡ xs ++ place_in sizes items class at front ∷ []
      → ys ++ places_along sizes items class end (runs back) ≡ xs ++ places_along sizes items class at (runs rest)
  next_places items class xs ys more = rw (e, follows, more) (append_assoc xs (place_in sizes items class at front ∷ []) _)

  pub next_stands : (xs ys : Stands) → ys ≡ all_put (stands_in sizes at front) xs
      → all_put (stands_along sizes end (runs back)) ys ≡ all_put (stands_along sizes at (runs rest)) xs
  next_stands xs ys more = rw (e, follows, more) (sym (put_append (stands_in sizes at front) _ xs))
