-- The runs of a class differ in their output section.
use Rattle.std.proofs.Common.{◌≡◌, ℕ, ◌+◌, ◌*◌, ◌^◌, ◌<◌, ◌≤◌, ◌==◌, Bool, true, false, if◌then◌else◌, List, [], ◌∷◌, get_or, All, refl, ap, sym, ◌∙◌, subst, inl, inr, arith}
use Rattle.std.specs.List.{AllByRecursion}
use Rattle.std.proofs.lemmas.Bool.{cases_lt, eq-eqb, eqb-true}
use Rattle.std.proofs.lemmas.List.Elements.{All-nil, All-head, All-tail, All-cons}
use Rattle.lk_base.proofs.StableOrder.{Rises, rises_order}
use Rattle.lk_tables.specs.declared.classes.Class.{Class}
use Rattle.lk_tables.specs.declared.classes.Class.TheVariants.{R, Rx, TlsBits, TlsNobits, RwBits, RwNobits}
use Rattle.output_sections.specs.declared.rows.Row.{Row}
use Rattle.output_sections.specs.Items.{Item}
use Rattle.output_sections.specs.Order.{key_of, orders_of, rows_in, rows_of}
use Rattle.layout.specs.Walk.{beside, runs}
use Rattle.layout.proofs.Runs.{EachRun, each_run}

pub each_two : (P Q S : Row → Type 0) (os : List (List Row)) → ((row : Row) → P row → Q row → S row) → EachRun P os → EachRun Q os → EachRun S os
each_two P Q S [] both p q = tt
each_two P Q S (o ∷ os) both p q = ((λ k d lt. both (get_or o k d) (p.0 k d lt) (q.0 k d lt)), each_two P Q S os both p.1 q.1)

-- the number of the output section of a run
abbrev pub first_group : List Row → ℕ
first_group [] = 0
first_group (row ∷ rows) = row.group

abbrev pub AreGroups : List (List Row) → Type 0
AreGroups [] = Unit {0}
AreGroups (o ∷ os) = All (λ row. row.group ≡ first_group o) o × (EachRun (λ row. row.group ≡ first_group o → ⊥) os × AreGroups os)

-- rank, number and priority are the digits of a key, and the number gives the rank
pub record IsKeyed (rank_of : ℕ → ℕ) (row : Row) : Type 0 where
  pub rank : row.rank ≡ rank_of row.group
  pub low : row.group < 2 ^ 32
  pub priority : row.priority < 2 ^ 32

key_less : (rank_of : ℕ → ℕ) (a c : Row) → IsKeyed rank_of c → key_of a ≤ key_of c → a.rank * 2 ^ 32 + a.group ≤ c.rank * 2 ^ 32 + c.group
unfolding key_of
key_less rank_of a c keyed le =
    let digits : (a.rank * 2 ^ 32 + a.group) * 2 ^ 32 + a.priority ≤ (c.rank * 2 ^ 32 + c.group) * 2 ^ 32 + c.priority = le in
    omega (arith, digits, keyed.priority)

same_digit : (p q g h : ℕ) → g < 2 ^ 32 → h < 2 ^ 32 → p * 2 ^ 32 + g ≡ q * 2 ^ 32 + h → g ≡ h
same_digit p q g h low low' is =
    elim (cases_lt p q) [
      | inl lt ↦ absurd (omega (arith, lt, low, is))
      | inr le ↦ elim (cases_lt q p) [
        | inl lt ↦ absurd (omega (arith, lt, low', is))
        | inr le' ↦ omega (arith, le, le', is)
      ]
    ]

between : (rank_of : ℕ → ℕ) (a n c : Row) → IsKeyed rank_of a → IsKeyed rank_of n → IsKeyed rank_of c → key_of a ≤ key_of n → key_of n ≤ key_of c → c.group ≡ a.group
    → n.group ≡ a.group
between rank_of a n c first middle last low high same =
    let rank : c.rank ≡ a.rank = last.rank ∙ ap rank_of same ∙ sym first.rank in
    same_digit n.rank a.rank n.group a.group middle.low first.low
    (omega (arith, key_less rank_of a n middle low, key_less rank_of n c last high, rank, same))

-- a run of a row begins with it
record Begins (row : Row) (os : List (List Row)) : Type 0 where
  run : List Row
  rest : List (List Row)
  is : os ≡ (row ∷ run) ∷ rest

begins : (row : Row) (os : List (List Row)) → Begins row (beside row os)
begins row [] = record { run = []; rest = []; is = refl }
begins row ([] ∷ rest) = record { run = []; rest = rest; is = refl }
begins row ((next ∷ run) ∷ rest) = by (next.group == row.group)
  where
    by : (t : Bool) → Begins row (if t then (row ∷ next ∷ run) ∷ rest else (row ∷ []) ∷ (next ∷ run) ∷ rest)
    by true = record { run = next ∷ run; rest = rest; is = refl }
    by false = record { run = []; rest = (next ∷ run) ∷ rest; is = refl }

groups_beside : (rank_of : ℕ → ℕ) (row next : Row) (run : List Row) (rest : List (List Row)) → IsKeyed rank_of row → IsKeyed rank_of next
    → EachRun (IsKeyed rank_of) ((next ∷ run) ∷ rest) → key_of row ≤ key_of next → EachRun (λ r. key_of next ≤ key_of r) ((next ∷ run) ∷ rest)
    → AreGroups ((next ∷ run) ∷ rest) → AreGroups (beside row ((next ∷ run) ∷ rest))
groups_beside rank_of row next run rest first second keyed low least groups = by (next.group == row.group) refl
  where
    by : (t : Bool) → (next.group == row.group) ≡ t → AreGroups (if t then (row ∷ next ∷ run) ∷ rest else (row ∷ []) ∷ (next ∷ run) ∷ rest)
    by true is =
        let same : next.group ≡ row.group = eqb-true next.group row.group is in (
          All-cons (λ (r : Row). r.group ≡ row.group) row (next ∷ run) refl (λ k d lt. groups.0 k d lt ∙ same),
          (
            each_two (λ (r : Row). r.group ≡ next.group → ⊥) (λ (r : Row). r.group ≡ next.group → ⊥) (λ (r : Row). r.group ≡ row.group → ⊥) rest
                (λ r other _ own. other (own ∙ sym same)) groups.1.0 groups.1.0,
            groups.1.1,
          ),
        )
    by false is =
        let differ : next.group ≡ row.group → ⊥ = λ same. let wrong : true ≡ false = sym (eq-eqb next.group row.group same) ∙ is in cc in (
          All-cons (λ (r : Row). r.group ≡ row.group) row [] refl (All-nil (λ (r : Row). r.group ≡ row.group)),
          (
            each_two (IsKeyed rank_of) (λ (r : Row). key_of next ≤ key_of r) (λ (r : Row). r.group ≡ row.group → ⊥) ((next ∷ run) ∷ rest)
                (λ r last high own. differ (between rank_of row next r first second last low high own)) keyed least,
            groups,
          ),
        )

of_recursion : (P : Row → Type 0) (rows : List Row) → AllByRecursion P rows → All P rows
of_recursion P [] all = All-nil P
of_recursion P (row ∷ rows) all = All-cons P row rows all.0 (of_recursion P rows all.1)

groups_runs : (rank_of : ℕ → ℕ) (rows : List Row) → All (IsKeyed rank_of) rows → Rises key_of rows → AreGroups (runs rows)
unfolding runs
groups_runs rank_of [] all rises = tt
groups_runs rank_of (row ∷ []) all rises = (All-cons (λ (r : Row). r.group ≡ row.group) row [] refl (All-nil (λ (r : Row). r.group ≡ row.group)), (tt, tt))
groups_runs rank_of (row ∷ next ∷ rows) all rises =
    let P : Row → Type 0 = λ r. key_of next ≤ key_of r in
    let later : All (IsKeyed rank_of) (next ∷ rows) = All-tail (IsKeyed rank_of) row (next ∷ rows) all in
    let same : key_of next ≤ key_of next = omega arith in
    let start = begins next (runs rows) in
    let keyed : EachRun (IsKeyed rank_of) (runs (next ∷ rows)) = each_run (IsKeyed rank_of) (next ∷ rows) later in
    let least : EachRun P (runs (next ∷ rows)) = each_run P (next ∷ rows) (All-cons P next rows same (of_recursion P rows rises.1.0)) in
    let more : AreGroups (runs (next ∷ rows)) = groups_runs rank_of (next ∷ rows) later rises.1 in
    subst (λ os. AreGroups (beside row os)) (sym start.is)
    (groups_beside rank_of row next start.run start.rest (All-head (IsKeyed rank_of) row (next ∷ rows) all) (All-head (IsKeyed rank_of) next rows later)
    (subst (EachRun (IsKeyed rank_of)) start.is keyed) rises.0.0 (subst (EachRun P) start.is least) (subst AreGroups start.is more))

pub each_rises : (parts : List Item) (class : Class) → Rises key_of (rows_in (orders_of parts) class)
unfolding orders_of
each_rises parts R = rises_order key_of (rows_of R parts)
each_rises parts Rx = rises_order key_of (rows_of Rx parts)
each_rises parts TlsBits = rises_order key_of (rows_of TlsBits parts)
each_rises parts TlsNobits = rises_order key_of (rows_of TlsNobits parts)
each_rises parts RwBits = rises_order key_of (rows_of RwBits parts)
each_rises parts RwNobits = rises_order key_of (rows_of RwNobits parts)

pub class_groups : (rank_of : ℕ → ℕ) (parts : List Item) (class : Class) → All (IsKeyed rank_of) (rows_in (orders_of parts) class) → AreGroups (runs (rows_in (orders_of parts) class))
class_groups rank_of parts class all = groups_runs rank_of (rows_in (orders_of parts) class) all (each_rises parts class)
