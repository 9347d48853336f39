-- Lists of defects of which none comes before the first.
use Rattle.std.proofs.Common.{◌≡◌, ℕ, zero, suc, ◌+◌, ◌<◌, ◌≤◌, ◌&&◌, ◌||◌, ◌==◌, not, nat_lt, Bool, true, false, List, [], ◌∷◌, ◌++◌, flat_map, get_or, refl, sym, subst, ⊎_elim, arith}
use Rattle.std.specs.Prelude.{filter, if◌then◌else◌}
use Rattle.std.specs.List.{AllByRecursion}
use Rattle.std.proofs.lemmas.Bool.{and_parts, both_ways, eq-eqb, eqb-true, ltb-true, not-true, or_cases}
use Rattle.std.proofs.lemmas.List.Elements.{All-from_recursion}
use Rattle.lk_base.specs.declared.defects.Defect.{Defect}
use Rattle.lk_base.specs.declared.numbers.TheConstants.{NO_FILE}
use Rattle.lk_base.specs.Firsts.{BeginsWith}
use Rattle.lk_base.proofs.StableOrder.{Rises}
use Rattle.lk_tables.specs.Binding.{first_phase}
use Rattle.link_driver.specs.Laws.{IsLeast, comes_before}
use Rattle.link_passes.proofs.Rising.{Up, all_append, all_weaker, up_append, up_if}

-- e does not come before d
abbrev pub NotBefore : (e d : Defect) → Type 0
NotBefore e d = comes_before e d ≡ false

false_unless : (b : Bool) → (b ≡ true → ⊥) → b ≡ false
false_unless true wrong = absurd (wrong refl)
false_unless false wrong = refl

not_before : (e d : Defect) → (e.file < d.file → ⊥) → (e.file ≡ d.file → e.section < d.section → ⊥)
    → (e.file ≡ d.file → e.section ≡ d.section → e.place < d.place → ⊥) → NotBefore e d
not_before e d file section place =
    let later = nat_lt e.section d.section || (e.section == d.section && nat_lt e.place d.place) in
    false_unless (comes_before e d) (λ is.
    let order = and_parts (not (e.file == NO_FILE)) (nat_lt e.file d.file || (e.file == d.file && later)) is in
    ⊎_elim
    (λ lt. file (ltb-true e.file d.file lt))
    (λ same.
    let two = and_parts (e.file == d.file) later same in
    let equal = eqb-true e.file d.file two.0 in
    ⊎_elim
    (λ lt. section equal (ltb-true e.section d.section lt))
    (λ also.
    let three = and_parts (e.section == d.section) (nat_lt e.place d.place) also in
    place equal (eqb-true e.section d.section three.0) (ltb-true e.place d.place three.1))
    (or_cases (nat_lt e.section d.section) (e.section == d.section && nat_lt e.place d.place) two.1))
    (or_cases (nat_lt e.file d.file) (e.file == d.file && later) order.1))

pub later_file : (e d : Defect) → d.file < e.file → NotBefore e d
later_file e d lt = not_before e d (λ l. omega (arith, l, lt)) (λ s l. omega (arith, s, lt)) (λ s t l. omega (arith, s, lt))

pub later_section : (e d : Defect) → e.file ≡ d.file → d.section < e.section → NotBefore e d
later_section e d same lt = not_before e d (λ l. omega (arith, l, same)) (λ s l. omega (arith, l, lt)) (λ s t l. omega (arith, t, lt))

pub later_place : (e d : Defect) → e.file ≡ d.file → e.section ≡ d.section → d.place ≤ e.place → NotBefore e d
later_place e d same also le = not_before e d (λ l. omega (arith, l, same)) (λ s l. omega (arith, l, also)) (λ s t l. omega (arith, l, le))

itself : (d : Defect) → NotBefore d d
itself d = later_place d d refl refl (omega arith)

-- a defect of no file
abbrev pub IsWide : Defect → Type 0
IsWide e = e.file ≡ NO_FILE

pub wide_last : (e d : Defect) → IsWide e → NotBefore e d
wide_last e d is =
    false_unless (comes_before e d) (λ before.
    let parts = and_parts (not (e.file == NO_FILE))
    (nat_lt e.file d.file || (e.file == d.file && (nat_lt e.section d.section || (e.section == d.section && nat_lt e.place d.place)))) before in
    both_ways (e.file == NO_FILE) (not-true (e.file == NO_FILE) parts.0) (eq-eqb e.file NO_FILE is))

pub all_same : {X : Type 0} (P : X → Type 0) (xs : List X) → ((x : X) → P x) → AllByRecursion P xs
all_same P [] each = tt
all_same P (x ∷ xs) each = (each x, all_same P xs each)

pub all_flat : {X Y : Type 0} (P : Y → Type 0) (give : X → List Y) (xs : List X) → ((x : X) → AllByRecursion P (give x)) → AllByRecursion P (flat_map give xs)
all_flat P give [] each = tt
all_flat P give (x ∷ xs) each = all_append P (give x) (flat_map give xs) (each x) (all_flat P give xs each)

pub all_if : {X : Type 0} (P : X → Type 0) (on : Bool) (xs ys : List X) → AllByRecursion P xs → AllByRecursion P ys → AllByRecursion P (if on then xs else ys)
all_if P true xs ys first second = first
all_if P false xs ys first second = second

all_filter : {X : Type 0} (P : X → Type 0) (test : X → Bool) (xs : List X) → AllByRecursion P xs → AllByRecursion P (filter test xs)
all_filter P test [] all = tt
all_filter P test (x ∷ xs) all = all_if P (test x) (x ∷ filter test xs) (filter test xs) (all.0, all_filter P test xs all.1) (all_filter P test xs all.1)

pub up_filter : {X : Type 0} (R : X → X → Type 0) (test : X → Bool) (xs : List X) → Up R xs → Up R (filter test xs)
up_filter R test [] up = tt
up_filter R test (x ∷ xs) up =
    up_if R (test x) (x ∷ filter test xs) (filter test xs) (all_filter (R x) test xs up.0, up_filter R test xs up.1) (up_filter R test xs up.1)

-- none comes before an earlier one
abbrev pub NotAfter : (d e : Defect) → Type 0
NotAfter d e = NotBefore e d

abbrev pub Ordered : List Defect → Type 0
Ordered ds = Up NotAfter ds

pub wide_ordered : (ds : List Defect) → AllByRecursion IsWide ds → Ordered ds
wide_ordered [] wide = tt
wide_ordered (d ∷ ds) wide = (all_weaker IsWide (NotAfter d) ds (λ e is. wide_last e d is) wide.1, wide_ordered ds wide.1)

pub then_wide : (xs ys : List Defect) → Ordered xs → AllByRecursion IsWide ys → Ordered (xs ++ ys)
then_wide xs ys first wide =
    up_append NotAfter xs ys first (wide_ordered ys wide)
    (all_same (λ d. AllByRecursion (NotAfter d) ys) xs (λ d. all_weaker IsWide (NotAfter d) ys (λ e is. wide_last e d is) wide))

-- so none comes before the first
pub first_least : (d : Defect) (ds : List Defect) → Ordered ds → BeginsWith ds d → IsLeast d ds
first_least d ds up begins =
    let P : List Defect → Type 0 = λ l. Ordered l in
    let Q : List Defect → Type 0 = λ l. IsLeast d l in
    let own = subst P begins.1 up in
    subst Q (sym begins.1) (All-from_recursion (λ e. comes_before e d ≡ false) (d ∷ begins.0) (itself d, own.0))

pub up_from_rises : {X : Type 0} (key : X → ℕ) (xs : List X) → Rises key xs → Up (λ x z. key x ≤ key z) xs
up_from_rises key [] rises = tt
up_from_rises key (x ∷ xs) rises = (rises.0, up_from_rises key xs rises.1)

-- by number
pub read_all : {X : Type 0} (P : X → Type 0) (xs : List X) (k : ℕ) (d : X) → AllByRecursion P xs → P d → P (get_or xs k d)
read_all P [] k d all base = base
read_all P (x ∷ xs) zero d all base = all.0
read_all P (x ∷ xs) (suc k) d all base = read_all P xs k d all.1 base

-- of phases the first that has any
pub first_ordered : (ds : List Defect) (phases : List (List Defect)) → Ordered ds → (ds ≡ [] → Ordered (first_phase phases)) → Ordered (first_phase (ds ∷ phases))
first_ordered [] phases here later = later refl
first_ordered (d ∷ ds) phases here later = here
