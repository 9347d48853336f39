-- Records in order of section and number: those of each section one after the other, and what is found in them.
use Rattle.std.proofs.Common.{◌≡◌, ℕ, zero, suc, ◌+◌, ◌*◌, ◌^◌, ◌<◌, ◌≤◌, ◌==◌, List, [], ◌∷◌, ◌++◌, flat_map, refl, sym, ap, ◌∙◌, arith, subst, inl, inr, Option}
use Rattle.std.specs.List.{All, AllByRecursion, filter, range_with_len}
use Rattle.std.proofs.lemmas.Bool.{cases_lt, cond-true, cond-false, eq-eqb, ne_eqb}
use Rattle.std.proofs.lemmas.List.Concat.{flat_map-append}
use Rattle.std.proofs.lemmas.List.Elements.{All-weaker, recursion_from_All}
use Rattle.lk_base.specs.Order.{stable_order}
use Rattle.lk_base.proofs.StableElements.{all_order, all_stable}
use Rattle.lk_base.proofs.StableOrder.{Rises, rises_order}
use Rattle.lk_base.specs.declared.defects.Defect.{Defect}
use Rattle.lk_base.specs.Firsts.{IsFirst}
use Rattle.lk_base.proofs.NoneGiven.{left_none, right_none}
use Rattle.lk_tables.specs.Binding.{Bindings}
use Rattle.lk_tables.specs.Files.{File, section_total}
use Rattle.lk_tables.specs.FramePlans.{PlanView}
use Rattle.lk_tables.specs.Frames.{RecordList}
use Rattle.link_sections.specs.LaidOut.{LaidOut}
use Rattle.eh_frame.specs.declared.placing.Placed.{Placed}
use Rattle.eh_frame.specs.Bytes.{IsKnown, all_placed, frame_defects, placed_order, is_of, order_of, placed_defects, record_defects}

-- the elements of a list by groups, of which each has a number
abbrev group : {X : Type 0} → (X → ℕ) → (n : ℕ) → List X → List X
group number n xs = filter (λ x. number x == n) xs

abbrev groups : {X : Type 0} → (X → ℕ) → (from n : ℕ) → List X → List X
groups number from n xs = flat_map (λ k. group number k xs) (range_with_len from n)

none_in : {X : Type 0} (number : X → ℕ) (k m : ℕ) (xs : List X) → k < m → AllByRecursion (λ x. m ≤ number x) xs → group number k xs ≡ []
none_in number k m [] lt all = refl
none_in number k m (x ∷ xs) lt all =
    let least : m ≤ number x = all.0 in
    cond-false (number x == k) (x ∷ group number k xs) (group number k xs) (ne_eqb (number x) k (λ same. omega (arith, least, same, lt)))
    ∙ none_in number k m xs lt all.1

-- the first element is of none of the groups after its own
after_own : {X : Type 0} (number : X → ℕ) (x : X) (xs : List X) (from n : ℕ) → number x < from → groups number from n (x ∷ xs) ≡ groups number from n xs
after_own number x xs from zero lt = refl
after_own number x xs from (suc n) lt =
    ap (λ l. l ++ groups number (from + 1) n (x ∷ xs))
    (cond-false (number x == from) (x ∷ group number from xs) (group number from xs) (ne_eqb (number x) from (λ same. omega (arith, lt, same))))
    ∙ ap (λ l. group number from xs ++ l) (after_own number x xs (from + 1) n (omega (arith, lt)))

in_front : {X : Type 0} (number : X → ℕ) (x : X) (xs : List X) (from n : ℕ) → from ≤ number x → number x < from + n → AllByRecursion (λ y. number x ≤ number y) xs →
    groups number from n (x ∷ xs) ≡ x ∷ groups number from n xs
in_front number x xs from zero le lt all = absurd (omega (arith, le, lt))
in_front number x xs from (suc n) le lt all = elim (cases_lt from (number x)) [
  | inl less ↦
      let none = none_in number from (number x) xs less all in
      ap (λ l. l ++ groups number (from + 1) n (x ∷ xs))
      (cond-false (number x == from) (x ∷ group number from xs) (group number from xs) (ne_eqb (number x) from (λ same. omega (arith, less, same))) ∙ none)
      ∙ in_front number x xs (from + 1) n (omega (arith, less)) (omega (arith, lt)) all
      ∙ ap (λ l. x ∷ (l ++ groups number (from + 1) n xs)) (sym none)
  | inr most ↦
      ap (λ l. l ++ groups number (from + 1) n (x ∷ xs))
      (cond-true (number x == from) (x ∷ group number from xs) (group number from xs) (eq-eqb (number x) from (omega (arith, most, le))))
      ∙ ap (λ l. x ∷ (group number from xs ++ l)) (after_own number x xs (from + 1) n (omega (arith, most)))
]

no_groups : {X : Type 0} (number : X → ℕ) (from n : ℕ) → groups number from n [] ≡ []
no_groups number from zero = refl
no_groups number from (suc n) = no_groups number (from + 1) n

grouped : {X : Type 0} (number : X → ℕ) (n : ℕ) (xs : List X) → Rises number xs → AllByRecursion (λ x. number x < n) xs → groups number 0 n xs ≡ xs
grouped number n [] up high = no_groups number 0 n
grouped number n (x ∷ xs) up high =
    let less : number x < n = high.0 in
    in_front number x xs 0 n (omega arith) (omega (arith, less)) up.0 ∙ ap (λ l. x ∷ l) (grouped number n xs up.1 high.1)

flat_flat : {X Y : Type 0} (f : X → List Y) (g : ℕ → List X) (ns : List ℕ) → flat_map f (flat_map g ns) ≡ flat_map (λ n. flat_map f (g n)) ns
flat_flat f g [] = refl
flat_flat f g (n ∷ ns) = flat_map-append f (g n) (flat_map g ns) ∙ ap (λ l. flat_map f (g n) ++ l) (flat_flat f g ns)

-- what is in order of section and number is in order of section
abbrev section : Placed → ℕ
section p = p.number.section

lower : (p : Placed) (qs : List Placed) → AllByRecursion (λ (q : Placed). q.number.at < 2 ^ 32) qs → AllByRecursion (λ q. order_of p ≤ order_of q) qs →
    AllByRecursion (λ q. section p ≤ section q) qs
lower p [] few up = tt
lower p (q ∷ qs) few up =
    let small : q.number.at < 2 ^ 32 = few.0 in
    let le : p.number.section * 2 ^ 32 + p.number.at ≤ q.number.section * 2 ^ 32 + q.number.at = up.0 in
    (omega (arith, small, le), lower p qs few.1 up.1)

by_section : (ps : List Placed) → AllByRecursion (λ (q : Placed). q.number.at < 2 ^ 32) ps → Rises order_of ps → Rises section ps
by_section [] few up = tt
by_section (p ∷ ps) few up = (lower p ps few.1 up.0, by_section ps few.1 up.1)

pub sections_in_order : (f : Placed → List Defect) (ps : List Placed) (total : ℕ) → All (λ (p : Placed). p.number.at < 2 ^ 32) ps →
    All (λ (p : Placed). p.number.section < total) ps →
    flat_map f (placed_order ps) ≡ flat_map (λ n. flat_map f (filter (is_of n) (placed_order ps))) (range_with_len 0 total)
unfolding placed_order
sections_in_order f ps total few high =
    let qs = stable_order order_of ps in
    let small = recursion_from_All (λ (p : Placed). p.number.at < 2 ^ 32) qs (all_stable (λ (p : Placed). p.number.at < 2 ^ 32) order_of ps few) in
    let below = recursion_from_All (λ (p : Placed). p.number.section < total) qs (all_stable (λ (p : Placed). p.number.section < total) order_of ps high) in
    ap (flat_map f) (sym (grouped section total qs (by_section qs small (rises_order order_of ps)) below))
    ∙ flat_flat f (λ n. group section n qs) (range_with_len 0 total)

-- where nothing is found in some order, nothing is in another
each_none : {X Y : Type 0} (f : X → List Y) (xs : List X) → flat_map f xs ≡ [] → AllByRecursion (λ x. f x ≡ []) xs
each_none f [] is = tt
each_none f (x ∷ xs) is = (left_none (f x) (flat_map f xs) is, each_none f xs (right_none (f x) (flat_map f xs) is))

none_all : {X Y : Type 0} (f : X → List Y) (xs : List X) → AllByRecursion (λ x. f x ≡ []) xs → flat_map f xs ≡ []
none_all f [] all = refl
none_all f (x ∷ xs) all = ap (λ l. l ++ flat_map f xs) all.0 ∙ none_all f xs all.1

pub none_in_order : (f : Placed → List Defect) (ps : List Placed) → flat_map f ps ≡ [] → flat_map f (placed_order ps) ≡ []
unfolding placed_order
none_in_order f ps none = none_all f (stable_order order_of ps) (all_order (λ p. f p ≡ []) order_of ps (each_none f ps none))

-- what is wrong with the values of all that are written
pub defects_are : (files : List File) (b : Bindings) (leaders : List (Option ℕ)) (laid : LaidOut) (lists : List RecordList) (plan : PlanView) (start : ℕ) →
    All (λ (p : Placed). IsKnown files lists p.number) (all_placed lists plan) →
    flat_map (placed_defects files b leaders laid lists start) (placed_order (all_placed lists plan)) ≡ frame_defects files b leaders laid lists plan start
unfolding frame_defects record_defects
defects_are files b leaders laid lists plan start known =
    let ps = all_placed lists plan in
    let Known : Placed → Type 0 = λ (p : Placed). IsKnown files lists p.number in
    sections_in_order (placed_defects files b leaders laid lists start) ps (section_total files)
    (All-weaker Known (λ (p : Placed). p.number.at < 2 ^ 32) (λ p own. let few = own.few in omega (arith, few)) ps known)
    (All-weaker Known (λ (p : Placed). p.number.section < section_total files) (λ p own. own.section) ps known)

-- the first found of another list that is the same
pub first_of_same : (xs ys : List Defect) (found : Option Defect) → xs ≡ ys → IsFirst xs found → IsFirst ys found
first_of_same xs ys found same first =
    let P : List Defect → Type 0 = λ l. IsFirst l found in subst P same first

pub defects_found : (files : List File) (b : Bindings) (leaders : List (Option ℕ)) (laid : LaidOut) (lists : List RecordList) (plan : PlanView) (from start : ℕ)
    (placed : List Placed) (found : Option Defect) → All (λ (p : Placed). IsKnown files lists p.number) (all_placed lists plan) → placed ≡ all_placed lists plan → from ≡ start →
    IsFirst (flat_map (placed_defects files b leaders laid lists from) (placed_order placed)) found → IsFirst (frame_defects files b leaders laid lists plan start) found
defects_found files b leaders laid lists plan from start placed found known is same first =
    first_of_same (flat_map (placed_defects files b leaders laid lists from) (placed_order placed)) (frame_defects files b leaders laid lists plan start) found
    (ap (λ s. flat_map (placed_defects files b leaders laid lists s) (placed_order placed)) same
    ∙ ap (λ ps. flat_map (placed_defects files b leaders laid lists start) (placed_order ps)) is
    ∙ defects_are files b leaders laid lists plan start known)
    first
