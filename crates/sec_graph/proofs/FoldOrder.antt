-- The sections that may be folded, and the items of these, stand in order of number.
use Rattle.std.proofs.Common.{◌≡◌, ℕ, ◌+◌, ◌<◌, ◌≤◌, Bool, true, false, if◌then◌else◌, List, [], ◌∷◌, ◌++◌, All, cond, length, map, flat_map, refl, sym, ap, ◌∙◌, subst, arith}
use Rattle.std.specs.Prelude.{filter, Option}
use Rattle.std.specs.List.{range_with_len}
use Rattle.std.specs.List.Sorted.{IsStrictlyIncreasing}
use Rattle.std.proofs.lemmas.List.{length-map}
use Rattle.std.proofs.lemmas.List.Elements.{filter-append}
use Rattle.std.proofs.lemmas.List.FromFn.{get_or-range_with_len, length-range_with_len}
use Rattle.std.proofs.lemmas.List.Kept.{IsStrictlyIncreasing-filter}
use Rattle.lk_base.proofs.Loops.{range_more}
use Rattle.lk_tables.specs.Binding.{Bindings}
use Rattle.lk_tables.specs.Files.{File, section_total}
use Rattle.link_sections.specs.FoldItems.{FoldItem, section_of, sections_of}
use Rattle.link_sections.specs.PoolViews.{Merged}
use Rattle.sec_graph.specs.Foldable.{foldable, is_foldable, item_if, item_in, item_of, items}
use Rattle.sec_graph.proofs.ListParts.{each_passed}

range_rises : (n : ℕ) → IsStrictlyIncreasing (range_with_len 0 n)
range_rises n = λ k lt.
    let long = length-range_with_len 0 n in
    omega (arith, get_or-range_with_len 0 n k 0 (omega arith), get_or-range_with_len 0 n (k + 1) 0 (omega arith))

short : {X : Type 0} (b : Bool) (x : X) (ys xs : List X) → length ys ≤ length xs → length (if b then x ∷ ys else ys) ≤ length (x ∷ xs)
short true x ys xs le = omega arith
short false x ys xs le = omega arith

filter_short : {X : Type 0} (p : X → Bool) (xs : List X) → length (filter p xs) ≤ length xs
filter_short p [] = omega arith
filter_short p (x ∷ xs) = short (p x) x (filter p xs) xs (filter_short p xs)

one_section : (b : Bool) (i : FoldItem) (n : ℕ) (rest : List FoldItem) (list : List ℕ) → section_of i ≡ n → map section_of rest ≡ list →
    map section_of ((if b then i ∷ [] else []) ++ rest) ≡ (if b then n ∷ list else list)
one_section true i n rest list e f = ap (λ k. k ∷ map section_of rest) e ∙ ap (λ l. n ∷ l) f
one_section false i n rest list e f = f

pub passing_more : (test : ℕ → Bool) (n : ℕ) → filter test (range_with_len 0 (n + 1)) ≡ filter test (range_with_len 0 n) ++ cond (test n) (n ∷ []) []
passing_more test n = ap (filter test) (range_more n) ∙ filter-append test (range_with_len 0 n) (n ∷ [])

module _ (files : List File) (b : Bindings) (kept barred : List Bool) where
  pub foldable_rise : IsStrictlyIncreasing (foldable files b kept barred)
  unfolding foldable
  foldable_rise = IsStrictlyIncreasing-filter (is_foldable files b kept barred) (range_with_len 0 (section_total files)) (range_rises (section_total files))

  pub foldable_within : All (λ n. n < section_total files) (foldable files b kept barred)
  unfolding foldable
  foldable_within = each_passed (λ n. n < section_total files) (is_foldable files b kept barred) 0 (section_total files) (λ n lt is. omega (arith, lt))

one_item : {X Y : Type 0} (f : X → Y) (b : Bool) (x : X) (ys : List Y) (xs : List X) → ys ≡ map f xs → (if b then f x ∷ [] else []) ++ ys ≡ map f (if b then x ∷ xs else xs)
one_item f true x ys xs e = ap (λ l. f x ∷ l) e
one_item f false x ys xs e = e

module _ (files : List File) (b : Bindings) (merged : List (Option Merged)) (kept barred : List Bool) where
  each_item : (ns : List ℕ) → flat_map (item_if files b merged kept barred) ns ≡ map (item_of files b merged) (filter (is_foldable files b kept barred) ns)
  each_item [] = refl
  each_item (n ∷ ns) =
      one_item (item_of files b merged) (is_foldable files b kept barred n) n (flat_map (item_if files b merged kept barred) ns) (filter (is_foldable files b kept barred) ns) (each_item ns)

  -- the items are those of these sections
  pub items_are : items files b merged kept barred ≡ map (item_of files b merged) (foldable files b kept barred)
  unfolding items foldable
  items_are = each_item (range_with_len 0 (section_total files))

  own_section : (n : ℕ) → section_of (item_of files b merged n) ≡ n
  unfolding item_in
  own_section n = refl

  sections_kept : (ns : List ℕ) → map section_of (flat_map (item_if files b merged kept barred) ns) ≡ filter (is_foldable files b kept barred) ns
  sections_kept [] = refl
  sections_kept (n ∷ ns) =
      one_section (is_foldable files b kept barred n) (item_of files b merged n) n (flat_map (item_if files b merged kept barred) ns) (filter (is_foldable files b kept barred) ns)
      (own_section n) (sections_kept ns)

  pub sections_are : sections_of (items files b merged kept barred) ≡ filter (is_foldable files b kept barred) (range_with_len 0 (section_total files))
  unfolding items sections_of
  sections_are = sections_kept (range_with_len 0 (section_total files))

  pub items_rise : IsStrictlyIncreasing (sections_of (items files b merged kept barred))
  items_rise =
      let P : List ℕ → Type 0 = IsStrictlyIncreasing in
      subst P (sym sections_are) (IsStrictlyIncreasing-filter (is_foldable files b kept barred) (range_with_len 0 (section_total files)) (range_rises (section_total files)))

  items_wide : length (sections_of (items files b merged kept barred)) ≡ length (items files b merged kept barred)
  unfolding sections_of
  items_wide = length-map (items files b merged kept barred) section_of

  pub items_few : length (items files b merged kept barred) ≤ section_total files
  items_few =
      omega (arith, sym items_wide ∙ ap length sections_are, filter_short (is_foldable files b kept barred) (range_with_len 0 (section_total files)), length-range_with_len 0 (section_total files))
