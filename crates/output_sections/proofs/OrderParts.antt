-- The orders of the classes in parts: part after part they are those of all.
use Rattle.std.proofs.Common.{◌≡◌, ℕ, ◌+◌, ◌-◌, ◌≤◌, List, [], ◌∷◌, ◌++◌, map, sym, ap, ◌∙◌, arith}
use Rattle.std.specs.Global.{Vec}
use Rattle.std.specs.List.{range_with_len}
use Rattle.std.proofs.lemmas.List.{map-append}
use Rattle.lk_base.proofs.Ranges.{range_parts}
use Rattle.work_split.proofs.ListedRuns.{first_run, run_more}
use Rattle.work_split.proofs.RunsBeside.{GoesBeside}
use Rattle.output_sections.specs.declared.rows.Row.{Row}
use Rattle.output_sections.specs.Items.{Item}
use Rattle.output_sections.specs.Order.{class_at, lists_view, order_of, orders_between}

module _ (items : List Item) where
  abbrev give : ℕ → List Row
  give place = order_of (class_at place) items

  pub first_part : (a : ℕ) → [] ≡ orders_between items a a
  first_part a = first_run give a

  pub part_more : (a n : ℕ) (old new : List (Vec Row)) (list : Vec Row) → a ≤ n → lists_view old ≡ orders_between items a n → new ≡ old ++ list ∷ [] → list.items ≡ give n
      → lists_view new ≡ orders_between items a (n + 1)
  part_more a n old new list le held is own =
      run_more give a n (lists_view old) (lists_view new) le held
      (ap lists_view is ∙ map-append (λ (v : Vec Row). v.items) old (list ∷ []) ∙ ap (λ l. lists_view old ++ l ∷ []) own)

  both_parts : (a m b : ℕ) (xs ys : List (Vec Row)) → a ≤ m → m ≤ b → lists_view xs ≡ orders_between items a m → lists_view ys ≡ orders_between items m b
      → lists_view (xs ++ ys) ≡ orders_between items a b
  both_parts a m b xs ys low high one two =
      let n : b - a ≡ (m - a) + (b - m) = omega (arith, low, high) in
      let from : a + (m - a) ≡ m = omega (arith, low) in
      map-append (λ (v : Vec Row). v.items) xs ys ∙ ap (λ l. l ++ lists_view ys) one ∙ ap (λ l. orders_between items a m ++ l) two
      ∙ sym (ap (λ k. map give (range_with_len a k)) n ∙ ap (map give) (range_parts a (m - a) (b - m))
      ∙ map-append give (range_with_len a (m - a)) (range_with_len (a + (m - a)) (b - m))
      ∙ ap (λ k. map give (range_with_len a (m - a)) ++ map give (range_with_len k (b - m))) from)

  pub parts_beside : GoesBeside {X = Vec Row} (λ a b lists. lists_view lists ≡ orders_between items a b)
  parts_beside = record { none = first_part; both = both_parts }
