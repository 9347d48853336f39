-- Rows in parts, each of a run of items: part after part they are the rows of all.
use Rattle.std.proofs.Common.{◌≡◌, ℕ, ◌+◌, ◌-◌, ◌<◌, ◌≤◌, List, [], ◌∷◌, ◌++◌, length, map, flat_map, get_or, sym, ap, ◌∙◌, subst, ⊎_elim, arith}
use Rattle.std.specs.List.{range_with_len}
use Rattle.std.proofs.lemmas.Bool.{cases_lt}
use Rattle.std.proofs.lemmas.List.{get_or-map, length-map}
use Rattle.std.proofs.lemmas.List.FromFn.{fill_by_all}
use Rattle.link_sections.specs.declared.fold_items.FoldItem.{FoldItem as LentItem}
use Rattle.link_sections.specs.FoldItems.{FoldItem, item_view, item_views, sections_of}
use Rattle.work_split.proofs.ListedRuns.{both_parts, first_run, run_more}
use Rattle.work_split.proofs.RunsBeside.{GoesBeside}
use Rattle.icf_part.specs.Folding.{item_at, no_item}
use Rattle.icf_part.specs.Signatures.{AllFit, AreRows, AreRowsFrom, all_places, places, places_from, row_bytes}

-- rows of numbers
pub rows_first : (words : ℕ → List ℕ) (a : ℕ) → AreRowsFrom words a a []
rows_first words a = record { rows_are = first_run (λ k. row_bytes (words k)) a; fit = λ k low lt. absurd (omega (arith, low, lt)) }

pub rows_more : (words : ℕ → List ℕ) (a n : ℕ) (old new : List (List ℕ)) (row : List ℕ) → a ≤ n → AreRowsFrom words a n old → row ≡ words n → AllFit row →
    new ≡ old ++ row_bytes row ∷ [] → AreRowsFrom words a (n + 1) new
rows_more words a n old new row le are is fits push = record {
  rows_are = run_more (λ k. row_bytes (words k)) a n old new le are.rows_are (push ∙ ap (λ r. old ++ row_bytes r ∷ []) is);
  fit = λ k low lt. ⊎_elim
      (λ (before : k < n). are.fit k low before)
      (λ (last : n ≤ k).
      let same : n ≡ k = omega arith in
      let P : ℕ → Type 0 = λ j. AllFit (words j) in
      subst P same (subst AllFit is fits))
      (cases_lt k n);
}

pub rows_beside : (words : ℕ → List ℕ) → GoesBeside {X = List (List ℕ)} (λ a b parts. AreRowsFrom words a b (flat_map (λ part. part) parts))
rows_beside words = record {
  none = rows_first words;
  both = λ a m b xs ys low high one two. record {
    rows_are = both_parts (λ k. row_bytes (words k)) a m b xs ys low high one.rows_are two.rows_are;
    fit = λ k from lt. ⊎_elim (λ (before : k < m). one.fit k from before) (λ (after : m ≤ k). two.fit k after lt) (cases_lt k m);
  };
}

pub rows_end : (words : ℕ → List ℕ) (a n b : ℕ) (rows parts : List (List ℕ)) → n ≡ b → parts ≡ rows → AreRowsFrom words a n rows → AreRowsFrom words a b parts
rows_end words a n b rows parts e is are =
    let P : ℕ → Type 0 = λ k. AreRowsFrom words a k rows in
    let Q : List (List ℕ) → Type 0 = AreRowsFrom words a b in
    subst Q (sym is) (subst P e are)

pub rows_of_all : (words : ℕ → List ℕ) (n : ℕ) (rows : List (List ℕ)) → AreRowsFrom words 0 n rows → AreRows words n rows
rows_of_all words n rows are = record {
  rows_are = let e : n - 0 ≡ n = omega arith in are.rows_are ∙ ap (λ k. map (λ a. row_bytes (words a)) (range_with_len 0 k)) e;
  fit = λ a lt. are.fit a (omega arith) lt;
}

-- items as they are lent
pub viewed_there : (items : List LentItem) (a : ℕ) (x : LentItem) → a < length items → item_view (get_or items a x) ≡ item_at (item_views items) a
viewed_there items a x lt = sym (get_or-map item_view items a x no_item lt)

pub viewed_at : (items : List LentItem) (a : ℕ) (x : LentItem) → a < length items → x ≡ get_or items a x → item_view x ≡ item_at (item_views items) a
viewed_at items a x lt is = ap item_view is ∙ viewed_there items a x lt

-- the places of all items
pub places_all : (sections : List ℕ) (views : List FoldItem) (n : ℕ) (rows : List (List ℕ)) → length views ≡ n → sections ≡ sections_of views →
    rows ≡ places_from sections views 0 n → rows ≡ all_places views
unfolding all_places
places_all sections views n rows wide secs is =
    let f : ℕ → List ℕ = λ a. places sections (item_at views a) in
    let e : n - 0 ≡ n = omega arith in
    let each = fill_by_all f (map (places sections) views) n [] (length-map views (places sections) ∙ wide)
    (λ k lt. get_or-map (places sections) views k no_item [] (omega (arith, lt, wide))) in
    is ∙ ap (λ k. map f (range_with_len 0 k)) e ∙ sym each ∙ ap (λ s. map (places s) views) secs
