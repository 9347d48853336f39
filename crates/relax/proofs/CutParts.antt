-- Rows of cuts in parts, each of a run of sections: part after part they are the rows of all.
use Rattle.std.proofs.Common.{◌≡◌, ℕ, ◌+◌, ◌-◌, ◌≤◌, List, [], ◌∷◌, ◌++◌, map, flat_map, sym, ap, ◌∙◌, subst, arith}
use Rattle.std.specs.List.{All, range_with_len}
use Rattle.std.proofs.lemmas.Grind.{flat_map-append}
use Rattle.std.proofs.lemmas.List.{map-append}
use Rattle.std.proofs.lemmas.List.Elements.{All-append, All-cons, All-nil}
use Rattle.lk_tables.specs.Files.{File}
use Rattle.link_sections.specs.declared.cuts.Cut.{Cut as HeldCut}
use Rattle.link_sections.specs.CutsView.{AreCuts, cut_views}
use Rattle.output_sections.specs.declared.rows.Row.{Row}
use Rattle.lk_base.proofs.Ranges.{range_parts}
use Rattle.work_split.proofs.ListedRuns.{first_run, run_more}
use Rattle.work_split.proofs.RunsBeside.{GoesBeside}
use Rattle.relax.specs.declared.calls.Call.{Call}
use Rattle.relax.specs.CutRows.{AreCutRows, cuts_at}

both_runs : {X : Type 0} (give : ℕ → X) (a m b : ℕ) → a ≤ m → m ≤ b → map give (range_with_len a (m - a)) ++ map give (range_with_len m (b - m)) ≡ map give (range_with_len a (b - a))
both_runs give a m b low high =
    let n : b - a ≡ (m - a) + (b - m) = omega (arith, low, high) in
    let from : a + (m - a) ≡ m = omega (arith, low) in
    sym (ap (λ k. map give (range_with_len a k)) n ∙ ap (map give) (range_parts a (m - a) (b - m))
    ∙ map-append give (range_with_len a (m - a)) (range_with_len (a + (m - a)) (b - m))
    ∙ ap (λ k. map give (range_with_len a (m - a)) ++ map give (range_with_len k (b - m))) from)

module _ (files : List File) (ms : List Row) (calls : List (List Call)) (z : List ℕ) where
  pub rows_first : (a : ℕ) → AreCutRows files ms calls z a a []
  rows_first a = record { views = first_run (cuts_at files ms calls z) a; sound = All-nil AreCuts }

  pub rows_more : (a n : ℕ) (old new : List (List HeldCut)) (cuts : List HeldCut) → a ≤ n → AreCutRows files ms calls z a n old → new ≡ old ++ cuts ∷ [] →
      cut_views cuts ≡ cuts_at files ms calls z n → AreCuts cuts → AreCutRows files ms calls z a (n + 1) new
  rows_more a n old new cuts le are push views sound = record {
    views = run_more (cuts_at files ms calls z) a n (map cut_views old) (map cut_views new) le are.views
        (ap (map cut_views) push ∙ map-append cut_views old (cuts ∷ []) ∙ ap (λ l. map cut_views old ++ l ∷ []) views);
    sound = subst (All AreCuts) (sym push) (All-append AreCuts old (cuts ∷ []) are.sound (All-cons AreCuts cuts [] sound (All-nil AreCuts)));
  }

  both_rows : (a m b : ℕ) (xs ys : List (List HeldCut)) → a ≤ m → m ≤ b → AreCutRows files ms calls z a m xs → AreCutRows files ms calls z m b ys → AreCutRows files ms calls z a b (xs ++ ys)
  both_rows a m b xs ys low high one two = record {
    views = map-append cut_views xs ys ∙ ap (λ l. l ++ map cut_views ys) one.views ∙ ap (λ l. map (cuts_at files ms calls z) (range_with_len a (m - a)) ++ l) two.views
        ∙ both_runs (cuts_at files ms calls z) a m b low high;
    sound = All-append AreCuts xs ys one.sound two.sound;
  }

  pub cuts_beside : GoesBeside {X = List (List HeldCut)} (λ a b parts. AreCutRows files ms calls z a b (flat_map (λ part. part) parts))
  cuts_beside = record {
    none = rows_first;
    both = λ a m b xs ys low high one two.
        let P : List (List HeldCut) → Type 0 = AreCutRows files ms calls z a b in
        subst P (sym (flat_map-append (λ part. part) xs ys)) (both_rows a m b (flat_map (λ part. part) xs) (flat_map (λ part. part) ys) low high one two);
  }
