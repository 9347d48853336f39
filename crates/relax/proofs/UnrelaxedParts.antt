-- Rows in parts, each of a run of files: part after part they are the rows of all.
use Rattle.std.proofs.Common.{◌≡◌, ℕ, ◌+◌, ◌-◌, ◌≤◌, List, [], ◌++◌, length, map, flat_map, sym, ap, ◌∙◌, subst, refl, arith}
use Rattle.std.specs.List.{All, range_with_len}
use Rattle.std.proofs.lemmas.Grind.{flat_map-append}
use Rattle.std.proofs.lemmas.List.{append-nil, map-append}
use Rattle.std.proofs.lemmas.List.Elements.{All-append, All-nil}
use Rattle.lk_base.proofs.Ranges.{two_parts}
use Rattle.lk_tables.specs.Files.{File}
use Rattle.lk_tables.proofs.ByNumber.{section_rows_all}
use Rattle.link_sections.specs.declared.cuts.Cut.{Cut as HeldCut}
use Rattle.link_sections.specs.CutsView.{AreCuts, cut_views}
use Rattle.work_split.proofs.RunsBeside.{GoesBeside}
use Rattle.relax.specs.Unrelaxed.{AreUnrelaxed, unrelaxed, unrelaxed_from, unrelaxed_row, whole_cuts}

module _ (files : List File) where
  -- the rows of a run of files, as it begins and one file on
  pub unrelaxed_first : (a : ℕ) → AreUnrelaxed files a a []
  unrelaxed_first a =
      let e : a - a ≡ 0 = omega arith in
      record { views = sym (ap (λ k. flat_map (unrelaxed_row files) (range_with_len a k)) e); sound = All-nil AreCuts }

  one_file : (n : ℕ) → unrelaxed_from files n (n + 1) ≡ unrelaxed_row files n
  one_file n =
      let e : (n + 1) - n ≡ 1 = omega arith in
      ap (λ k. flat_map (unrelaxed_row files) (range_with_len n k)) e ∙ append-nil (unrelaxed_row files n)

  pub unrelaxed_more : (a n : ℕ) (old new : List (List HeldCut)) → a ≤ n → AreUnrelaxed files a n old → map cut_views new ≡ map cut_views old ++ unrelaxed_row files n →
      (All AreCuts old → All AreCuts new) → AreUnrelaxed files a (n + 1) new
  unrelaxed_more a n old new le are push sound = record {
    views = push ∙ ap (λ l. l ++ unrelaxed_row files n) are.views ∙ ap (λ l. unrelaxed_from files a n ++ l) (sym (one_file n))
        ∙ sym (two_parts (unrelaxed_row files) a n (n + 1) le (omega arith));
    sound = sound are.sound;
  }

  -- two runs side by side
  both_rows : (a m b : ℕ) (xs ys : List (List HeldCut)) → a ≤ m → m ≤ b → AreUnrelaxed files a m xs → AreUnrelaxed files m b ys → AreUnrelaxed files a b (xs ++ ys)
  both_rows a m b xs ys low high one two = record {
    views = map-append cut_views xs ys ∙ ap (λ l. l ++ map cut_views ys) one.views ∙ ap (λ l. unrelaxed_from files a m ++ l) two.views
        ∙ sym (two_parts (unrelaxed_row files) a m b low high);
    sound = All-append AreCuts xs ys one.sound two.sound;
  }

  pub parts_beside : GoesBeside {X = List (List HeldCut)} (λ a b parts. AreUnrelaxed files a b (flat_map (λ part. part) parts))
  parts_beside = record {
    none = unrelaxed_first;
    both = λ a m b xs ys low high one two.
        let P : List (List HeldCut) → Type 0 = AreUnrelaxed files a b in
        subst P (sym (flat_map-append (λ part. part) xs ys)) (both_rows a m b (flat_map (λ part. part) xs) (flat_map (λ part. part) ys) low high one two);
  }

  -- those of all files
  pub unrelaxed_all : (rows : List (List HeldCut)) → AreUnrelaxed files 0 (length files) rows → map cut_views rows ≡ unrelaxed files
  unrelaxed_all rows are =
      let e : length files - 0 ≡ length files = omega arith in
      are.views ∙ ap (λ k. flat_map (unrelaxed_row files) (range_with_len 0 k)) e ∙ section_rows_all files (whole_cuts files) (length files) refl
