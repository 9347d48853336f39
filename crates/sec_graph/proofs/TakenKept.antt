-- What the relocations of a section take where it is kept, and where it is not.
use Rattle.std.proofs.Common.{◌≡◌, ℕ, true, false, Bool, List, [], ◌∷◌, ◌++◌, flat_map, refl, ap, ◌∙◌}
use Rattle.std.proofs.lemmas.Bool.{cond-false, cond-true}
use Rattle.link_sections.specs.Leaders.{is_kept}
use Rattle.lk_tables.specs.declared.objects.Reloc.{Reloc}
use Rattle.lk_tables.specs.Binding.{Bindings}
use Rattle.lk_tables.specs.Files.{File, section_no}
use Rattle.sec_graph.specs.Taken.{taken_at, taken_by}

module _ (files : List File) (b : Bindings) (kept : List Bool) (f k : ℕ) where
  pub none_taken : (rs : List Reloc) → is_kept kept (section_no files f k) ≡ false → flat_map (taken_at files b kept f k) rs ≡ []
  unfolding taken_at
  none_taken [] off = refl
  none_taken (r ∷ rs) off =
      ap (λ l. l ++ flat_map (taken_at files b kept f k) rs) (cond-false (is_kept kept (section_no files f k)) (taken_by files b f r) [] off)
      ∙ none_taken rs off

  pub all_taken : (rs : List Reloc) → is_kept kept (section_no files f k) ≡ true → flat_map (taken_at files b kept f k) rs ≡ flat_map (taken_by files b f) rs
  unfolding taken_at
  all_taken [] on = refl
  all_taken (r ∷ rs) on =
      ap (λ l. l ++ flat_map (taken_at files b kept f k) rs) (cond-true (is_kept kept (section_no files f k)) (taken_by files b f r) [] on)
      ∙ ap (λ l. taken_by files b f r ++ l) (all_taken rs on)
