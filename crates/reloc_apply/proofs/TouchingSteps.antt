-- The relocations of a section that touch some bytes are among those between two places of their list.
use Rattle.std.proofs.Common.{◌≡◌, ℕ, zero, suc, ◌+◌, ◌-◌, ◌<◌, ◌≤◌, false, List, [], ◌∷◌, ◌++◌, length, drop, flat_map, get_or, min, max, refl, sym, ap, ◌∙◌, arith}
use Rattle.std.specs.List.{range_with_len}
use Rattle.std.specs.Prelude.{if◌then◌else◌}
use Rattle.std.proofs.lemmas.Bool.{le-ltb}
use Rattle.lk_base.specs.declared.abi.TheConstants.{IMAGE_BASE}
use Rattle.lk_base.specs.declared.defects.Defect.{Defect}
use Rattle.lk_base.proofs.Ranges.{two_parts}
use Rattle.lk_tables.specs.declared.objects.Reloc.{Reloc}
use Rattle.lk_tables.specs.Files.{no_reloc}
use Rattle.link_sections.specs.LaidOut.{start_at}
use Rattle.link_sections.specs.declared.views.View.{View}
use Rattle.link_sections.specs.Views.{binding_in, files_in, laid_in, leaders_in}
use Rattle.reloc_apply.specs.declared.sources.Source.{Source}
use Rattle.reloc_apply.specs.Relocated.{reloc_defects, touches}
use Rattle.reloc_apply.specs.Sites.{IsMadeFrom, end_by, offset_by, touching_at, width_by}

-- a list without what its first elements give, or its last ones, if these give nothing
pub skipped : {X : Type 0} (f : X → List Defect) (xs : List X) (n : ℕ) (d : X) → ((k : ℕ) → k < n → k < length xs → f (get_or xs k d) ≡ []) →
    flat_map f (drop n xs) ≡ flat_map f xs
skipped f xs zero d none = refl
skipped f [] (suc n) d none = refl
skipped f (x ∷ xs) (suc n) d none =
    skipped f xs n d (λ k lt within. none (suc k) (omega arith) (omega arith))
    ∙ sym (ap (λ l. l ++ flat_map f xs) (none 0 (omega arith) (omega arith)))

all_none : {X : Type 0} (f : X → List Defect) (xs : List X) (d : X) → ((k : ℕ) → k < length xs → f (get_or xs k d) ≡ []) → flat_map f xs ≡ []
all_none f [] d none = refl
all_none f (x ∷ xs) d none =
    ap (λ l. l ++ flat_map f xs) (none 0 (omega arith)) ∙ all_none f xs d (λ k lt. none (suc k) (omega arith))

pub rest_none : {X : Type 0} (f : X → List Defect) (xs : List X) (n : ℕ) (d : X) → ((k : ℕ) → n ≤ k → k < length xs → f (get_or xs k d) ≡ []) →
    flat_map f (drop n xs) ≡ []
rest_none f xs zero d none = all_none f xs d (λ k lt. none k (omega arith) lt)
rest_none f [] (suc n) d none = refl
rest_none f (x ∷ xs) (suc n) d none = rest_none f xs n d (λ k le lt. none (suc k) (omega arith) (omega arith))

-- numbers for which nothing is given
pub none_from : (f : ℕ → List Defect) (a n : ℕ) → ((k : ℕ) → a ≤ k → k < a + n → f k ≡ []) → flat_map f (range_with_len a n) ≡ []
none_from f a zero none = refl
none_from f a (suc n) none =
    ap (λ l. l ++ flat_map f (range_with_len (a + 1) n)) (none a (omega arith) (omega arith))
    ∙ none_from f (a + 1) n (λ k le lt. none k (omega (arith, le)) (omega (arith, lt)))

module _ (view : View) (s : Source) (is : IsMadeFrom view s) (from len : ℕ) where
  abbrev pub touching : ℕ → List Defect
  touching k = touching_at view s from len k

  abbrev reloc : ℕ → Reloc
  reloc k = get_or s.relocs.now k no_reloc

  untouched : (k : ℕ) → touches (files_in view) (binding_in view) (leaders_in view) (laid_in view) from len s.site.section (reloc k) ≡ false → touching k ≡ []
  untouched k off = ap (λ b. if b then reloc_defects (files_in view) (binding_in view) (leaders_in view) (laid_in view) s.site.section (reloc (k - 1)) (reloc k) else []) off

  before_it : (r : Reloc) → s.at + end_by view s r ≤ from → touches (files_in view) (binding_in view) (leaders_in view) (laid_in view) from len s.site.section r ≡ false
  unfolding touches
  before_it r le =
      let at : ℕ = start_at (laid_in view) s.site.section - IMAGE_BASE + offset_by view s r in
      let own = is.at in
      le-ltb (max at from) (min (at + width_by view s r) (from + len)) (omega (arith, le, own))

  after_it : (r : Reloc) → from + len ≤ s.at + offset_by view s r → touches (files_in view) (binding_in view) (leaders_in view) (laid_in view) from len s.site.section r ≡ false
  unfolding touches
  after_it r le =
      let at : ℕ = start_at (laid_in view) s.site.section - IMAGE_BASE + offset_by view s r in
      let own = is.at in
      le-ltb (max at from) (min (at + width_by view s r) (from + len)) (omega (arith, le, own))

  pub from_near : (near : ℕ) → near ≤ length s.relocs.now → ((k : ℕ) → k < near → s.at + end_by view s (reloc k) ≤ from) →
      flat_map touching (range_with_len near (length s.relocs.now - near)) ≡ flat_map touching (range_with_len 0 (length s.relocs.now - 0))
  from_near near most before =
      sym (two_parts touching 0 near (length s.relocs.now) (omega arith) most
      ∙ ap (λ l. l ++ flat_map touching (range_with_len near (length s.relocs.now - near)))
      (none_from touching 0 (near - 0) (λ k le lt. untouched k (before_it (reloc k) (before k (omega (arith, lt)))))))

  pub to_last : (last : ℕ) → ((k : ℕ) → last ≤ k → k < length s.relocs.now → from + len ≤ s.at + offset_by view s (reloc k)) →
      flat_map touching (range_with_len last (length s.relocs.now - last)) ≡ []
  to_last last after =
      none_from touching last (length s.relocs.now - last) (λ k le lt. untouched k (after_it (reloc k) (after k le (omega (arith, le, lt)))))

  pub whole : flat_map touching (range_with_len 0 (length s.relocs.now - 0)) ≡ flat_map touching (range_with_len 0 (length s.relocs.now))
  whole = let e : length s.relocs.now - 0 ≡ length s.relocs.now = omega arith in ap (λ n. flat_map touching (range_with_len 0 n)) e
