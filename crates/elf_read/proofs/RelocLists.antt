-- The relocations of all sections and their marks, as they are read from one relocation section to the next.
use Rattle.std.proofs.Common.{◌≡◌, ◌≢◌, ℕ, ◌+◌, ◌<◌, Bool, true, false, cond, ◌||◌, ◌==◌, nat_lt, length, get_or, set, replicate, List, [], ◌∷◌, map, refl, sym, ap, ◌∙◌, arith, Option, Some, None, inl, inr}
use Rattle.std.specs.Prelude.{find}
use Rattle.std.specs.Option.{option_or}
use Rattle.std.specs.List.{list_any, range_with_len}
use Rattle.std.proofs.lemmas.Bool.{and_left, and_right, cases_eq, ne_eqb}
use Rattle.std.proofs.lemmas.List.{length-set, get_or-set_same, get_or-set_other, length-replicate, get_or-replicate}
use Rattle.std.proofs.lemmas.List.Folds.{list_any-append}
use Rattle.std.proofs.lemmas.List.FromFn.{length-map-range_with_len, get_or-map-range_with_len, fill_by_all}
use Rattle.lk_base.proofs.Loops.{range_more}
use Rattle.lk_base.specs.declared.abi.TheConstants.{SHT_RELA}
use Rattle.lk_tables.specs.declared.objects.Reloc.{Reloc}
use Rattle.lk_tables.specs.FileHeader.{section_count}
use Rattle.lk_tables.specs.Bodies.{relocates, rela_of, is_relocated_before}
use Rattle.lk_tables.specs.Objects.{relocs_in, relocs_for}
use Rattle.lk_tables.specs.Relocations.{relocs_of}
use Rattle.lk_tables.specs.Sections.{section_of, takes_relocs}
use Rattle.lk_tables.proofs.Ranges.{find_more}
use Rattle.elf_read.specs.RelaSections.{marks_before, list_before, lists_before}

pub map_same : {X : Type 0} (f g : ℕ → X) → ((k : ℕ) → f k ≡ g k) → (ks : List ℕ) → map f ks ≡ map g ks
map_same f g same [] = refl
map_same f g same (k ∷ ks) = ap (λ x. x ∷ map f ks) (same k) ∙ ap (λ xs. g k ∷ xs) (map_same f g same ks)

-- a write at t in a list of what f gives is the list of what g gives
set_map : {X : Type 0} (f g : ℕ → X) (n t : ℕ) (x : X) → t < n → g t ≡ x → ((k : ℕ) → k ≢ t → g k ≡ f k) →
    set (map f (range_with_len 0 n)) t x ≡ map g (range_with_len 0 n)
set_map f g n t x lt here other =
    let len : length (map f (range_with_len 0 n)) ≡ n = length-map-range_with_len f 0 n in
    fill_by_all g (set (map f (range_with_len 0 n)) t x) n x (length-set (map f (range_with_len 0 n)) t x ∙ len) (λ k high.
    elim (cases_eq k t) [
      | inl same ↦
          ap (λ j. get_or (set (map f (range_with_len 0 n)) t x) j x) same
          ∙ get_or-set_same (map f (range_with_len 0 n)) t x x (omega (arith, len))
          ∙ sym here ∙ ap g (sym same)
      | inr apart ↦
          get_or-set_other (map f (range_with_len 0 n)) t k x x apart
          ∙ get_or-map-range_with_len f 0 n k k x high (omega arith) ∙ sym (other k apart)
    ])

or_nothing : {X : Type 0} (r : Option X) → option_or r None ≡ r
or_nothing None = refl
or_nothing (Some x) = refl

pub or_false : (a : Bool) → (a || (false || false)) ≡ a
or_false true = refl
or_false false = refl

or_true : (a : Bool) → (a || (true || false)) ≡ true
or_true true = refl
or_true false = refl

mark_more : (b : List ℕ) (i k : ℕ) → is_relocated_before b (i + 1) k ≡ (is_relocated_before b i k || (relocates b k i || false))
unfolding is_relocated_before
mark_more b i k = ap (list_any (relocates b k)) (range_more i) ∙ list_any-append (relocates b k) (range_with_len 0 i) (i ∷ [])

mark_kept : (b : List ℕ) (i k : ℕ) → relocates b k i ≡ false → is_relocated_before b (i + 1) k ≡ is_relocated_before b i k
mark_kept b i k is = mark_more b i k ∙ ap (λ c. is_relocated_before b i k || (c || false)) is ∙ or_false (is_relocated_before b i k)

mark_put : (b : List ℕ) (i k : ℕ) → relocates b k i ≡ true → is_relocated_before b (i + 1) k ≡ true
mark_put b i k is = mark_more b i k ∙ ap (λ c. is_relocated_before b i k || (c || false)) is ∙ or_true (is_relocated_before b i k)

list_kept : (b : List ℕ) (i k : ℕ) → relocates b k i ≡ false → list_before b (i + 1) k ≡ list_before b i k
list_kept b i k is =
    let first = find (relocates b k) (range_with_len 0 i) in
    ap (relocs_in b) (find_more (relocates b k) i ∙ ap (λ c. option_or first (cond c (Some i) None)) is ∙ or_nothing first)

-- the first is the first of those that none comes before
none_before : (p : ℕ → Bool) (ks : List ℕ) → list_any p ks ≡ false → find p ks ≡ None
none_before p [] e = refl
none_before p (k ∷ ks) e = step (p k) (list_any p ks) k (find p ks) e (none_before p ks)
  where
    step : (x y : Bool) (k : ℕ) (r : Option ℕ) → (x || y) ≡ false → (y ≡ false → r ≡ None) → cond x (Some k) r ≡ None
    step true y k r e rest = cc
    step false y k r e rest = rest e

list_put : (b : List ℕ) (i k : ℕ) → relocates b k i ≡ true → is_relocated_before b i k ≡ false → list_before b (i + 1) k ≡ relocs_of b i
unfolding is_relocated_before
list_put b i k is fresh =
    ap (relocs_in b) (find_more (relocates b k) i ∙ ap (λ r. option_or r (cond (relocates b k i) (Some i) None)) (none_before (relocates b k) (range_with_len 0 i) fresh)
    ∙ ap (λ c. option_or None (cond c (Some i) None)) is)

-- a section relocates no other than the one that it names
only_named : (b : List ℕ) (i k : ℕ) → k ≢ (section_of b i).info → relocates b k i ≡ false
unfolding relocates
only_named b i k apart =
    let other : ((section_of b i).info == k) ≡ false = ne_eqb (section_of b i).info k (λ e. apart (sym e)) in
    and_right (nat_lt 0 i) _ (and_right ((section_of b i).sh_type == SHT_RELA) _ (and_left ((section_of b i).info == k) (takes_relocs b k) other))

pub none_named : (b : List ℕ) (i : ℕ) → relocates b (section_of b i).info i ≡ false → (k : ℕ) → relocates b k i ≡ false
none_named b i is k =
    elim (cases_eq k (section_of b i).info) [
      | inl same ↦ ap (λ j. relocates b j i) same ∙ is
      | inr apart ↦ only_named b i k apart
    ]

pub null_named : (b : List ℕ) (i : ℕ) → nat_lt 0 i ≡ false → (k : ℕ) → relocates b k i ≡ false
unfolding relocates
null_named b i is k = and_left (nat_lt 0 i) _ is

pub untyped_named : (b : List ℕ) (i : ℕ) → ((section_of b i).sh_type == SHT_RELA) ≡ false → (k : ℕ) → relocates b k i ≡ false
unfolding relocates
untyped_named b i is k = and_right (nat_lt 0 i) _ (and_left ((section_of b i).sh_type == SHT_RELA) _ is)

-- past a section that relocates none
pub marks_kept : (b : List ℕ) (i : ℕ) → ((k : ℕ) → relocates b k i ≡ false) → marks_before b i ≡ marks_before b (i + 1)
marks_kept b i is = map_same _ _ (λ k. sym (mark_kept b i k (is k))) (range_with_len 0 (section_count b))

pub lists_kept : (b : List ℕ) (i : ℕ) → ((k : ℕ) → relocates b k i ≡ false) → lists_before b i ≡ lists_before b (i + 1)
lists_kept b i is = map_same _ _ (λ k. sym (list_kept b i k (is k))) (range_with_len 0 (section_count b))

-- past one that relocates t
pub marks_put : (b : List ℕ) (i : ℕ) → relocates b (section_of b i).info i ≡ true → (section_of b i).info < section_count b →
    set (marks_before b i) (section_of b i).info true ≡ marks_before b (i + 1)
marks_put b i is lt =
    set_map (is_relocated_before b i) (is_relocated_before b (i + 1)) (section_count b) (section_of b i).info true lt
    (mark_put b i (section_of b i).info is) (λ k apart. mark_kept b i k (only_named b i k apart))

pub lists_put : (b : List ℕ) (i : ℕ) (list : List Reloc) → relocates b (section_of b i).info i ≡ true → (section_of b i).info < section_count b →
    is_relocated_before b i (section_of b i).info ≡ false → list ≡ relocs_of b i →
    set (lists_before b i) (section_of b i).info list ≡ lists_before b (i + 1)
lists_put b i list is lt fresh read =
    set_map (list_before b i) (list_before b (i + 1)) (section_count b) (section_of b i).info list lt
    (list_put b i (section_of b i).info is fresh ∙ sym read) (λ k apart. list_kept b i k (only_named b i k apart))

-- before all sections
pub marks_start : (b : List ℕ) → replicate (section_count b) false ≡ marks_before b 0
unfolding is_relocated_before
marks_start b =
    fill_by_all (is_relocated_before b 0) (replicate (section_count b) false) (section_count b) false (length-replicate (section_count b) false)
    (λ k lt. get_or-replicate (section_count b) k false false lt)

pub lists_start : (b : List ℕ) → replicate (section_count b) [] ≡ lists_before b 0
lists_start b =
    fill_by_all (list_before b 0) (replicate (section_count b) []) (section_count b) [] (length-replicate (section_count b) [])
    (λ k lt. get_or-replicate (section_count b) k [] [] lt)

-- after all
pub lists_end : (b : List ℕ) → lists_before b (section_count b) ≡ map (relocs_for b) (range_with_len 0 (section_count b))
unfolding rela_of
lists_end b = refl

-- one mark
pub mark_at : (b : List ℕ) (i k : ℕ) (marks : List Bool) (d : Bool) → marks ≡ marks_before b i → k < section_count b → get_or marks k d ≡ is_relocated_before b i k
mark_at b i k marks d is lt =
    ap (λ xs. get_or xs k d) is ∙ get_or-map-range_with_len (is_relocated_before b i) 0 (section_count b) k k d lt (omega arith)
