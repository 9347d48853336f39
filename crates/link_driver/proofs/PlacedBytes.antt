-- The bytes of a place once all relocations of its section are done: what was put there, unless a later relocation fills one of them.
use Rattle.std.proofs.Common.{◌≡◌, ℕ, zero, suc, ◌+◌, ◌-◌, ◌<◌, ◌≤◌, ◌⊎◌, false, List, length, take, drop, get_or, slice_index, sym, ap, ◌∙◌, subst, arith, inl, inr, ℤ, Option, Some}
use Rattle.std.proofs.lemmas.List.{ext_get_or, get_or-drop, get_or-take, length-drop, length-take-le}
use Rattle.lk_base.specs.RelocKinds.{is_uleb}
use Rattle.lk_tables.specs.declared.objects.Reloc.{Reloc}
use Rattle.lk_tables.specs.Binding.{Bindings}
use Rattle.lk_tables.specs.Files.{File, no_reloc}
use Rattle.lk_tables.specs.Sites.{relocs_of}
use Rattle.link_sections.specs.Calls.{acting_number}
use Rattle.link_sections.specs.LaidOut.{LaidOut, cuts_at}
use Rattle.rv_code.specs.Places.{HoldsValue, ReadsBack, patched, held_at}
use Rattle.rv_code.proofs.ReadingBack.{reads_back, sound_kind}
use Rattle.reloc_apply.specs.Relocated.{bytes_after, filled, operand, put, section_bytes, staying_at, value_at}
use Rattle.reloc_apply.specs.Values.{value_of}
use Rattle.reloc_apply.proofs.BytesAfter.{AllFit, after_length, after_next, after_none, whole_length}
use Rattle.reloc_apply.proofs.States.{Fits, at_of, fill, filled_length, kind_at, plain_few, plain_width, put_after, put_before, put_within, width_of}
use Rattle.link_driver.proofs.FieldParts.{patched_holds}

module _ (files : List File) (b : Bindings) (leaders : List (Option ℕ)) (laid : LaidOut) (n : ℕ) where
  abbrev pub own : ℕ → Reloc
  own k = get_or (relocs_of files n) k no_reloc

  -- relocation j does not fill this byte
  abbrev pub IsAway : (q j : ℕ) → Type 0
  IsAway q j = (q < at_of files b leaders laid n (own j)) ⊎ (at_of files b leaders laid n (own j) + width_of files b leaders laid n (own j) ≤ q)

  fits_then : AllFit files b leaders laid n → (k j : ℕ) → j < length (relocs_of files n) → Fits files b leaders laid n (bytes_after files b leaders laid n k) (own j)
  fits_then fit k j lt = let first = fit j no_reloc lt in omega (arith, first, after_length files b leaders laid n k)

  put_away : AllFit files b leaders laid n → (k q : ℕ) → k < length (relocs_of files n) → IsAway q k →
      slice_index (put files b leaders laid n (own (k - 1)) (own k) (bytes_after files b leaders laid n k)) q ≡ slice_index (bytes_after files b leaders laid n k) q
  put_away fit k q lt (inl before) = put_before files b leaders laid n (own (k - 1)) (own k) (bytes_after files b leaders laid n k) q (fits_then fit k k lt) before
  put_away fit k q lt (inr past) = put_after files b leaders laid n (own (k - 1)) (own k) (bytes_after files b leaders laid n k) q (fits_then fit k k lt) past

  stays_from : AllFit files b leaders laid n → (k m q : ℕ) → k + m ≤ length (relocs_of files n) → ((j : ℕ) → k ≤ j → j < k + m → IsAway q j) →
      slice_index (bytes_after files b leaders laid n (k + m)) q ≡ slice_index (bytes_after files b leaders laid n k) q
  stays_from fit k zero q le away = let e : k + 0 ≡ k = omega arith in ap (λ i. slice_index (bytes_after files b leaders laid n i) q) e
  stays_from fit k (suc m) q le away =
      let e : k + suc m ≡ (k + m) + 1 = omega arith in
      ap (λ i. slice_index (bytes_after files b leaders laid n i) q) e
      ∙ ap (λ xs. slice_index xs q) (after_next files b leaders laid n (k + m))
      ∙ put_away fit (k + m) q (omega (arith, le)) (away (k + m) (omega arith) (omega arith))
      ∙ stays_from fit k m q (omega (arith, le)) (λ j low lt. away j low (omega (arith, lt)))

  -- before relocation k as at first, and after it as at last
  pub first_then : AllFit files b leaders laid n → (k q : ℕ) → k ≤ length (relocs_of files n) → ((j : ℕ) → j < k → IsAway q j) →
      slice_index (bytes_after files b leaders laid n k) q ≡ slice_index (staying_at files b leaders laid n) q
  first_then fit k q le away =
      let e : k ≡ 0 + k = omega arith in
      ap (λ i. slice_index (bytes_after files b leaders laid n i) q) e
      ∙ stays_from fit 0 k q (omega (arith, le)) (λ j low lt. away j (omega (arith, lt)))
      ∙ ap (λ xs. slice_index xs q) (after_none files b leaders laid n)

  pub last_then : AllFit files b leaders laid n → (k q : ℕ) → k ≤ length (relocs_of files n) → ((j : ℕ) → k ≤ j → j < length (relocs_of files n) → IsAway q j) →
      slice_index (section_bytes files b leaders laid n) q ≡ slice_index (bytes_after files b leaders laid n k) q
  unfolding section_bytes
  last_then fit k q le away =
      let count = length (relocs_of files n) in
      let e : count ≡ k + (count - k) = omega (arith, le) in
      ap (λ i. slice_index (bytes_after files b leaders laid n i) q) e
      ∙ stays_from fit k (count - k) q (omega (arith, le)) (λ j low lt. away j low (omega (arith, lt, le)))

  -- the place of relocation k: before it is done, in the end, and how many bytes it has
  abbrev pub before_of : (k : ℕ) → List ℕ
  before_of k = take (width_of files b leaders laid n (own k)) (drop (at_of files b leaders laid n (own k)) (bytes_after files b leaders laid n k))

  abbrev pub placed_of : (k : ℕ) → List ℕ
  placed_of k = take (width_of files b leaders laid n (own k)) (drop (at_of files b leaders laid n (own k)) (section_bytes files b leaders laid n))

  pub before_size : AllFit files b leaders laid n → (k : ℕ) → k < length (relocs_of files n) → length (before_of k) ≡ width_of files b leaders laid n (own k)
  before_size fit k lt =
      let fits = fits_then fit k k lt in
      let bytes = bytes_after files b leaders laid n k in
      length-take-le (width_of files b leaders laid n (own k)) (drop (at_of files b leaders laid n (own k)) bytes)
      (omega (arith, fits, length-drop (at_of files b leaders laid n (own k)) bytes))

  pub placed_size : AllFit files b leaders laid n → (k : ℕ) → k < length (relocs_of files n) → length (placed_of k) ≡ width_of files b leaders laid n (own k)
  placed_size fit k lt =
      let first = fit k no_reloc lt in
      let bytes = section_bytes files b leaders laid n in
      length-take-le (width_of files b leaders laid n (own k)) (drop (at_of files b leaders laid n (own k)) bytes)
      (omega (arith, first, whole_length files b leaders laid n, length-drop (at_of files b leaders laid n (own k)) bytes))

  -- no later relocation fills a byte of it
  abbrev pub IsKept : (k : ℕ) → Type 0
  IsKept k = (j q : ℕ) → k < j → j < length (relocs_of files n) → at_of files b leaders laid n (own k) ≤ q
      → q < at_of files b leaders laid n (own k) + width_of files b leaders laid n (own k) → IsAway q j

  abbrev filled_of : (k : ℕ) → List ℕ
  filled_of k =
      fill files b leaders laid n (own (k - 1)) (own k)
      (held_at (width_of files b leaders laid n (own k)) (at_of files b leaders laid n (own k)) (bytes_after files b leaders laid n k)) (before_of k)

  filled_size : AllFit files b leaders laid n → (k : ℕ) → k < length (relocs_of files n) → length (filled_of k) ≡ width_of files b leaders laid n (own k)
  filled_size fit k lt = filled_length (is_uleb (own k).kind) (kind_at files b leaders laid n (own k)) _ (before_of k) ∙ before_size fit k lt

  placed_is : AllFit files b leaders laid n → (k : ℕ) → k < length (relocs_of files n) → IsKept k → placed_of k ≡ filled_of k
  placed_is fit k lt later =
      let at : ℕ = at_of files b leaders laid n (own k) in
      let w : ℕ = width_of files b leaders laid n (own k) in
      let bytes = section_bytes files b leaders laid n in
      let wide = placed_size fit k lt in
      ext_get_or 0 (placed_of k) (filled_of k) (wide ∙ sym (filled_size fit k lt)) (λ i less.
      let inside : i < w = omega (arith, less, wide) in
      let e : at + i - at ≡ i = omega arith in
      get_or-take w (drop at bytes) i 0 inside
      ∙ get_or-drop at bytes i 0
      ∙ last_then fit (k + 1) (at + i) (omega (arith, lt)) (λ j low high. later j (at + i) (omega (arith, low)) high (omega arith) (omega (arith, inside)))
      ∙ ap (λ xs. slice_index xs (at + i)) (after_next files b leaders laid n k)
      ∙ put_within files b leaders laid n (own (k - 1)) (own k) (bytes_after files b leaders laid n k) (at + i) (fits_then fit k k lt) (omega arith) (omega (arith, inside))
      ∙ ap (λ m. get_or (filled_of k) m 0) e)

  filled_is : (k : ℕ) (v : ℤ) → is_uleb (own k).kind ≡ false → value_at files b leaders laid n k ≡ Some v → filled_of k ≡ patched (kind_at files b leaders laid n (own k)).field v (before_of k)
  unfolding value_at
  filled_is k v plain is =
      ap (λ u. filled u (kind_at files b leaders laid n (own k)) (value_of files b leaders laid n (own k) (operand files b leaders laid n (own (k - 1)) (own k)
      (held_at (width_of files b leaders laid n (own k)) (at_of files b leaders laid n (own k)) (bytes_after files b leaders laid n k)))) (before_of k)) plain
      ∙ ap (λ o. filled false (kind_at files b leaders laid n (own k)) o (before_of k)) is

  -- the value is held there, and reads back
  pub placed_holds : AllFit files b leaders laid n → (k : ℕ) → k < length (relocs_of files n) → IsKept k → is_uleb (own k).kind ≡ false → (v : ℤ) → value_at files b leaders laid n k ≡ Some v
      → HoldsValue (kind_at files b leaders laid n (own k)).field (before_of k) v (placed_of k)
  placed_holds fit k lt later plain v is =
      let same = placed_is fit k lt later ∙ filled_is k v plain is in
      let few = plain_few files b leaders laid n (own k) plain in
      let P : List ℕ → Type 0 = λ new. HoldsValue (kind_at files b leaders laid n (own k)).field (before_of k) v new in
      subst P (sym same) (patched_holds (kind_at files b leaders laid n (own k)).field v (before_of k) (omega (arith, few, before_size fit k lt)))

  pub placed_reads : AllFit files b leaders laid n → (k : ℕ) → k < length (relocs_of files n) → IsKept k → is_uleb (own k).kind ≡ false → (v : ℤ) → value_at files b leaders laid n k ≡ Some v
      → ReadsBack (kind_at files b leaders laid n (own k)).field (before_of k) v (placed_of k)
  placed_reads fit k lt later plain v is =
      reads_back (kind_at files b leaders laid n (own k)) v (before_of k) (placed_of k) (sound_kind (acting_number (cuts_at laid n) (own k)))
      (before_size fit k lt ∙ plain_width files b leaders laid n (own k) plain) (placed_holds fit k lt later plain v is)
