-- The bytes of a section once the first k of its relocations are done.
use Rattle.std.proofs.Common.{◌≡◌, ℕ, zero, suc, ◌+◌, ◌-◌, ◌<◌, ◌≤◌, List, length, get_or, slice_index, refl, ap, ◌∙◌, arith}
use Rattle.std.specs.Prelude.{Option}
use Rattle.std.specs.List.{All}
use Rattle.lk_tables.specs.declared.objects.Reloc.{Reloc}
use Rattle.lk_tables.specs.Binding.{Bindings}
use Rattle.lk_tables.specs.Files.{File, no_reloc}
use Rattle.lk_tables.specs.Sites.{relocs_of}
use Rattle.link_sections.specs.LaidOut.{LaidOut}
use Rattle.reloc_apply.specs.Relocated.{bytes_after, put, section_bytes, staying_at}
use Rattle.reloc_apply.proofs.States.{Fits, at_of, put_after, put_before, put_length, width_of}

module _ (files : List File) (b : Bindings) (leaders : List (Option ℕ)) (laid : LaidOut) (n : ℕ) where
  abbrev own : ℕ → Reloc
  own k = get_or (relocs_of files n) k no_reloc

  abbrev pub AllFit : Type 0
  AllFit = All (Fits files b leaders laid n (staying_at files b leaders laid n)) (relocs_of files n)

  pub after_none : bytes_after files b leaders laid n 0 ≡ staying_at files b leaders laid n
  unfolding bytes_after
  after_none = refl

  after_suc : (k : ℕ) → bytes_after files b leaders laid n (suc k) ≡ put files b leaders laid n (own (k - 1)) (own k) (bytes_after files b leaders laid n k)
  unfolding bytes_after
  after_suc k = refl

  pub after_next : (k : ℕ) → bytes_after files b leaders laid n (k + 1) ≡ put files b leaders laid n (own (k - 1)) (own k) (bytes_after files b leaders laid n k)
  after_next k = let e : k + 1 ≡ suc k = omega arith in ap (bytes_after files b leaders laid n) e ∙ after_suc k

  pub after_length : (k : ℕ) → length (bytes_after files b leaders laid n k) ≡ length (staying_at files b leaders laid n)
  after_length zero = ap length after_none
  after_length (suc k) =
      ap length (after_suc k) ∙ put_length files b leaders laid n (own (k - 1)) (own k) (bytes_after files b leaders laid n k) ∙ after_length k

  fits_then : AllFit → (k j : ℕ) → j < length (relocs_of files n) → Fits files b leaders laid n (bytes_after files b leaders laid n k) (own j)
  fits_then fit k j lt = let first = fit j no_reloc lt in omega (arith, first, after_length k)

  -- past the end of each of their places the bytes are as they were at first
  pub after_fresh : AllFit → (k q : ℕ) → k ≤ length (relocs_of files n) → ((j : ℕ) → j < k → j < length (relocs_of files n) →
      at_of files b leaders laid n (own j) + width_of files b leaders laid n (own j) ≤ q) →
      slice_index (bytes_after files b leaders laid n k) q ≡ slice_index (staying_at files b leaders laid n) q
  after_fresh fit zero q le past = ap (λ xs. slice_index xs q) after_none
  after_fresh fit (suc k) q le past =
      ap (λ xs. slice_index xs q) (after_suc k)
      ∙ put_after files b leaders laid n (own (k - 1)) (own k) (bytes_after files b leaders laid n k) q (fits_then fit k k (omega arith)) (past k (omega arith) (omega arith))
      ∙ after_fresh fit k q (omega arith) (λ j lt within. past j (omega arith) within)

  -- before the start of each later place they are as they are at last
  later : AllFit → (k m q : ℕ) → k + m ≤ length (relocs_of files n) → ((j : ℕ) → k ≤ j → j < length (relocs_of files n) → q < at_of files b leaders laid n (own j)) →
      slice_index (bytes_after files b leaders laid n (k + m)) q ≡ slice_index (bytes_after files b leaders laid n k) q
  later fit k zero q le ahead = let e : k + 0 ≡ k = omega arith in ap (λ i. slice_index (bytes_after files b leaders laid n i) q) e
  later fit k (suc m) q le ahead =
      let e : k + suc m ≡ suc (k + m) = omega arith in
      ap (λ i. slice_index (bytes_after files b leaders laid n i) q) e
      ∙ ap (λ xs. slice_index xs q) (after_suc (k + m))
      ∙ put_before files b leaders laid n (own (k + m - 1)) (own (k + m)) (bytes_after files b leaders laid n (k + m)) q (fits_then fit (k + m) (k + m) (omega arith))
      (ahead (k + m) (omega arith) (omega arith))
      ∙ later fit k m q (omega arith) ahead

  pub after_last : AllFit → (k q : ℕ) → k ≤ length (relocs_of files n) → ((j : ℕ) → k ≤ j → j < length (relocs_of files n) →
      q < at_of files b leaders laid n (own j)) →
      slice_index (section_bytes files b leaders laid n) q ≡ slice_index (bytes_after files b leaders laid n k) q
  unfolding section_bytes
  after_last fit k q le ahead =
      let count = length (relocs_of files n) in
      let e : count ≡ k + (count - k) = omega (arith, le) in
      ap (λ i. slice_index (bytes_after files b leaders laid n i) q) e ∙ later fit k (count - k) q (omega (arith, le)) ahead

  pub whole_length : length (section_bytes files b leaders laid n) ≡ length (staying_at files b leaders laid n)
  unfolding section_bytes
  whole_length = after_length (length (relocs_of files n))
