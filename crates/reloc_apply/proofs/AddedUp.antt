-- Counts turned in place into the sums of those before them, and such sums over the relocations of all sections.
use Rattle.std.proofs.Common.{◌≡◌, ℕ, zero, suc, ◌+◌, ◌<◌, ◌≤◌, List, length, take, set, get_or, slice_index, sum, flat_map, refl, sym, ap, ◌∙◌, arith, inl, inr}
use Rattle.std.specs.List.{range_with_len}
use Rattle.std.proofs.lemmas.Bool.{cases_lt}
use Rattle.std.proofs.lemmas.List.{get_or-set_other, get_or-set_same, length-set}
use Rattle.std.proofs.lemmas.List.Sums.{sum_by_more}
use Rattle.lk_base.proofs.Loops.{count_step}
use Rattle.lk_tables.specs.Files.{File, by_section, file_at, relocs_at, section_total}
use Rattle.lk_tables.specs.Sites.{place_of, relocs_of}
use Rattle.lk_tables.proofs.ByNumber.{length_by_section, read_by_section}
use Rattle.lk_tables.proofs.Owners.{place_of_number}

-- the first n counts are turned
pub record IsAddedUp (counts : List ℕ) (n total : ℕ) (now : List ℕ) : Type 0 where
  pub size : length now ≡ length counts
  pub total_is : total ≡ sum (take n counts)
  pub done : (k : ℕ) → k < n → slice_index now k ≡ sum (take k counts)
  pub rest : (k : ℕ) → n ≤ k → slice_index now k ≡ slice_index counts k

pub added_next : (counts : List ℕ) (n total more : ℕ) (now : List ℕ) → n < length counts → IsAddedUp counts n total now → more ≡ total + slice_index now n →
    IsAddedUp counts (n + 1) more (set now n total)
added_next counts n total more now lt held is = record {
  size = length-set now n total ∙ held.size;
  total_is = is ∙ ap (λ k. k + slice_index now n) held.total_is ∙ ap (λ k. sum (take n counts) + k) (held.rest n (omega arith)) ∙ sym (sum_by_more (λ (x : ℕ). x) counts n 0 lt);
  done = λ k less. elim (cases_lt k n) [
    | inl low ↦ get_or-set_other now n k total 0 (λ e. omega (arith, e, low)) ∙ held.done k low
    | inr high ↦
        let e : n ≡ k = omega (arith, less, high) in
        ap (λ i. get_or (set now n total) i 0) (sym e) ∙ get_or-set_same now n total 0 (omega (arith, lt, held.size)) ∙ held.total_is ∙ ap (λ i. sum (take i counts)) e
  ];
  rest = λ k le. get_or-set_other now n k total 0 (λ e. omega (arith, e, le)) ∙ held.rest k (omega (arith, le));
}

-- how many relocations section n has
count_at : (files : List File) (n : ℕ) → n < section_total files → slice_index (by_section files (λ f k. length (relocs_at (file_at files f) k))) n ≡ length (relocs_of files n)
count_at files n lt =
    let law = place_of_number files n lt in
    let give : ℕ → ℕ → ℕ = λ f k. length (relocs_at (file_at files f) k) in
    ap (λ i. get_or (by_section files give) i 0) (sym law.number)
    ∙ read_by_section files give (place_of files n).file (place_of files n).index 0 law.file law.index

-- and the sections before n together
pub counts_before : (files : List File) (n : ℕ) → n ≤ section_total files →
    sum (take n (by_section files (λ f k. length (relocs_at (file_at files f) k)))) ≡ length (flat_map (relocs_of files) (range_with_len 0 n))
counts_before files zero le = refl
counts_before files (suc n) le =
    let give : ℕ → ℕ → ℕ = λ f k. length (relocs_at (file_at files f) k) in
    let counts = by_section files give in
    let one : n + 1 ≡ suc n = omega arith in
    ap (λ k. sum (take k counts)) (sym one)
    ∙ sum_by_more (λ (x : ℕ). x) counts n 0 (omega (arith, le, length_by_section files give))
    ∙ ap (λ k. k + get_or counts n 0) (counts_before files n (omega (arith, le)))
    ∙ ap (λ k. length (flat_map (relocs_of files) (range_with_len 0 n)) + k) (count_at files n (omega (arith, le)))
    ∙ sym (count_step (relocs_of files) n)
    ∙ ap (λ k. length (flat_map (relocs_of files) (range_with_len 0 k))) one
