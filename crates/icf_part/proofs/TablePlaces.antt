-- A table of the places of sections, section after section, and what it tells.
use Rattle.std.proofs.Common.{◌≡◌, ◌≢◌, ℕ, ◌+◌, ◌-◌, ◌<◌, ◌≤◌, ◌==◌, Option, Some, None, List, length, get_or, set, replicate, refl, sym, ap, ◌∙◌, ⊎_elim, inl, inr, arith}
use Rattle.std.specs.List.Sorted.{IsStrictlyIncreasing}
use Rattle.std.proofs.lemmas.Bool.{cases_eq, cases_lt, cond-false, cond-true, eq-eqb, ne_eqb}
use Rattle.std.proofs.lemmas.List.{get_or-replicate, get_or-set_other, get_or-set_same, get_or_past, length-replicate, length-set}
use Rattle.std.proofs.lemmas.List.Kept.{AllPairs-from_increasing}
use Rattle.icf_part.specs.PlaceTables.{IsPlaceTable, place_in_table}
use Rattle.icf_part.specs.Signatures.{place_of}
use Rattle.icf_part.proofs.SectionPlaces.{no_place, placed, rising}

zero_read : (n s : ℕ) → get_or {A = ℕ} (replicate n 0) s 0 ≡ 0
zero_read n s = ⊎_elim
    (λ (lt : s < n). get_or-replicate {A = ℕ} n s 0 0 lt)
    (λ (past : n ≤ s). get_or_past {X = ℕ} (replicate n 0) s 0 (omega (arith, past, length-replicate {A = ℕ} n 0)))
    (cases_lt s n)

pub table_first : (n : ℕ) (sections table : List ℕ) → table ≡ replicate n 0 → IsPlaceTable n sections 0 table
table_first n sections table is =
    let zero : (s : ℕ) → get_or table s 0 ≡ 0 = λ s. ap (λ l. get_or l s 0) is ∙ zero_read n s in
    record {
      wide = ap length is ∙ length-replicate {A = ℕ} n 0;
      each = λ i lt. absurd (omega (arith, lt));
      low = λ s. omega (arith, zero s);
      others = λ s some. absurd (omega (arith, some, zero s));
    }

-- what is read after one number is set
record IsReadAfter (sections old new : List ℕ) (k s : ℕ) : Type 0 where
  here : s ≡ get_or sections k 0 → get_or new s 0 ≡ k + 1
  there : s ≢ get_or sections k 0 → get_or new s 0 ≡ get_or old s 0

read_after : (sections old new : List ℕ) (k s : ℕ) → get_or sections k 0 < length old → new ≡ set old (get_or sections k 0) (k + 1) → IsReadAfter sections old new k s
read_after sections old new k s inside is =
    let at = get_or sections k 0 in
    record {
      here = λ same. ap (λ j. get_or new j 0) same ∙ ap (λ l. get_or l at 0) is ∙ get_or-set_same old at (k + 1) 0 inside;
      there = λ other. ap (λ l. get_or l s 0) is ∙ get_or-set_other old at s (k + 1) 0 other;
    }

pub table_next : (n : ℕ) (sections : List ℕ) (k : ℕ) (old new : List ℕ) → IsStrictlyIncreasing sections → k < length sections → get_or sections k 0 < n → IsPlaceTable n sections k old →
    new ≡ set old (get_or sections k 0) (k + 1) → IsPlaceTable n sections (k + 1) new
table_next n sections k old new order lk within are is =
    let at = get_or sections k 0 in
    let inside : at < length old = omega (arith, within, are.wide) in
    let after : (s : ℕ) → IsReadAfter sections old new k s = λ s. read_after sections old new k s inside is in
    record {
      wide = ap length is ∙ length-set old at (k + 1) ∙ are.wide;
      each = λ i lt. ⊎_elim
          (λ (less : i < k).
          (after (get_or sections i 0)).there (λ e. omega (arith, AllPairs-from_increasing sections order i k 0 less lk, e)) ∙ are.each i less)
          (λ (le : k ≤ i).
          let same : i ≡ k = omega (arith, lt, le) in
          (after (get_or sections i 0)).here (ap (λ j. get_or sections j 0) same) ∙ ap (λ j. j + 1) (sym same))
          (cases_lt i k);
      low = λ s. ⊎_elim
          (λ (same : s ≡ at). omega (arith, (after s).here same))
          (λ (other : s ≢ at). omega (arith, (after s).there other, are.low s))
          (cases_eq s at);
      others = λ s some. ⊎_elim
          (λ (same : s ≡ at).
          let read = (after s).here same in
          let back : get_or new s 0 - 1 ≡ k = omega (arith, read) in
          ap (λ j. get_or sections j 0) back ∙ sym same)
          (λ (other : s ≢ at).
          let read = (after s).there other in
          ap (λ j. get_or sections (j - 1) 0) read ∙ are.others s (omega (arith, some, read)))
          (cases_eq s at);
    }

pub table_last : (n : ℕ) (sections : List ℕ) (k : ℕ) (table : List ℕ) → k ≡ length sections → IsPlaceTable n sections k table → IsPlaceTable n sections (length sections) table
table_last n sections k table same are = record {
  wide = are.wide;
  each = λ i lt. are.each i (omega (arith, lt, same));
  low = λ s. omega (arith, are.low s, same);
  others = are.others;
}

-- the table of its own width
pub table_own : (n : ℕ) (sections : List ℕ) (k : ℕ) (table : List ℕ) → IsPlaceTable n sections k table → IsPlaceTable (length table) sections k table
table_own n sections k table are = record { wide = refl; each = are.each; low = are.low; others = are.others }

-- all are below one more than the last
pub below_last : (sections : List ℕ) (last : ℕ) → IsStrictlyIncreasing sections → last ≡ get_or sections (length sections - 1) 0 → (k : ℕ) → k < length sections → get_or sections k 0 < last + 1
below_last sections last order is k lt = omega (arith, rising sections order k (length sections - 1) (omega (arith, lt)) (omega (arith, lt)), is)

told_none : (number : ℕ) → number ≡ 0 → place_in_table number ≡ None
unfolding place_in_table
told_none number is = cond-true (number == 0) None (Some (number - 1)) (eq-eqb number 0 is)

told_some : (number : ℕ) → 1 ≤ number → place_in_table number ≡ Some (number - 1)
unfolding place_in_table
told_some number some = cond-false (number == 0) None (Some (number - 1)) (ne_eqb number 0 (λ e. omega (arith, some, e)))

pub table_tells : (n : ℕ) (sections table : List ℕ) (section : ℕ) → IsStrictlyIncreasing sections → IsPlaceTable n sections (length sections) table →
    place_in_table (get_or table section 0) ≡ place_of sections section
table_tells n sections table section order are =
    let number = get_or table section 0 in
    ⊎_elim
    (λ (none : number < 1).
    told_none number (omega (arith, none))
    ∙ sym (no_place sections section (λ k lt same. omega (arith, are.each k lt, ap (λ s. get_or table s 0) same, none))))
    (λ (some : 1 ≤ number).
    told_some number some ∙ sym (placed sections order (number - 1) section (omega (arith, some, are.low section)) (are.others section some)))
    (cases_lt number 1)
