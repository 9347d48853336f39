-- Where headers stand: each after the one before, so that there are finitely many in a file, and only one number of them.
use Rattle.std.proofs.Common.{◌≡◌, ℕ, zero, suc, ◌+◌, ◌*◌, ◌<◌, ◌≤◌, Bool, true, false, nat_lt, List, length, get_or, sym, ap, ◌∙◌, subst, arith, inl, inr, zero-add}
use Rattle.std.proofs.Math.Nat.{eq-or-lt_of_le, le_refl}
use Rattle.std.specs.List.{range_with_len, prefix_len}
use Rattle.std.proofs.lemmas.Bool.{cases_lt, ltb-true, ltb-false}
use Rattle.std.proofs.lemmas.List.FromFn.{length-range_with_len, get_or-range_with_len}
use Rattle.std.proofs.lemmas.List.Sums.{prefix_len_passes, prefix_len_stops, prefix_len-le-length}
use Rattle.ar_read.specs.declared.format.TheConstants.{AR_HDR_LEN, SARMAG}
use Rattle.ar_read.specs.Archives.{place, next, count, HasHeaders}

pub place_next : (b : List ℕ) (j : ℕ) → place b (j + 1) ≡ next b (place b j)
unfolding place
place_next b j = let e : j + 1 ≡ suc j = omega arith in ap (place b) e

place_up : (b : List ℕ) (j : ℕ) → place b j + AR_HDR_LEN ≤ place b (suc j)
unfolding place
place_up b j = omega arith

place_low : (b : List ℕ) (j : ℕ) → SARMAG + AR_HDR_LEN * j ≤ place b j
unfolding place
place_low b zero = omega arith
place_low b (suc j) = omega (arith, place_low b j)

place_le : (b : List ℕ) (i j : ℕ) → i ≤ j → place b i ≤ place b j
place_le b i zero le = let e : i ≡ 0 = omega arith in subst (λ (k : ℕ). place b k ≤ place b 0) (sym e) (le_refl (place b 0))
place_le b i (suc j) le =
    elim (eq-or-lt_of_le le) [
      | inl same ↦ subst (λ (k : ℕ). place b i ≤ place b k) same (le_refl (place b i))
      | inr lt ↦ omega (arith, place_le b i j (omega arith), place_up b j)
    ]

inside_count : (b : List ℕ) (j : ℕ) → j < count b → place b j < length b
unfolding count
inside_count b j lt =
    let p : ℕ → Bool = λ k. nat_lt (place b k) (length b) in
    let all = range_with_len 0 (length b) in
    let long : length all ≡ length b = length-range_with_len 0 (length b) in
    let within : prefix_len p all ≤ length all = prefix_len-le-length p all in
    let same : get_or all j 0 ≡ j = get_or-range_with_len 0 (length b) j 0 (omega arith) ∙ zero-add j in
    ltb-true _ _ (subst (λ (k : ℕ). nat_lt (place b k) (length b) ≡ true) same (prefix_len_passes p all j 0 lt))

over_count : (b : List ℕ) → length b ≤ place b (count b)
unfolding count
over_count b =
    let p : ℕ → Bool = λ k. nat_lt (place b k) (length b) in
    let all = range_with_len 0 (length b) in
    let n = prefix_len p all in
    let long : length all ≡ length b = length-range_with_len 0 (length b) in
    elim (cases_lt n (length b)) [
      | inl lt ↦
          let same : get_or all n 0 ≡ n = get_or-range_with_len 0 (length b) n 0 lt ∙ zero-add n in
          ltb-false _ _ (subst (λ (k : ℕ). nat_lt (place b k) (length b) ≡ false) same (prefix_len_stops p all 0 (omega arith)))
      | inr ge ↦ omega (arith, place_low b n)
    ]

pub count_has : (b : List ℕ) → HasHeaders b (count b)
count_has b = record { inside = inside_count b; over = over_count b }

no_more : (b : List ℕ) (n m : ℕ) → HasHeaders b n → HasHeaders b m → n ≤ m
no_more b n m of_n of_m =
    elim (cases_lt m n) [ inl lt ↦ absurd (omega (arith, of_n.inside m lt, of_m.over)) | inr ge ↦ ge ]

pub count_is : (b : List ℕ) (n : ℕ) → HasHeaders b n → n ≡ count b
count_is b n all = omega (arith, no_more b n (count b) all (count_has b), no_more b (count b) n (count_has b) all)

-- a header in the file is one of them, and after the last there is none
pub below_count : (b : List ℕ) (j : ℕ) → place b j < length b → j < count b
below_count b j lt =
    elim (cases_lt j (count b)) [ inl less ↦ less | inr ge ↦ absurd (omega (arith, over_count b, place_le b (count b) j ge)) ]

pub above_count : (b : List ℕ) (j : ℕ) → length b ≤ place b j → count b ≤ j
above_count b j le =
    elim (cases_lt j (count b)) [ inl less ↦ absurd (omega (arith, inside_count b j less)) | inr ge ↦ ge ]
