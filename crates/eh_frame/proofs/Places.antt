-- Where records start: each where the one before ends, so that there are finitely many in a section.
use Rattle.std.proofs.Common.{◌≡◌, ℕ, zero, suc, ◌+◌, ◌*◌, ◌<◌, ◌≤◌, Bool, true, false, nat_lt, nat_le, ◌==◌, ◌&&◌, not, List, length, get_or, sym, ap, ◌∙◌, subst, arith, inl, inr, zero-add}
use Rattle.std.proofs.Math.Nat.{eq-or-lt_of_le, le_refl}
use Rattle.std.specs.List.{range_with_len, prefix_len}
use Rattle.std.proofs.lemmas.Bool.{cases_lt, and_left}
use Rattle.std.proofs.lemmas.Bool.Decides.{nat_tests}
use Rattle.std.proofs.lemmas.List.FromFn.{length-range_with_len, get_or-range_with_len}
use Rattle.std.proofs.lemmas.List.Sums.{prefix_len_passes, prefix_len_stops, prefix_len-le-length}
use Rattle.lk_tables.specs.Records.{start_of, end_at, len_at, is_there, count}

pub place_next : (c : List ℕ) (j : ℕ) → start_of c (j + 1) ≡ end_at c (start_of c j)
unfolding start_of
place_next c j = let e : j + 1 ≡ suc j = omega arith in ap (start_of c) e

pub place_up : (c : List ℕ) (j : ℕ) → start_of c j + 4 ≤ start_of c (suc j)
unfolding start_of
place_up c j = omega arith

place_low : (c : List ℕ) (j : ℕ) → 4 * j ≤ start_of c j
unfolding start_of
place_low c zero = omega arith
place_low c (suc j) = omega (arith, place_low c j)

pub place_le : (c : List ℕ) (i j : ℕ) → i ≤ j → start_of c i ≤ start_of c j
place_le c i zero le = let e : i ≡ 0 = omega arith in subst (λ (k : ℕ). start_of c k ≤ start_of c 0) (sym e) (le_refl (start_of c 0))
place_le c i (suc j) le =
    elim (eq-or-lt_of_le le) [
      | inl same ↦ subst (λ (k : ℕ). start_of c i ≤ start_of c k) same (le_refl (start_of c i))
      | inr lt ↦ omega (arith, place_le c i j (omega arith), place_up c j)
    ]

-- each record stands before the later ones
pub place_lt : (c : List ℕ) (i j : ℕ) → i < j → start_of c i < start_of c j
place_lt c i j lt = omega (arith, place_up c i, place_le c (suc i) j (omega arith))

not_past : (c : List ℕ) (at : ℕ) → length c ≤ at → is_there c at ≡ false
unfolding is_there
not_past c at le =
    let low : nat_lt at (length c) ≡ false = grind (arith, nat_tests) in
    and_left (nat_lt at (length c)) (not (nat_le (at + 4) (length c) && len_at c at == 0)) low

inside_count : (c : List ℕ) (j : ℕ) → j < count c → is_there c (start_of c j) ≡ true
unfolding count
inside_count c j lt =
    let p : ℕ → Bool = λ k. is_there c (start_of c k) in
    let all = range_with_len 0 (length c) in
    let long : length all ≡ length c = length-range_with_len 0 (length c) in
    let within : prefix_len p all ≤ length all = prefix_len-le-length p all in
    let same : get_or all j 0 ≡ j = get_or-range_with_len 0 (length c) j 0 (omega arith) ∙ zero-add j in
    subst (λ (k : ℕ). is_there c (start_of c k) ≡ true) same (prefix_len_passes p all j 0 lt)

pub count_most : (c : List ℕ) → count c ≤ length c
unfolding count
count_most c =
    let all = range_with_len 0 (length c) in
    let within : prefix_len (λ j. is_there c (start_of c j)) all ≤ length all = prefix_len-le-length (λ j. is_there c (start_of c j)) all in
    omega (arith, within, length-range_with_len 0 (length c))

over_count : (c : List ℕ) → is_there c (start_of c (count c)) ≡ false
unfolding count
over_count c =
    let p : ℕ → Bool = λ k. is_there c (start_of c k) in
    let all = range_with_len 0 (length c) in
    let n = prefix_len p all in
    let long : length all ≡ length c = length-range_with_len 0 (length c) in
    elim (cases_lt n (length c)) [
      | inl lt ↦
          let same : get_or all n 0 ≡ n = get_or-range_with_len 0 (length c) n 0 lt ∙ zero-add n in
          subst (λ (k : ℕ). is_there c (start_of c k) ≡ false) same (prefix_len_stops p all 0 (omega arith))
      | inr ge ↦ not_past c (start_of c n) (omega (arith, place_low c n))
    ]

-- of the records up to the last, one that is there is before the end, and one that is not is the end
pub below_count : (c : List ℕ) (j : ℕ) → j ≤ count c → is_there c (start_of c j) ≡ true → j < count c
below_count c j le there =
    elim (eq-or-lt_of_le le) [
      | inl same ↦
          let gone : is_there c (start_of c j) ≡ false = subst (λ (k : ℕ). is_there c (start_of c k) ≡ false) (sym same) (over_count c) in
          let bad : true ≡ false = sym there ∙ gone in
          absurd cc
      | inr lt ↦ lt
    ]

pub at_count : (c : List ℕ) (j : ℕ) → j ≤ count c → is_there c (start_of c j) ≡ false → j ≡ count c
at_count c j le gone =
    elim (eq-or-lt_of_le le) [
      | inl same ↦ same
      | inr lt ↦
          let bad : true ≡ false = sym (inside_count c j lt) ∙ gone in
          absurd cc
    ]
