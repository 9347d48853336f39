-- One element more among the distinct ones.
use Rattle.std.proofs.Common.{◌≡◌, ℕ, ◌+◌, ◌<◌, ◌≤◌, ◌==◌, List, [], ◌∷◌, ◌++◌, length, map, take, get_or, set, sym, ap, ◌∙◌, arith, inl, inr}
use Rattle.std.specs.Prelude.{if◌then◌else◌}
use Rattle.std.specs.List.{filter, range_with_len}
use Rattle.std.proofs.lemmas.Bool.{cases_Bool, eqb-true, eqb-false}
use Rattle.std.proofs.Math.Seq.{get_or-append_seam, set-append_seam}
use Rattle.std.proofs.lemmas.List.{append_assoc, append-nil, get_or_append_left, length-append, take-set, take_more_set}
use Rattle.std.proofs.lemmas.List.Elements.{filter-append}
use Rattle.std.proofs.lemmas.List.FromFn.{length-range_with_len, get_or-map-range_with_len}
use Rattle.std.proofs.lemmas.List.Sums.{length-filter, count_by-le-length}
use Rattle.lk_base.proofs.Loops.{range_more}
use Rattle.str_merge.specs.Orders.{IsFirstOf, is_own, owns, rank}

pub owns_more : (ns : List ℕ) (i : ℕ) → owns ns (i + 1) ≡ owns ns i ++ (if get_or ns i 0 == i then i ∷ [] else [])
unfolding owns
owns_more ns i = ap (filter (is_own ns)) (range_more i) ∙ filter-append (is_own ns) (range_with_len 0 i) (i ∷ [])

pub owns_few : (ns : List ℕ) (n : ℕ) → length (owns ns n) ≤ n
unfolding owns
owns_few ns n = omega (arith, length-filter (is_own ns) (range_with_len 0 n), count_by-le-length (is_own ns) (range_with_len 0 n), length-range_with_len 0 n)

-- with those that are found after them
pub owns_long : (ns own : List ℕ) (start end : ℕ) → owns ns start ++ own ≡ owns ns end → length (owns ns start) + length own ≡ length (owns ns end)
owns_long ns own start end both = sym (length-append (owns ns start) own) ∙ ap length both

pub counted_more : (ns : List ℕ) (i count next : ℕ) → count ≡ length (owns ns i) → next ≡ (if get_or ns i 0 == i then count + 1 else count) → next ≡ length (owns ns (i + 1))
counted_more ns i count next held is = elim (cases_Bool (get_or ns i 0 == i)) [
  | inl same ↦
      is ∙ ap (λ b. if b then count + 1 else count) same ∙ ap (λ n. n + 1) held
      ∙ sym (ap length (owns_more ns i ∙ ap (λ b. owns ns i ++ (if b then i ∷ [] else [])) same) ∙ length-append (owns ns i) (i ∷ []))
  | inr other ↦
      is ∙ ap (λ b. if b then count + 1 else count) other ∙ held
      ∙ sym (ap length (owns_more ns i ∙ ap (λ b. owns ns i ++ (if b then i ∷ [] else [])) other ∙ append-nil (owns ns i)))
]

-- element i is written after those that are listed, and stays there if it is the first of its kind
pub listed_more : (ns xs : List ℕ) (start i count next : ℕ) → count < length xs → owns ns start ++ take count xs ≡ owns ns i → next ≡ (if get_or ns i 0 == i then count + 1 else count) →
    owns ns start ++ take next (set xs count i) ≡ owns ns (i + 1)
listed_more ns xs start i count next lt held is = elim (cases_Bool (get_or ns i 0 == i)) [
  | inl same ↦
      ap (λ n. owns ns start ++ take n (set xs count i)) (is ∙ ap (λ b. if b then count + 1 else count) same)
      ∙ ap (λ l. owns ns start ++ l) (take_more_set xs count i lt)
      ∙ sym (append_assoc (owns ns start) (take count xs) (i ∷ []))
      ∙ ap (λ l. l ++ i ∷ []) held
      ∙ sym (owns_more ns i ∙ ap (λ b. owns ns i ++ (if b then i ∷ [] else [])) same)
  | inr other ↦
      ap (λ n. owns ns start ++ take n (set xs count i)) (is ∙ ap (λ b. if b then count + 1 else count) other)
      ∙ ap (λ l. owns ns start ++ l) (take-set xs count i)
      ∙ held
      ∙ sym (owns_more ns i ∙ ap (λ b. owns ns i ++ (if b then i ∷ [] else [])) other ∙ append-nil (owns ns i))
]

pub count_most : (ns : List ℕ) (start i count next : ℕ) → start + count ≤ i → next ≡ (if get_or ns i 0 == i then count + 1 else count) → start + next ≤ i + 1
count_most ns start i count next most is = elim (cases_Bool (get_or ns i 0 == i)) [
  | inl same ↦ (let one = is ∙ ap (λ b. if b then count + 1 else count) same in omega (arith, most, one))
  | inr other ↦ (let none = is ∙ ap (λ b. if b then count + 1 else count) other in omega (arith, most, none))
]

pub rank_step : (ns old : List ℕ) (i count : ℕ) → IsFirstOf ns → i < length ns → old ≡ map (rank ns) (range_with_len 0 i) → count ≡ length (owns ns i) →
    (if get_or ns i 0 == i then count else get_or old (get_or ns i 0) 0) ≡ rank ns i
unfolding rank
rank_step ns old i count is lt held counted =
    let first = get_or ns i 0 in
    elim (cases_Bool (first == i)) [
      | inl same ↦
          ap (λ b. if b then count else get_or old first 0) same ∙ counted ∙ ap (λ n. length (owns ns n)) (sym (eqb-true first i same))
      | inr other ↦
          let differs = eqb-false first i other in
          let low = is.before i lt in
          let less : first < i = omega arith in
          ap (λ b. if b then count else get_or old first 0) other
          ∙ ap (λ l. get_or l first 0) held
          ∙ get_or-map-range_with_len (rank ns) 0 i first first 0 less (omega arith)
          ∙ ap (λ n. length (owns ns n)) (is.own i lt)
    ]

-- the place after all before is listed, and then that of the first equal element
pub rank_written : (ns old pushed : List ℕ) (i count r : ℕ) → IsFirstOf ns → i < length ns → length old ≡ i → old ≡ map (rank ns) (range_with_len 0 i) → count ≡ length (owns ns i) →
    pushed ≡ old ++ count ∷ [] → r ≡ get_or pushed (get_or ns i 0) 0 → r ≡ rank ns i
rank_written ns old pushed i count r is lt wide held counted push read =
    let first = get_or ns i 0 in
    let low = is.before i lt in
    let listed : get_or (old ++ count ∷ []) first 0 ≡ (if first == i then count else get_or old first 0) = elim (cases_Bool (first == i)) [
      | inl same ↦
          ap (λ k. get_or (old ++ count ∷ []) k 0) (eqb-true first i same ∙ sym wide)
          ∙ get_or-append_seam old count [] 0
          ∙ sym (ap (λ b. if b then count else get_or old first 0) same)
      | inr other ↦
          let differs = eqb-false first i other in
          let less : first < length old = omega (arith, low, wide, differs) in
          get_or_append_left old (count ∷ []) 0 first less
          ∙ sym (ap (λ b. if b then count else get_or old first 0) other)
    ] in
    read ∙ ap (λ l. get_or l first 0) push ∙ listed ∙ rank_step ns old i count is lt held counted

pub written_last : (old pushed : List ℕ) (i count r : ℕ) → length old ≡ i → pushed ≡ old ++ count ∷ [] → set pushed i r ≡ old ++ r ∷ []
written_last old pushed i count r wide push =
    ap (λ l. set l i r) push ∙ ap (λ k. set (old ++ count ∷ []) k r) (sym wide) ∙ set-append_seam old count [] r
