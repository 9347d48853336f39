-- Numbers that pass a test, in order: their places, and counts over them and over all.
use Rattle.std.proofs.Common.{◌≡◌, ℕ, zero, suc, ◌+◌, ◌<◌, All, Bool, true, false, true≢false, cond, List, [], ◌∷◌, ◌++◌, length, get_or, refl, sym, ap, ◌∙◌, inl, inr, arith}
use Rattle.std.specs.List.{filter, range_with_len}
use Rattle.std.specs.List.Sorted.{IsStrictlyIncreasing}
use Rattle.std.proofs.lemmas.Bool.{cases_Bool, cases_lt}
use Rattle.std.proofs.lemmas.List.{get_or_append_left, get_or_push}
use Rattle.std.proofs.lemmas.List.Elements.{Contains-get_or, filter-append, filter_passes}
use Rattle.std.proofs.lemmas.List.FromFn.{get_or-range_with_len, length-range_with_len}
use Rattle.std.proofs.lemmas.List.Kept.{IsStrictlyIncreasing-filter}
use Rattle.lk_base.proofs.Loops.{range_more}
use Rattle.lk_base.proofs.Membership.{from_filter, from_range}
use Rattle.icf_part.specs.Counts.{how_many}
use Rattle.icf_part.proofs.Counting.{more, none, one_if}

range_rises : (n : ℕ) → IsStrictlyIncreasing (range_with_len 0 n)
range_rises n = λ k lt.
    let long = length-range_with_len 0 n in
    omega (arith, get_or-range_with_len 0 n k 0 (omega arith), get_or-range_with_len 0 n (k + 1) 0 (omega arith))

module _ (test : ℕ → Bool) where
  abbrev passing : (n : ℕ) → List ℕ
  passing n = filter test (range_with_len 0 n)

  pub passing_rise : (n : ℕ) → IsStrictlyIncreasing (passing n)
  passing_rise n = IsStrictlyIncreasing-filter test (range_with_len 0 n) (range_rises n)

  pub passing_count : (n : ℕ) → length (passing n) ≡ how_many test n
  unfolding how_many
  passing_count n = refl

  pub passing_more : (n : ℕ) → passing (n + 1) ≡ passing n ++ cond (test n) (n ∷ []) []
  passing_more n = ap (filter test) (range_more n) ∙ filter-append test (range_with_len 0 n) (n ∷ [])

  -- how many pass before one that does
  counts_rise : (a n : ℕ) → a < n → test a ≡ true → how_many test a < how_many test n
  counts_rise a zero lt is = absurd (omega (arith, lt))
  counts_rise a (suc n) lt is =
      let e : suc n ≡ n + 1 = omega arith in
      let step = ap (how_many test) e ∙ more test n in
      elim (cases_lt a n) [
        | inl less ↦ omega (arith, step, counts_rise a n less is)
        | inr last ↦
            let same : a ≡ n = omega (arith, lt, last) in
            let one = ap one_if (ap test (sym same) ∙ is) in
            omega (arith, step, one, ap (how_many test) same)
      ]

  pub rank_below : (a n : ℕ) → a < n → test a ≡ true → how_many test a < length (passing n)
  rank_below a n lt is = omega (arith, counts_rise a n lt is, passing_count n)

  pub ranks_rise : (a b : ℕ) → a < b → test a ≡ true → how_many test a < how_many test b
  ranks_rise a b lt is = counts_rise a b lt is

  put_last : (n : ℕ) (b : Bool) (xs : List ℕ) (k : ℕ) → b ≡ true → length xs ≡ k → get_or (xs ++ cond b (n ∷ []) []) k 0 ≡ n
  put_last n true xs k is wide = get_or_push xs n 0 k wide
  put_last n false xs k is wide = absurd (true≢false (sym is))

  -- one that passes stands at the place of so many
  pub rank_at : (n a : ℕ) → a < n → test a ≡ true → get_or (passing n) (how_many test a) 0 ≡ a
  rank_at zero a lt is = absurd (omega (arith, lt))
  rank_at (suc n) a lt is =
      let e : suc n ≡ n + 1 = omega arith in
      let step = ap passing e ∙ passing_more n in
      let k = how_many test a in
      ap (λ l. get_or l k 0) step ∙ elim (cases_lt a n) [
        | inl less ↦ get_or_append_left (passing n) (cond (test n) (n ∷ []) []) 0 k (rank_below a n less is) ∙ rank_at n a less is
        | inr last ↦
            let same : n ≡ a = omega (arith, lt, last) in
            put_last n (test n) (passing n) k (ap test same ∙ is) (passing_count n ∙ ap (how_many test) same) ∙ same
      ]

  pub passes_at : (n k : ℕ) → k < length (passing n) → test (get_or (passing n) k 0) ≡ true
  passes_at n k lt = filter_passes test (range_with_len 0 n) k 0 lt

  pub passing_within : (n : ℕ) → All (λ a. a < n) (passing n)
  passing_within n = λ k d lt. from_range n (get_or (passing n) k d) (from_filter test (range_with_len 0 n) (get_or (passing n) k d) (Contains-get_or (passing n) k d lt))

  -- counts of all, where each number that fails counts
  pub counts_apart : (p q : ℕ → Bool) (n : ℕ) → ((a : ℕ) → a < n → test a ≡ true → p a ≡ q (how_many test a)) → ((a : ℕ) → a < n → test a ≡ false → p a ≡ true) →
      how_many p n + how_many test n ≡ how_many q (how_many test n) + n
  counts_apart p q zero kept others = omega (arith, none p, none test, none q, ap (how_many q) (none test))
  counts_apart p q (suc n) kept others =
      let e : suc n ≡ n + 1 = omega arith in
      let one = ap (how_many p) e ∙ more p n in
      let two = ap (how_many test) e ∙ more test n in
      let before = counts_apart p q n (λ a lt is. kept a (omega (arith, lt)) is) (λ a lt fails. others a (omega (arith, lt)) fails) in
      elim (cases_Bool (test n)) [
        | inl is ↦
            let t = ap one_if is in
            let next : how_many test (suc n) ≡ how_many test n + 1 = omega (arith, two, t) in
            let three = ap (how_many q) next ∙ more q (how_many test n) in
            let same = ap one_if (kept n (omega arith) is) in
            omega (arith, one, next, three, same, before)
        | inr fails ↦
            let f = ap one_if fails in
            let next : how_many test (suc n) ≡ how_many test n = omega (arith, two, f) in
            let three = ap (how_many q) next in
            let counts = ap one_if (others n (omega arith) fails) in
            omega (arith, one, next, three, counts, before)
      ]
