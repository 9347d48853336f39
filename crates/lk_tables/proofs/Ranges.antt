-- The first number of a range that passes a test.
use Rattle.std.proofs.Common.{◌≡◌, ℕ, zero, suc, ◌+◌, ◌<◌, ◌≤◌, Bool, true, false, cond, [], ◌∷◌, refl, ap, ◌∙◌, arith, Option, Some, None, subst}
use Rattle.std.specs.Prelude.{find}
use Rattle.std.specs.Option.{option_or}
use Rattle.std.specs.List.{range_with_len}
use Rattle.std.proofs.lemmas.List.Folds.{find-append}
use Rattle.lk_base.proofs.Loops.{range_more}

-- the first below i + 1 is the first below i, else i if it passes
pub find_more : (p : ℕ → Bool) (i : ℕ) → find p (range_with_len 0 (i + 1)) ≡ option_or (find p (range_with_len 0 i)) (cond (p i) (Some i) None)
find_more p i = ap (find p) (range_more i) ∙ find-append p (range_with_len 0 i) (i ∷ [])

-- what is found passes, and stands in the range
pub record IsFound (p : ℕ → Bool) (a n k : ℕ) : Type 0 where
  pub passes : p k ≡ true
  pub low : a ≤ k
  pub high : k < a + n

found_step : (p : ℕ → Bool) (a n k : ℕ) (b : Bool) (r : Option ℕ) → p a ≡ b → (r ≡ Some k → IsFound p (a + 1) n k) → cond b (Some a) r ≡ Some k → IsFound p a (suc n) k
found_step p a n k true r is later e =
    let same : a ≡ k = cc in
    let P : ℕ → Type 0 = λ j. IsFound p a (suc n) j in
    subst P same (record { passes = is; low = omega arith; high = omega arith })
found_step p a n k false r is later e =
    let f = later e in record { passes = f.passes; low = omega (arith, f.low); high = omega (arith, f.high) }

found_in : (p : ℕ → Bool) (n a k : ℕ) → find p (range_with_len a n) ≡ Some k → IsFound p a n k
found_in p zero a k e = cc
found_in p (suc n) a k e = found_step p a n k (p a) (find p (range_with_len (a + 1) n)) refl (found_in p n (a + 1) k) e

pub found : (p : ℕ → Bool) (n k : ℕ) → find p (range_with_len 0 n) ≡ Some k → IsFound p 0 n k
found p n k e = found_in p n 0 k e
