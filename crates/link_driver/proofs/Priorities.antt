-- Priorities are small.
use Rattle.std.proofs.Common.{◌≡◌, ℕ, zero, suc, ◌+◌, ◌-◌, ◌*◌, ◌<◌, ◌≤◌, ◌^◌, ◌&&◌, ◌||◌, Bool, true, false, if◌then◌else◌, Option, Some, None, List, [], ◌∷◌, length, drop, refl, arith}
use Rattle.std.specs.Prelude.{codes, nat_le, unwrap_or}
use Rattle.std.proofs.lemmas.Bool.{and_parts, leb-true}
use Rattle.std.proofs.lemmas.List.{length-drop}
use Rattle.lk_tables.specs.OutputNames.{is_numbered, is_under, number_of, priority_of}

-- the greatest number of so many more digits
abbrev most_of : (digits n : ℕ) → ℕ
most_of zero n = n
most_of (suc k) n = most_of k (10 * n + 9)

most_rises : (k a b : ℕ) → a ≤ b → most_of k a ≤ most_of k b
most_rises zero a b le = le
most_rises (suc k) a b le = most_rises k (10 * a + 9) (10 * b + 9) (omega (arith, le))

most_low : (k n : ℕ) → n ≤ most_of k n
most_low zero n = omega arith
most_low (suc k) n = omega (arith, most_low k (10 * n + 9))

some_same : (a b : ℕ) → Some a ≡ Some b → a ≡ b
some_same a b e = cc

number_most : (ds : List ℕ) (n m k : ℕ) → length ds ≤ k → number_of ds n ≡ Some m → m ≤ most_of k n
number_most [] n m k le is = omega (arith, most_low k n, some_same n m is)
number_most (d ∷ ds) n m zero le is = absurd (omega (arith, le))
number_most (d ∷ ds) n m (suc k) le is = by (nat_le 48 d && nat_le d 57) refl is (λ more. number_most ds (10 * n + (d - 48)) m k (omega (arith, le)) more)
  where
    by : (c : Bool) → (nat_le 48 d && nat_le d 57) ≡ c → (if c then number_of ds (10 * n + (d - 48)) else None) ≡ Some m
        → (number_of ds (10 * n + (d - 48)) ≡ Some m → m ≤ most_of k (10 * n + (d - 48))) → m ≤ most_of (suc k) n
    by true digit is rest =
        let high : d ≤ 57 = leb-true d 57 (and_parts (nat_le 48 d) (nat_le d 57) digit).1 in
        let own = rest is in
        let up = most_rises k (10 * n + (d - 48)) (10 * n + 9) (omega (arith, high)) in
        omega (arith, own, up)
    by false digit is rest = cc

most_five : most_of 5 0 ≡ 99999
most_five = refl

unwrap_most : (found : Option ℕ) → ((m : ℕ) → found ≡ Some m → m ≤ 99999) → unwrap_or found 65536 < 2 ^ 32
unwrap_most None most = omega arith
unwrap_most (Some m) most = omega (arith, most m refl)

pub priority_low : (name : List ℕ) → priority_of name < 2 ^ 32
unfolding priority_of
priority_low name = by (is_numbered name) refl
  where
    by : (b : Bool) → is_numbered name ≡ b → (if b then unwrap_or (number_of (drop 12 name) 0) 65536 else 65536) < 2 ^ 32
    by true is =
        let long = leb-true (length name) 17 (and_parts (nat_le 13 (length name)) (nat_le (length name) 17)
        (and_parts (is_under (codes ".init_array") name || is_under (codes ".fini_array") name) (nat_le 13 (length name) && nat_le (length name) 17) is).1).1 in
        let few = length-drop 12 name in
        unwrap_most (number_of (drop 12 name) 0) (λ m found. omega (arith, number_most (drop 12 name) 0 m 5 (omega (arith, few, long)) found, most_five))
    by false is = omega arith
