-- The value of a distance, and when `jal` and `c.j` take it.
use Rattle.std.proofs.Common.{◌≡◌, ℕ, zero, suc, ◌-◌, ◌<◌, ◌≤◌, ◌%◌, ◌&&◌, not, true, if◌then◌else◌, cond, Some, None, ap, ◌∙◌, arith, inl, inr, ℤ, pos, negsuc, ◌-ℤ◌}
use Rattle.std.specs.Prelude.{unsigned_abs}
use Rattle.std.proofs.lemmas.Bool.{cases_lt, eq-eqb, le-ltb, lt-ltb}
use Rattle.lk_base.specs.declared.defects.Misfit.TheVariants.{Odd}
use Rattle.lk_base.specs.Reaches.{even_from_to, is_within, minus, misfit_of, range_of}

-- a difference that is not below 0, and one that is
not_below : (a b : ℕ) → b ≤ a → pos a -ℤ pos b ≡ pos (a - b)
not_below a zero le = ap pos (omega arith)
not_below a (suc b) le = ap (λ c. cond c (negsuc (suc b - suc a)) (pos (a - suc b))) (le-ltb a (suc b) le)

below_zero : (a b : ℕ) → a < b → pos a -ℤ pos b ≡ negsuc (b - suc a)
below_zero a zero lt = absurd (omega (arith, lt))
below_zero a (suc b) lt = ap (λ c. cond c (negsuc (suc b - suc a)) (pos (a - suc b))) (lt-ltb a (suc b) lt)

-- an even number from -low to high
even_taken : (low high : ℕ) (v : ℤ) → unsigned_abs v % 2 ≡ 0 → is_within (minus low) (pos high) v ≡ true → misfit_of (even_from_to (minus low) (pos high)) v ≡ None
even_taken low high v even within =
    ap (λ b. if b then range_of (is_within (minus low) (pos high) v) else Some Odd) (eq-eqb (unsigned_abs v % 2) 0 even) ∙ ap range_of within

ahead_within : (low high d : ℕ) → 0 < low → d ≤ high → is_within (minus low) (pos high) (pos d) ≡ true
ahead_within zero high d some le = absurd (omega (arith, some))
ahead_within (suc low) high d some le = ap not (le-ltb high d le)

back_within : (low high d : ℕ) → suc d ≤ low → is_within (minus low) (pos high) (negsuc d) ≡ true
back_within zero high d le = absurd (omega (arith, le))
back_within (suc low) high d le = ap (λ b. not b && true) (le-ltb low d (omega (arith, le)))

pub distance_taken : (low high a b : ℕ) → 0 < low → a % 2 ≡ 0 → b % 2 ≡ 0 → (b ≤ a → a - b ≤ high) → (a ≤ b → b - a ≤ low) → misfit_of (even_from_to (minus low) (pos high)) (pos a -ℤ pos b) ≡ None
distance_taken low high a b some a_even b_even ahead back = elim (cases_lt a b) [
  | inl less ↦
      let far = back (omega (arith, less)) in
      ap (misfit_of (even_from_to (minus low) (pos high))) (below_zero a b less)
      ∙ even_taken low high (negsuc (b - suc a)) (let e : suc (b - suc a) % 2 ≡ 0 = omega (arith, less, a_even, b_even) in e) (back_within low high (b - suc a) (omega (arith, less, far)))
  | inr upto ↦
      let far = ahead upto in
      ap (misfit_of (even_from_to (minus low) (pos high))) (not_below a b upto)
      ∙ even_taken low high (pos (a - b)) (omega (arith, upto, a_even, b_even)) (ahead_within low high (a - b) some far)
]
