-- The decimal digits of a number, the last one after the others.
use Rattle.std.proofs.Common.{◌≡◌, ℕ, ◌+◌, ◌/◌, ◌%◌, ◌^◌, ◌<◌, ◌≤◌, List, [], ◌∷◌, ◌++◌, length, length-append, append_assoc, ap, sym, ◌∙◌, arith}
use Rattle.std.proofs.lemmas.Fmt.{decimal_digit, decimal_step}
use Rattle.std.specs.Prelude.{decimal}

pub one_digit : (n : ℕ) → n < 10 → 1 ≡ length (decimal n)
one_digit n lt = sym (ap length (decimal_digit n lt))

pub more_digits : (n r : ℕ) → 10 ≤ n → n < 2 ^ 32 → r ≡ length (decimal (n / 10)) → r + 1 ≡ length (decimal n)
more_digits n r more small e =
    ap (λ k. k + 1) e ∙ sym (ap length (decimal_step n more (omega arith)) ∙ length-append (decimal (n / 10)) ((48 + n % 10) ∷ []))

pub digit_pushed : (old new : List ℕ) (n : ℕ) → n < 10 → new ≡ old ++ (48 + n) ∷ [] → new ≡ old ++ decimal n
digit_pushed old new n lt e = e ∙ ap (λ l. old ++ l) (sym (decimal_digit n lt))

pub last_pushed : (old mid new : List ℕ) (n : ℕ) → 10 ≤ n → n < 2 ^ 32 → mid ≡ old ++ decimal (n / 10) → new ≡ mid ++ (48 + n % 10) ∷ []
    → new ≡ old ++ decimal n
last_pushed old mid new n more small first e =
    e ∙ ap (λ l. l ++ (48 + n % 10) ∷ []) first ∙ append_assoc old (decimal (n / 10)) ((48 + n % 10) ∷ [])
    ∙ ap (λ l. old ++ l) (sym (decimal_step n more (omega arith)))
