-- So many different numbers below a bound are no more than the bound.
use Rattle.std.proofs.Common.{◌≡◌, ◌≢◌, ℕ, zero, suc, ◌<◌, ◌≤◌, ◌⊎◌, inl, inr, Bool, if◌then◌else◌, sym, ap, ◌∙◌, ⊎_elim, arith}
use Rattle.std.specs.Prelude.{◌==◌}
use Rattle.std.proofs.lemmas.Bool.{cases_eq, eq-eqb, ne_eqb}

-- the numbers of the first n are below m
abbrev pub Into : (ℕ → ℕ) → (n m : ℕ) → Type 0
Into f n m = (i : ℕ) → i < n → f i < m

-- and no two are one
abbrev pub OneToOne : (ℕ → ℕ) → (n : ℕ) → Type 0
OneToOne f n = (i j : ℕ) → i < n → j < n → f i ≡ f j → i ≡ j

-- The same without the last number m: who has it takes what the n-th has
abbrev without : (ℕ → ℕ) → (n m : ℕ) → ℕ → ℕ
without f n m i = if f i == m then f n else f i

abbrev Either : (ℕ → ℕ) → (n m i : ℕ) → Type 0
Either f n m i = ((f i ≡ m) × (without f n m i ≡ f n)) ⊎ ((f i ≢ m) × (without f n m i ≡ f i))

either_of : (f : ℕ → ℕ) (n m i : ℕ) → Either f n m i
either_of f n m i = ⊎_elim
    (λ (is : f i ≡ m). inl (is, ap (λ (b : Bool). if b then f n else f i) (eq-eqb (f i) m is)))
    (λ (ne : f i ≢ m). inr (ne, ap (λ (b : Bool). if b then f n else f i) (ne_eqb (f i) m ne)))
    (cases_eq (f i) m)

without_into : (f : ℕ → ℕ) (n m : ℕ) → Into f (suc n) (suc m) → OneToOne f (suc n) → Into (without f n m) n m
without_into f n m into one i lt =
    let here = into i (omega (arith, lt)) in
    let last = into n (omega arith) in
    ⊎_elim
    (λ (has : (f i ≡ m) × (without f n m i ≡ f n)).
    let is = has.0 in
    let now = has.1 in
    let ne : f n ≢ m = λ e. let same = one i n (omega (arith, lt)) (omega arith) (is ∙ sym e) in absurd (omega (arith, same, lt)) in
    ⊎_elim (λ (e : f n ≡ m). absurd (ne e)) (λ (apart : f n ≢ m). omega (arith, apart, last, now)) (cases_eq (f n) m))
    (λ (has : (f i ≢ m) × (without f n m i ≡ f i)). let ne = has.0 in let now = has.1 in omega (arith, ne, now, here))
    (either_of f n m i)

without_once : (f : ℕ → ℕ) (n m : ℕ) → OneToOne f (suc n) → OneToOne (without f n m) n
without_once f n m one i j here there same = ⊎_elim
    (λ (a : (f i ≡ m) × (without f n m i ≡ f n)). ⊎_elim
    (λ (b : (f j ≡ m) × (without f n m j ≡ f n)). one i j (omega (arith, here)) (omega (arith, there)) (a.0 ∙ sym b.0))
    (λ (b : (f j ≢ m) × (without f n m j ≡ f j)). let at = one n j (omega arith) (omega (arith, there)) (sym a.1 ∙ same ∙ b.1) in absurd (omega (arith, at, there)))
    (either_of f n m j))
    (λ (a : (f i ≢ m) × (without f n m i ≡ f i)). ⊎_elim
    (λ (b : (f j ≡ m) × (without f n m j ≡ f n)). let at = one i n (omega (arith, here)) (omega arith) (sym a.1 ∙ same ∙ b.1) in absurd (omega (arith, at, here)))
    (λ (b : (f j ≢ m) × (without f n m j ≡ f j)). one i j (omega (arith, here)) (omega (arith, there)) (sym a.1 ∙ same ∙ b.1))
    (either_of f n m j))
    (either_of f n m i)

pub fits_into : (n m : ℕ) (f : ℕ → ℕ) → Into f n m → OneToOne f n → n ≤ m
fits_into zero m f into one = omega arith
fits_into (suc n) zero f into one = let none = into n (omega arith) in absurd (omega (arith, none))
fits_into (suc n) (suc m) f into one = let less = fits_into n m (without f n m) (without_into f n m into one) (without_once f n m one) in omega (arith, less)
