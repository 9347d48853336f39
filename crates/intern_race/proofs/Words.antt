-- The two halves of a slot's word.
use Rattle.std.proofs.Common.{suc, pow-suc, ◌-◌, ◌≡◌, ◌≢◌, ℕ, ◌+◌, ◌*◌, ◌%◌, ◌^◌, ◌<◌, ◌≤◌, ◌⊎◌, inl, inr, min, sym, ap, ◌∙◌, ⊎_elim, arith}
use Rattle.std.specs.Prelude.{bit_and}
use Rattle.std.proofs.Math.Nat.{pow-le-pow_right}
use Rattle.std.proofs.lemmas.Bool.{cases_lt}
use Rattle.std.proofs.lemmas.Nat.{and_mask}
use Rattle.intern_race.specs.Slots.{holder, least, none, word_of}

-- the halves of a word that is put together
pub holder-word_of : (f h : ℕ) → h < 2 ^ 32 → holder (word_of f h) ≡ h
unfolding holder word_of
holder-word_of f h lt = omega arith

pub least-word_of : (f h : ℕ) → h < 2 ^ 32 → least (word_of f h) ≡ f
unfolding least word_of
least-word_of f h lt = omega arith

-- a word that holds a text is not that of an empty slot
pub held_is_filled : (w : ℕ) → holder w < 2 ^ 31 → w ≢ none
unfolding holder
held_is_filled w lt is = omega (arith, lt, is)

-- the lesser of two words that hold one text: it holds it, and its least number is the lesser one
pub lesser_cases : (w op : ℕ) → holder w ≡ holder op → ((min w op ≡ w) × (least w ≤ least op)) ⊎ ((min w op ≡ op) × (least op ≤ least w))
unfolding holder least
lesser_cases w op same = ⊎_elim
    (λ (lt : w < op). inl (omega arith, omega (arith, same, lt)))
    (λ (le : op ≤ w). inr (omega arith, omega (arith, same, le)))
    (cases_lt w op)

-- powers of two below 2 ^ 32
pub bits_below : (bits : ℕ) → 2 ^ bits < 2 ^ 32 → bits < 32
bits_below bits lt = ⊎_elim
    (λ (less : bits < 32). less)
    (λ (from : 32 ≤ bits). let most : 2 ^ 32 ≤ 2 ^ bits = pow-le-pow_right (omega arith) from in absurd (omega (arith, most, lt)))
    (cases_lt bits 32)

pub twice : (bits slots : ℕ) → slots ≡ 2 ^ bits → slots * 2 ≡ 2 ^ (bits + 1)
twice bits slots is = let one : bits + 1 ≡ suc bits = omega arith in ap (λ n. n * 2) is ∙ sym (pow-suc 2 bits) ∙ ap (λ n. 2 ^ n) (sym one)

pub most_slots : (bits : ℕ) → bits ≤ 32 → 2 ^ bits ≤ 2 ^ 32
most_slots bits le = pow-le-pow_right (omega arith) le

-- a mask of low bits is the rest of a division by a power of two
pub masked : (n slots bits mask : ℕ) → slots ≡ 2 ^ bits → mask ≡ slots - 1 → bit_and n mask ≡ n % slots
masked n slots bits mask power is = ap (bit_and n) (is ∙ ap (λ k. k - 1) power) ∙ and_mask n bits ∙ ap (λ k. n % k) (sym power)
