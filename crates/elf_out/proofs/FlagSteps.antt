-- What is found file by file.
use Rattle.std.proofs.Common.{◌≡◌, ℕ, ◌+◌, ◌-◌, ◌<◌, List, [], ◌∷◌, ◌++◌, flat_map, bit_and, bit_or, refl, ap, sym, ◌∙◌}
use Rattle.std.specs.List.{fold, range_with_len}
use Rattle.std.proofs.lemmas.List.Sums.{fold-append}
use Rattle.lk_base.specs.declared.abi.TheConstants.{EF_RISCV_RVC, EF_RISCV_TSO, EF_RISCV_FLOAT_ABI}
use Rattle.lk_base.proofs.Loops.{rest_step}
use Rattle.elf_out.specs.Headers.{first_flags, flags_together, kept_flags}

-- flags together with those found before
abbrev pub flags_from : ℕ → List ℕ → ℕ
flags_from found flags = fold (λ found own. bit_or found own) found flags

pub together_next : (f : ℕ → List ℕ) (i n found next total : ℕ) → i < n → next ≡ flags_from found (f i)
    → flags_from found (flat_map f (range_with_len i (n - i))) ≡ total
    → flags_from next (flat_map f (range_with_len (i + 1) (n - (i + 1)))) ≡ total
together_next f i n found next total lt e whole =
    let rest : List ℕ = flat_map f (range_with_len (i + 1) (n - (i + 1))) in
    ap (λ k. flags_from k rest) e ∙ sym (fold-append (λ found own. bit_or found own) found (f i) rest)
    ∙ sym (ap (flags_from found) (rest_step f i n lt)) ∙ whole

-- the first flags
pub first_split : (f : ℕ → List ℕ) (i n total : ℕ) (own : List ℕ) → i < n → f i ≡ own
    → first_flags (flat_map f (range_with_len i (n - i))) ≡ total
    → first_flags (own ++ flat_map f (range_with_len (i + 1) (n - (i + 1)))) ≡ total
first_split f i n total own lt e whole =
    let rest : List ℕ = flat_map f (range_with_len (i + 1) (n - (i + 1))) in
    sym (ap first_flags (rest_step f i n lt ∙ ap (λ l. l ++ rest) e)) ∙ whole

-- without a file the flags are 0
pub kept_is : (flags : List ℕ) → bit_or (bit_and (flags_together flags) (EF_RISCV_RVC + EF_RISCV_TSO)) (bit_and (first_flags flags) EF_RISCV_FLOAT_ABI) ≡ kept_flags flags
unfolding kept_flags
kept_is [] = refl
kept_is (first ∷ rest) = refl
