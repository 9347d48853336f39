-- The float ABIs of the files from one on, with the first that was met.
use Rattle.std.proofs.Common.{◌≡◌, ℕ, suc, ◌+◌, ◌-◌, ◌<◌, ◌==◌, true, false, Option, Some, None, List, [], ◌∷◌, ◌++◌, length, refl, sym, ap, ◌∙◌, arith, bit_and}
use Rattle.std.specs.Prelude.{flat_map}
use Rattle.std.specs.List.{range_with_len}
use Rattle.std.proofs.lemmas.Bool.{eq-eqb, cond-true, cond-false}
use Rattle.lk_base.specs.declared.abi.TheConstants.{EF_RISCV_FLOAT_ABI}
use Rattle.lk_base.specs.declared.defects.Defect.{Defect}
use Rattle.lk_base.specs.Firsts.{BeginsWith}
use Rattle.lk_tables.specs.Files.{File, file_at}
use Rattle.lk_tables.specs.Binding.{FloatAbi, float_abi_at, clash_of, clashes_with_first, flag_defects}

-- the clashes with the first, if there is one yet
abbrev pub clashes_after : Option ℕ → List FloatAbi → List Defect
clashes_after None abis = clashes_with_first abis
clashes_after (Some first) abis = flat_map (clash_of first) abis

abbrev pub abis_from : List File → ℕ → List FloatAbi
abis_from files f = flat_map (float_abi_at files) (range_with_len f (length files - f))

abbrev abi_of : ℕ → ℕ → FloatAbi
abi_of file abi = record { file = file; abi = abi }

pub abis_all : (files : List File) → clashes_after None (abis_from files 0) ≡ flag_defects files
unfolding flag_defects
abis_all files = let e : length files - 0 ≡ length files = omega arith in ap (λ n. clashes_with_first (flat_map (float_abi_at files) (range_with_len 0 n))) e

abis_next : (files : List File) (f : ℕ) → f < length files → abis_from files f ≡ float_abi_at files f ++ abis_from files (f + 1)
abis_next files f lt = let e : length files - f ≡ suc (length files - (f + 1)) = omega arith in ap (λ n. flat_map (float_abi_at files) (range_with_len f n)) e

abis_skip : (files : List File) (f : ℕ) → f < length files → (file_at files f).live ≡ false → abis_from files f ≡ abis_from files (f + 1)
unfolding float_abi_at
abis_skip files f lt dead = abis_next files f lt ∙ ap (λ xs. xs ++ abis_from files (f + 1)) (cond-false (file_at files f).live (abi_of f (bit_and (file_at files f).head.flags EF_RISCV_FLOAT_ABI) ∷ []) [] dead)

abis_own : (files : List File) (f own : ℕ) → f < length files → (file_at files f).live ≡ true → own ≡ bit_and (file_at files f).head.flags EF_RISCV_FLOAT_ABI → abis_from files f ≡ abi_of f own ∷ abis_from files (f + 1)
unfolding float_abi_at
abis_own files f own lt live is =
    abis_next files f lt
    ∙ ap (λ xs. xs ++ abis_from files (f + 1)) (cond-true (file_at files f).live (abi_of f (bit_and (file_at files f).head.flags EF_RISCV_FLOAT_ABI) ∷ []) [] live)
    ∙ ap (λ abi. abi_of f abi ∷ abis_from files (f + 1)) (sym is)

pub dead_next : (files : List File) (first : Option ℕ) (f : ℕ) (all : List Defect) → f < length files → (file_at files f).live ≡ false → clashes_after first (abis_from files f) ≡ all → clashes_after first (abis_from files (f + 1)) ≡ all
dead_next files first f all lt dead before = ap (clashes_after first) (sym (abis_skip files f lt dead)) ∙ before

pub first_next : (files : List File) (f own : ℕ) (all : List Defect) → f < length files → (file_at files f).live ≡ true → own ≡ bit_and (file_at files f).head.flags EF_RISCV_FLOAT_ABI → clashes_after None (abis_from files f) ≡ all → clashes_after (Some own) (abis_from files (f + 1)) ≡ all
first_next files f own all lt live is before = ap (clashes_after None) (sym (abis_own files f own lt live is)) ∙ before

same_none : (abi f own : ℕ) → own ≡ abi → clash_of abi (abi_of f own) ≡ []
same_none abi f own same = cond-true (own == abi) [] _ (eq-eqb own abi same)

pub same_next : (files : List File) (f own abi : ℕ) (all : List Defect) → f < length files → (file_at files f).live ≡ true → own ≡ bit_and (file_at files f).head.flags EF_RISCV_FLOAT_ABI → own ≡ abi → clashes_after (Some abi) (abis_from files f) ≡ all → clashes_after (Some abi) (abis_from files (f + 1)) ≡ all
same_next files f own abi all lt live is same before =
    sym (ap (clashes_after (Some abi)) (abis_own files f own lt live is)
    ∙ ap (λ ds. ds ++ flat_map (clash_of abi) (abis_from files (f + 1))) (same_none abi f own same)) ∙ before

pub clash_first : (files : List File) (f own abi : ℕ) (all : List Defect) (d : Defect) → f < length files → (file_at files f).live ≡ true → own ≡ bit_and (file_at files f).head.flags EF_RISCV_FLOAT_ABI → clash_of abi (abi_of f own) ≡ d ∷ [] → clashes_after (Some abi) (abis_from files f) ≡ all → BeginsWith all d
clash_first files f own abi all d lt live is one before = (
  flat_map (clash_of abi) (abis_from files (f + 1)),
  sym before ∙ ap (clashes_after (Some abi)) (abis_own files f own lt live is)
      ∙ ap (λ ds. ds ++ flat_map (clash_of abi) (abis_from files (f + 1))) one,
)

none_after : (first : Option ℕ) → clashes_after first [] ≡ []
none_after None = refl
none_after (Some abi) = refl
