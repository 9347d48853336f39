-- A walk over relocations finds the first of a pair that the other part is not next to.
use Rattle.std.proofs.Common.{◌≡◌, ℕ, ◌+◌, ◌-◌, ◌<◌, ◌≤◌, Bool, true, false, ◌&&◌, ◌==◌, List, length, get_or, find, refl, ap, ◌∙◌, arith, Some, None}
use Rattle.std.specs.List.{range_with_len}
use Rattle.std.proofs.lemmas.Bool.{cond-true, cond-false}
use Rattle.std.proofs.lemmas.List.{get_or_past}
use Rattle.lk_base.specs.declared.abi.TheConstants.{R_RISCV_SET_ULEB128}
use Rattle.lk_base.proofs.Loops.{range_at}
use Rattle.lk_tables.specs.declared.objects.Reloc.{Reloc}
use Rattle.lk_tables.specs.Files.{no_reloc}
use Rattle.lk_tables.specs.Relocations.{is_pair}

-- the first number from k on that passes a test
pub first_here : (test : ℕ → Bool) (k n : ℕ) → k < n → test k ≡ true → find test (range_with_len k (n - k)) ≡ Some k
first_here test k n lt is =
    ap (find test) (range_at k n lt) ∙ cond-true (test k) (Some k) (find test (range_with_len (k + 1) (n - (k + 1)))) is

pub first_later : (test : ℕ → Bool) (k n : ℕ) → k < n → test k ≡ false → find test (range_with_len k (n - k)) ≡ find test (range_with_len (k + 1) (n - (k + 1)))
first_later test k n lt is =
    ap (find test) (range_at k n lt) ∙ cond-false (test k) (Some k) (find test (range_with_len (k + 1) (n - (k + 1)))) is

pub first_none : (test : ℕ → Bool) (k n : ℕ) → n ≤ k → find test (range_with_len k (n - k)) ≡ None
first_none test k n past = let e : n - k ≡ 0 = omega (arith, past) in ap (λ m. find test (range_with_len k m)) e

pub first_all : (test : ℕ → Bool) (n : ℕ) → find test (range_with_len 0 (n - 0)) ≡ find test (range_with_len 0 n)
first_all test n = let e : n - 0 ≡ n = omega arith in ap (λ m. find test (range_with_len 0 m)) e

-- what stands past the end is no second part
and_none : (b : Bool) → (b && false) ≡ false
and_none true = refl
and_none false = refl

pub no_pair_past : (rs : List Reloc) (k : ℕ) (p : Reloc) → length rs ≤ k → is_pair p (get_or rs k no_reloc) ≡ false
unfolding is_pair
no_pair_past rs k p past = ap (is_pair p) (get_or_past rs k no_reloc past) ∙ and_none (p.kind == R_RISCV_SET_ULEB128)
