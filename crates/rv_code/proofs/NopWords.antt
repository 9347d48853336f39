-- Bytes that are those of nops, one by one, are nops.
use Rattle.std.proofs.Common.{◌≡◌, ℕ, ◌+◌, ◌*◌, ◌%◌, ◌<◌, ◌≤◌, nat_le, if◌then◌else◌, List, [], ◌∷◌, length, take, drop, get_or, refl, sym, ap, ◌∙◌, subst, arith}
use Rattle.std.proofs.lemmas.Bool.{eq-eqb, le-leb, lt-leb, ne_eqb}
use Rattle.std.proofs.lemmas.List.{drop_more}
use Rattle.byteorder.specs.Endian.{little_number}
use Rattle.rv_code.specs.Instructions.{AreNops, IsNop, IsShortNop, nop_byte}

module _ (count : ℕ) where
  first_byte : (k : ℕ) → k % 4 ≡ 0 → k + 4 ≤ count → nop_byte count k ≡ 0x13
  first_byte k start le =
      ap (λ t. if t then (if nat_le (k + 4) count then 0x13 else 0x01) else 0) (eq-eqb (k % 4) 0 start) ∙ ap (λ t. if t then 0x13 else 0x01) (le-leb (k + 4) count le)

  short_byte : (k : ℕ) → k % 4 ≡ 0 → count < k + 4 → nop_byte count k ≡ 0x01
  short_byte k start lt =
      ap (λ t. if t then (if nat_le (k + 4) count then 0x13 else 0x01) else 0) (eq-eqb (k % 4) 0 start) ∙ ap (λ t. if t then 0x13 else 0x01) (lt-leb (k + 4) count lt)

  zero_byte : (k : ℕ) → (k % 4 ≡ 0 → ⊥) → nop_byte count k ≡ 0
  zero_byte k other = ap (λ t. if t then (if nat_le (k + 4) count then 0x13 else 0x01) else 0) (ne_eqb (k % 4) 0 other)

two_at : (xs : List ℕ) (k : ℕ) → k + 2 ≤ length xs → take 2 (drop k xs) ≡ get_or xs k 0 ∷ get_or xs (k + 1) 0 ∷ []
two_at xs k le =
    ap (take 2) (drop_more xs k 0 (omega (arith, le)) ∙ ap (λ l. get_or xs k 0 ∷ l) (drop_more xs (k + 1) 0 (omega (arith, le))))

four_at : (xs : List ℕ) (k : ℕ) → k + 4 ≤ length xs → take 4 (drop k xs) ≡ get_or xs k 0 ∷ get_or xs (k + 1) 0 ∷ get_or xs (k + 1 + 1) 0 ∷ get_or xs (k + 1 + 1 + 1) 0 ∷ []
four_at xs k le =
    ap (take 4)
    (drop_more xs k 0 (omega (arith, le))
    ∙ ap (λ l. get_or xs k 0 ∷ l) (drop_more xs (k + 1) 0 (omega (arith, le))
    ∙ ap (λ l. get_or xs (k + 1) 0 ∷ l) (drop_more xs (k + 1 + 1) 0 (omega (arith, le))
    ∙ ap (λ l. get_or xs (k + 1 + 1) 0 ∷ l) (drop_more xs (k + 1 + 1 + 1) 0 (omega (arith, le))))))

two_same : (a b c d : ℕ) → a ≡ c → b ≡ d → a ∷ b ∷ [] ≡ c ∷ d ∷ []
two_same a b c d e f = ap (λ x. x ∷ b ∷ []) e ∙ ap (λ x. c ∷ x ∷ []) f

pub nops_are : (count : ℕ) → (xs : List ℕ) → length xs ≡ count → ((k : ℕ) → k < count → get_or xs k 0 ≡ nop_byte count k) → AreNops xs
nops_are count xs size byte_at =
    record {
      words = λ i le.
          let k : ℕ = 4 * i in
          let in_all : k + 4 ≤ count = omega (arith, le, size) in
          let a = byte_at k (omega (arith, in_all)) ∙ first_byte count k (omega arith) in_all in
          let b = byte_at (k + 1) (omega (arith, in_all)) ∙ zero_byte count (k + 1) (λ e. omega (arith, e)) in
          let c = byte_at (k + 1 + 1) (omega (arith, in_all)) ∙ zero_byte count (k + 1 + 1) (λ e. omega (arith, e)) in
          let d = byte_at (k + 1 + 1 + 1) (omega (arith, in_all)) ∙ zero_byte count (k + 1 + 1 + 1) (λ e. omega (arith, e)) in
          let is : take 4 (drop k xs) ≡ 0x13 ∷ 0 ∷ 0 ∷ 0 ∷ [] =
          four_at xs k le
          ∙ ap (λ x. x ∷ get_or xs (k + 1) 0 ∷ get_or xs (k + 1 + 1) 0 ∷ get_or xs (k + 1 + 1 + 1) 0 ∷ []) a
          ∙ ap (λ x. 0x13 ∷ x ∷ get_or xs (k + 1 + 1) 0 ∷ get_or xs (k + 1 + 1 + 1) 0 ∷ []) b
          ∙ ap (λ l. 0x13 ∷ 0 ∷ l) (two_same _ _ 0 0 c d) in
          subst IsNop (sym (ap (little_number 4) is)) (record { opcode = refl; rd = refl; funct3 = refl; rs1 = refl; immediate = refl });
      last = λ i at_end.
          let k : ℕ = 4 * i in
          let end : k + 2 ≡ count = at_end ∙ size in
          let a = byte_at k (omega (arith, end)) ∙ short_byte count k (omega arith) (omega (arith, end)) in
          let b = byte_at (k + 1) (omega (arith, end)) ∙ zero_byte count (k + 1) (λ e. omega (arith, e)) in
          let is : take 2 (drop k xs) ≡ 0x01 ∷ 0 ∷ [] = two_at xs k (omega (arith, at_end)) ∙ two_same _ _ 0x01 0 a b in
          subst IsShortNop (sym (ap (little_number 2) is)) (record { quadrant = refl; immediate = refl; rd = refl; sign = refl; funct3 = refl });
    }
