-- The relocations that lie in so many bytes, of relocations in order.
use Rattle.std.proofs.Common.{◌≡◌, ℕ, zero, suc, ◌-◌, ◌<◌, ◌≤◌, true, false, nat_lt, nat_le, ◌&&◌, cond, List, [], ◌∷◌, length, take, drop, get_or, refl, sym, ap, ◌∙◌, arith}
use Rattle.std.specs.List.{filter}
use Rattle.std.proofs.lemmas.Bool.{and_left, and_right}
use Rattle.std.proofs.lemmas.Bool.Decides.{nat_tests}
use Rattle.lk_tables.specs.declared.objects.Reloc.{Reloc}
use Rattle.lk_tables.specs.Records.{relocs_in}

below : (from end : ℕ) (r : Reloc) → r.offset < from → (nat_le from r.offset && nat_lt r.offset end) ≡ false
below from end r lt = let bad : nat_le from r.offset ≡ false = grind (arith, nat_tests) in and_left (nat_le from r.offset) (nat_lt r.offset end) bad

above : (from end : ℕ) (r : Reloc) → end ≤ r.offset → (nat_le from r.offset && nat_lt r.offset end) ≡ false
above from end r le = let bad : nat_lt r.offset end ≡ false = grind (arith, nat_tests) in and_right (nat_le from r.offset) (nat_lt r.offset end) bad

within : (from end : ℕ) (r : Reloc) → from ≤ r.offset → r.offset < end → (nat_le from r.offset && nat_lt r.offset end) ≡ true
within from end r le lt =
    let low : nat_le from r.offset ≡ true = grind (arith, nat_tests) in
    let high : nat_lt r.offset end ≡ true = grind (arith, nat_tests) in
    rw (low, high) refl

-- the numbers at which they begin and end
between : (xs : List Reloc) (from end start stop : ℕ) → start ≤ stop → stop ≤ length xs →
    ((k : ℕ) (d : Reloc) → k < start → (get_or xs k d).offset < from) → ((k : ℕ) (d : Reloc) → start ≤ k → k < length xs → from ≤ (get_or xs k d).offset) →
    ((k : ℕ) (d : Reloc) → k < stop → (get_or xs k d).offset < end) → ((k : ℕ) (d : Reloc) → stop ≤ k → k < length xs → end ≤ (get_or xs k d).offset) →
    take (stop - start) (drop start xs) ≡ filter (λ r. nat_le from r.offset && nat_lt r.offset end) xs
between [] from end zero zero le most a b p q = refl
between [] from end zero (suc t) le most a b p q = absurd (omega (arith, most))
between [] from end (suc s) zero le most a b p q = absurd (omega (arith, le))
between [] from end (suc s) (suc t) le most a b p q = absurd (omega (arith, most))
between (x ∷ xs) from end (suc s) zero le most a b p q = absurd (omega (arith, le))
between (x ∷ xs) from end (suc s) (suc t) le most a b p q =
    let less : suc t - suc s ≡ t - s = omega arith in
    ap (λ n. take n (drop s xs)) less
    ∙ between xs from end s t (omega (arith, le)) (omega (arith, most))
    (λ k d lt. a (suc k) d (omega (arith, lt))) (λ k d ge lt. b (suc k) d (omega (arith, ge)) (omega (arith, lt)))
    (λ k d lt. p (suc k) d (omega (arith, lt))) (λ k d ge lt. q (suc k) d (omega (arith, ge)) (omega (arith, lt)))
    ∙ sym (ap (λ c. cond c (x ∷ filter (λ r. nat_le from r.offset && nat_lt r.offset end) xs) (filter (λ r. nat_le from r.offset && nat_lt r.offset end) xs)) (below from end x (a 0 x (omega arith))))
between (x ∷ xs) from end zero zero le most a b p q =
    between xs from end 0 0 (omega arith) (omega arith)
    (λ k d lt. absurd (omega (arith, lt))) (λ k d ge lt. b (suc k) d (omega arith) (omega (arith, lt)))
    (λ k d lt. absurd (omega (arith, lt))) (λ k d ge lt. q (suc k) d (omega arith) (omega (arith, lt)))
    ∙ sym (ap (λ c. cond c (x ∷ filter (λ r. nat_le from r.offset && nat_lt r.offset end) xs) (filter (λ r. nat_le from r.offset && nat_lt r.offset end) xs)) (above from end x (q 0 x (omega arith) (omega arith))))
between (x ∷ xs) from end zero (suc t) le most a b p q =
    let more : suc t - 0 ≡ suc (t - 0) = omega arith in
    ap (λ n. take n (x ∷ xs)) more
    ∙ ap (λ l. x ∷ l) (between xs from end 0 t (omega arith) (omega (arith, most))
    (λ k d lt. absurd (omega (arith, lt))) (λ k d ge lt. b (suc k) d (omega arith) (omega (arith, lt)))
    (λ k d lt. p (suc k) d (omega (arith, lt))) (λ k d ge lt. q (suc k) d (omega (arith, ge)) (omega (arith, lt))))
    ∙ sym (ap (λ c. cond c (x ∷ filter (λ r. nat_le from r.offset && nat_lt r.offset end) xs) (filter (λ r. nat_le from r.offset && nat_lt r.offset end) xs)) (within from end x (b 0 x (omega arith) (omega arith)) (p 0 x (omega arith))))

pub part_is : (xs : List Reloc) (from end start stop : ℕ) → start ≤ stop → stop ≤ length xs →
    ((k : ℕ) (d : Reloc) → k < start → (get_or xs k d).offset < from) → ((k : ℕ) (d : Reloc) → start ≤ k → k < length xs → from ≤ (get_or xs k d).offset) →
    ((k : ℕ) (d : Reloc) → k < stop → (get_or xs k d).offset < end) → ((k : ℕ) (d : Reloc) → stop ≤ k → k < length xs → end ≤ (get_or xs k d).offset) →
    take (stop - start) (drop start xs) ≡ relocs_in xs from end
unfolding relocs_in
part_is xs from end start stop le most a b p q = between xs from end start stop le most a b p q

-- they begin before they end
pub starts_first : (xs : List Reloc) (from end start stop : ℕ) (d : Reloc) → from ≤ end → start ≤ length xs →
    ((k : ℕ) (d : Reloc) → k < start → (get_or xs k d).offset < from) → ((k : ℕ) (d : Reloc) → stop ≤ k → k < length xs → end ≤ (get_or xs k d).offset) →
    (stop < start → ⊥)
starts_first xs from end start stop d le most a q = λ lt.
    omega (arith, le, a stop d lt, q stop d (omega arith) (omega (arith, lt, most)))
