-- A list among lists one after the other, by where each starts.
use Rattle.std.proofs.Common.{◌≡◌, ℕ, zero, suc, ◌+◌, ◌-◌, ◌<◌, ◌≤◌, List, [], ◌∷◌, ◌++◌, length, take, drop, get_or, slice_index, min, refl, ap, ◌∙◌, arith}
use Rattle.std.proofs.Math.Seq.{drop-append-add, take-append_seam}
use Rattle.std.proofs.lemmas.List.{length-append, length-drop}
use Rattle.lk_tables.specs.declared.objects.Reloc.{Reloc}
use Rattle.lk_tables.specs.declared.uppers.Uppers.{Uppers}
use Rattle.lk_tables.specs.Uppers.{AreListed, joined}

abbrev start : {X : Type 0} → List (List X) → ℕ → ℕ
start lists n = length (joined (take n lists))

start_most : {X : Type 0} (lists : List (List X)) (n : ℕ) → start lists n ≤ length (joined lists)
start_most [] zero = omega arith
start_most [] (suc n) = omega arith
start_most (l ∷ ls) zero = omega arith
start_most (l ∷ ls) (suc n) = omega (arith, length-append l (joined (take n ls)), length-append l (joined ls), start_most ls n)

-- what stands from the start of a list up to that of the next one
cut_list : {X : Type 0} (lists : List (List X)) (n a b : ℕ) → n < length lists → a ≡ start lists n → b ≡ start lists (suc n) →
    take (b - a) (drop a (joined lists)) ≡ get_or lists n []
cut_list [] n a b lt first next = absurd (omega (arith, lt))
cut_list (l ∷ ls) zero a b lt first next =
    let none : a ≡ 0 = omega (arith, first) in
    let long : b - a ≡ length l = omega (arith, first, next, length-append l []) in
    ap (λ k. take k (drop a (l ++ joined ls))) long ∙ ap (λ k. take (length l) (drop k (l ++ joined ls))) none ∙ take-append_seam l (joined ls)
cut_list (l ∷ ls) (suc n) a b lt first next =
    let c : ℕ = start ls n in
    let d : ℕ = start ls (suc n) in
    let low : a ≡ length l + c = omega (arith, first, length-append l (joined (take n ls))) in
    let high : b ≡ length l + d = omega (arith, next, length-append l (joined (take (suc n) ls))) in
    let wide : b - a ≡ d - c = omega (arith, low, high) in
    ap (λ k. take k (drop a (l ++ joined ls))) wide ∙ ap (λ k. take (d - c) (drop k (l ++ joined ls))) low
    ∙ ap (take (d - c)) (drop-append-add l (joined ls) c) ∙ cut_list ls n c d (omega (arith, lt)) refl refl

-- the list of a number, as the code reads it
pub read_list : (lists : List (List Reloc)) (u : Uppers) (n next from count : ℕ) (rest own : List Reloc) → AreListed lists u → n < length lists → next ≡ n + 1 →
    from ≡ min (slice_index u.firsts.items n) (length u.list.items) → rest ≡ drop from u.list.items →
    count ≡ min (slice_index u.firsts.items next - from) (length rest) → own ≡ take count rest → own ≡ get_or lists n []
read_list lists u n next from count rest own listed lt after from_is rest_is count_is own_is =
    let all = listed.all in
    let long = ap length all in
    let low : from ≡ start lists n = omega (arith, from_is, listed.firsts n (omega (arith, lt)), long, start_most lists n) in
    let up : next ≡ suc n = omega (arith, after) in
    let high : slice_index u.firsts.items next ≡ start lists (suc n) = ap (slice_index u.firsts.items) up ∙ listed.firsts (suc n) (omega (arith, lt)) in
    let wide = ap length rest_is ∙ length-drop from u.list.items in
    let some : count ≡ start lists (suc n) - start lists n = omega (arith, count_is, low, high, wide, long, start_most lists (suc n), start_most lists n) in
    own_is ∙ ap (take count) (rest_is ∙ ap (drop from) all) ∙ ap (λ k. take k (drop from (joined lists))) some
    ∙ ap (λ k. take (start lists (suc n) - start lists n) (drop k (joined lists))) low
    ∙ cut_list lists n (start lists n) (start lists (suc n)) lt refl refl
