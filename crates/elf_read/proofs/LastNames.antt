-- A name that starts in another one ends where it does.
use Rattle.std.proofs.Common.{◌≡◌, ℕ, ◌+◌, ◌-◌, ◌<◌, ◌≤◌, List, length, get_or, take, drop, Some, position, sym, ap, ◌∙◌, arith}
use Rattle.std.specs.List.{position_or_len}
use Rattle.std.proofs.lemmas.List.{drop-drop, drop-take, get_or-drop, length-drop}
use Rattle.std.proofs.lemmas.List.Sums.{position_or_len_is}
use Rattle.std.proofs.lemmas.List.Quantifiers.{position-Some}
use Rattle.std.proofs.lemmas.Bool.Decides.{nat_tests}
use Rattle.std.proofs.lemmas.Grind.{common_steps}
use Rattle.lk_tables.specs.Names.{is_zero, name_len}

position_later : (xs : List ℕ) (n k : ℕ) → position is_zero xs ≡ Some n → k ≤ n → position is_zero (drop k xs) ≡ Some (n - k)
position_later xs n k e le =
    let p = position-Some is_zero xs n 0 e in
    let long : length (drop k xs) ≡ length xs - k = length-drop k xs in
    let here : position_or_len is_zero (drop k xs) ≡ n - k =
    position_or_len_is is_zero (drop k xs) (n - k) 0 (omega (arith, long, p.0))
    (λ j lt. ap is_zero (get_or-drop k xs j 0) ∙ p.2 (k + j) (omega arith))
    (λ lt. let same : k + (n - k) ≡ n = omega arith in
    ap is_zero (get_or-drop k xs (n - k) 0) ∙ ap (λ m. is_zero (get_or xs m 0)) same ∙ p.1) in
    rw here (grind (arith, nat_tests, long, p.0))

pub later_len : (b : List ℕ) (from size at len next : ℕ) → name_len b from size at ≡ Some len → at ≤ next → next ≤ at + len → name_len b from size next ≡ Some (at + len - next)
unfolding name_len
later_len b from size at len next e low high =
    let rest = drop (from + at) b in
    let bound : len < length (take (size - at) rest) = (position-Some is_zero (take (size - at) rest) len 0 e).0 in
    let short : len < size - at = grind (arith, common_steps, bound) in
    let k = next - at in
    let parts : size - at ≡ k + (size - next) = omega (arith, short) in
    let on : from + at + k ≡ from + next = omega arith in
    let tail : drop k (take (size - at) rest) ≡ take (size - next) (drop (from + next) b) =
    ap (λ n. drop k (take n rest)) parts ∙ drop-take k (size - next) rest
    ∙ ap (take (size - next)) (drop-drop k (from + at) b ∙ ap (λ n. drop n b) on) in
    let left : len - k ≡ at + len - next = omega (arith, low, high) in
    ap (position is_zero) (sym tail) ∙ position_later (take (size - at) rest) len k e (omega (arith, low, high)) ∙ ap Some left
