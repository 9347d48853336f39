-- Zero-ended names: the first zero byte by a search, and as a position.
use Rattle.std.proofs.Common.{◌≡◌, ℕ, ◌<◌, List, length, Option, Some, None, position, arith}
use Rattle.std.specs.List.{position_or_len}
use Rattle.std.proofs.lemmas.List.Sums.{position_or_len_is}
use Rattle.std.proofs.lemmas.Bool.{false_from_ne_true}
use Rattle.std.proofs.lemmas.Bool.Decides.{nat_tests}
use Rattle.memchr.specs.Find.{IsFirstByte, is_byte}
use Rattle.lk_tables.specs.Names.{is_zero}

-- the first zero byte is the position of the first zero
pub position_is : (xs : List ℕ) (r : Option ℕ) → IsFirstByte (is_byte 0) xs r → r ≡ position is_zero xs
position_is xs None nowhere =
    let at_end : position_or_len is_zero xs ≡ length xs =
    position_or_len_is is_zero xs (length xs) 0 (omega arith)
    (λ k lt. false_from_ne_true _ (nowhere k (omega arith) lt))
    (λ lt. absurd (omega arith)) in
    rw at_end (grind (arith, nat_tests))
position_is xs (Some k) found =
    let below : k < length xs = found.0.high in
    let at_k : position_or_len is_zero xs ≡ k =
    position_or_len_is is_zero xs k 0 (omega arith)
    (λ j lt. false_from_ne_true _ (found.0.before j (omega arith) lt))
    (λ lt. found.1) in
    rw at_k (grind (arith, nat_tests))
