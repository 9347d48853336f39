use Rattle.std.proofs.Common.{◌≡◌, ◌/◌, ◌%◌, [], ◌∷◌, ◌++◌, append_assoc, refl, ap, sym, ◌∙◌, arith}
use Rattle.map_file.specs.MapText.{hex, low_digit}
use Rattle.map_file.proofs.numbers.push_hex.Goals as goal

pub returns : goal.returns
unfolding hex
returns c =
    let n = c.args.number in
    let one : n / 1 ≡ n = omega arith in
    let last : c.low_digit-16.result ≡ low_digit (n / 1 % 16) = c.low_digit-16.ensures ∙ ap (λ k. low_digit (k % 16)) (sym one) in
    let digits : c.low_digit.result ∷ c.low_digit-2.result ∷ c.low_digit-3.result ∷ c.low_digit-4.result ∷ c.low_digit-5.result ∷ c.low_digit-6.result ∷ c.low_digit-7.result ∷ c.low_digit-8.result ∷ c.low_digit-9.result ∷ c.low_digit-10.result ∷ c.low_digit-11.result ∷ c.low_digit-12.result ∷ c.low_digit-13.result ∷ c.low_digit-14.result ∷ c.low_digit-15.result ∷ c.low_digit-16.result ∷ [] ≡ hex n =
    (rw c.low_digit.ensures (rw c.low_digit-2.ensures (rw c.low_digit-3.ensures (rw c.low_digit-4.ensures (rw c.low_digit-5.ensures (rw c.low_digit-6.ensures (rw c.low_digit-7.ensures (rw c.low_digit-8.ensures (rw c.low_digit-9.ensures (rw c.low_digit-10.ensures (rw c.low_digit-11.ensures (rw c.low_digit-12.ensures (rw c.low_digit-13.ensures (rw c.low_digit-14.ensures (rw c.low_digit-15.ensures (rw last refl)))))))))))))))) in
    c.in_ok-extend_from_slice.ensures.items ∙ ap (λ l. c.args.text.now.items ++ 32 ∷ l) digits ∙ sym (append_assoc c.args.text.now.items (32 ∷ []) (hex n))
