use Rattle.std.proofs.Common.{◌≡◌, ℕ, ◌+ℤ◌, pos, ◌%◌, ◌+◌, ◌^◌, ◌∙◌, ap, List}
use Rattle.std.specs.Int.{bit_at}
use Rattle.std.proofs.lemmas.Int.{to_z-of_z}
use Rattle.lk_base.specs.Fields.{Run, field_bit}
use Rattle.lk_base.specs.Formats.{field_of}
use Rattle.lk_base.specs.Arithmetic.{bits_of}
use Rattle.rv_code.proofs.WholePlaces.{placed_is, rounded_bits}
use Rattle.rv_code.proofs.places.put_value.Goals as goal

pub returns : goal.returns
returns c = λ k.
    let fits = c.ranges.v in
    let bits : c.low_bits-bits.result ≡ bits_of c.args.v = simp to_z-of_z at c.low_bits-bits.ensures in
    let above : (c.low_bits-bits.result + 2048) % 2 ^ 64 ≡ bits_of (c.args.v +ℤ pos 0x800) =
    ap (λ (n : ℕ). (n + 2048) % 2 ^ 64) bits ∙ rounded_bits c.args.v in
    let lower : bit_at c.put_all-lower.result k ≡ field_bit (field_of c.args.format).plain c.args.word (bits_of c.args.v) k =
    c.put_all-lower.ensures k
    ∙ ap (λ (rs : List Run). field_bit rs c.args.word c.low_bits-bits.result k) c.plain_parts.ensures.runs
    ∙ ap (λ (n : ℕ). field_bit (field_of c.args.format).plain c.args.word n k) bits in
    let upper =
    c.put_all.ensures k
    ∙ ap (λ (rs : List Run). field_bit rs c.put_all-lower.result ((c.low_bits-bits.result + 2048) % 2 ^ 64) k) c.rounded_parts.ensures.runs
    ∙ ap (λ (n : ℕ). field_bit (field_of c.args.format).rounded c.put_all-lower.result n k) above in
    placed_is (field_of c.args.format).rounded (field_of c.args.format).plain c.args.word c.put_all-lower.result c.put_all.result c.args.v k lower upper
