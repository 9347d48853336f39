use Rattle.std.proofs.Common.{◌≡◌, ◌∙◌, arith}
use Rattle.std.proofs.lemmas.Int.{to_z-of_z}
use Rattle.byteorder.proofs.Bytes.{take-bytes_low_first}
use Rattle.lk_base.specs.Arithmetic.{bits_of}
use Rattle.lk_base.specs.RelocKinds.{kind_of}
use Rattle.eh_frame.proofs.WholeNumbers.{whole_word}
use Rattle.eh_frame.proofs.relocating.put_word.Goals as goal

pub returns : goal.returns
returns c =
    let fits = c.ranges.v in
    let bits : c.low_bits-bits.result ≡ bits_of c.args.v = simp to_z-of_z at c.low_bits-bits.ensures in
    let bytes = rw c.to_le_bytes.ensures at c.copy_from_slice.ensures.after in
    bytes ∙ take-bytes_low_first 0 8 4 c.low_bits-bits.result (omega arith)
    ∙ whole_word (kind_of c.args.kind).field c.args.v c.args.place.now c.low_bits-bits.result c.requires.four (c.is_word.ensures c.if-not-is_word.false) bits
