use Rattle.std.proofs.Common.{◌≡◌, ◌+◌, ◌*◌, ◌%◌, ◌^◌, arith, subst, ℤ, to_z, of_z}
use Rattle.std.specs.Int.{w128}
use Rattle.std.proofs.lemmas.Int.{ints}
use Rattle.byteorder.specs.Endian.{little_number}
use Rattle.lk_base.specs.declared.abi.TheConstants.{R_RISCV_JAL}
use Rattle.lk_base.specs.RelocKinds.{kind_of}
use Rattle.rv_code.specs.Places.{HoldsValue}
use Rattle.rv_code.specs.Transfers.{Goes}
use Rattle.rv_code.proofs.JumpWords.{jal_word}
use Rattle.rv_code.proofs.instructions.jal.Goals as goal

pub returns : goal.returns
returns c =
    let same : to_z w128 (of_z w128 c.from.result) ≡ c.args.offset = omega (arith, ints, c.from.ensures) in
    let read : c.from_le_bytes.result ≡ little_number 4 c.patch.new.place = omega (arith, c.from_le_bytes.ensures) in
    let base : 0x6f + c.args.rd * 128 % 2 ^ 32 ≡ 0x6f + c.args.rd * 2 ^ 7 = omega (arith, c.requires.register) in
    jal_word c.args.rd (0x6f + c.args.rd * 128 % 2 ^ 32) c.from_le_bytes.result c.args.offset c.to_le_bytes-bytes.result c.patch.new.place
    c.requires.register base c.to_le_bytes-bytes.ensures
    (subst (λ (v : ℤ). HoldsValue (kind_of R_RISCV_JAL).field c.to_le_bytes-bytes.result v c.patch.new.place) same c.patch.ensures.field)
    (subst (λ (v : ℤ). Goes R_RISCV_JAL v c.patch.new.place) same c.patch.ensures.goes)
    read
