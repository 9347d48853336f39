-- Whole instructions (unprivileged manual, "RV32/64G Instruction Set Listings", "NOP Instruction" and "RVC Instruction Set Listings").
use Rattle.std.specs.Prelude.{◌≡◌, ℕ, ◌+◌, ◌*◌, ◌/◌, ◌%◌, ◌^◌, ◌==◌, ◌≤◌, ℤ, if◌then◌else◌, nat_le, List, length, take, drop}
use Rattle.byteorder.specs.Endian.{little_number}
use Rattle.lk_base.specs.Formats.{j_format, cj_format}
use Rattle.lk_base.specs.Fields.{HoldsField}
use Rattle.lk_base.specs.Arithmetic.{bits_of}
use Rattle.rv_code.specs.Places.{held_in}
use Rattle.rv_code.specs.Transfers.{signed}

-- the register rd of an instruction of four bytes: bits 11 to 7
abbrev pub rd_of : (word : ℕ) → ℕ
rd_of word = word / 2 ^ 7 % 2 ^ 5

-- jal: opcode JAL (0x6f), the register in bits 11 to 7, and a displacement, by which the processor goes. Each bit is said once as that of a word, and
-- opcode and register are read from it again
pub record IsJal (rd : ℕ) (offset : ℤ) (word : ℕ) : Type 0 where
  pub opcode : word % 2 ^ 7 ≡ 0x6f
  pub register : rd_of word ≡ rd
  pub bits : HoldsField j_format 32 (0x6f + rd * 2 ^ 7) (bits_of offset) word
  pub goes : signed 21 (held_in j_format word) ≡ offset

-- c.j: of quadrant 1 and funct3 5, so 0xa001, with a displacement
pub record IsShortJump (offset : ℤ) (word : ℕ) : Type 0 where
  pub quadrant : word % 2 ^ 2 ≡ 1
  pub funct3 : word / 2 ^ 13 % 2 ^ 3 ≡ 5
  pub bits : HoldsField cj_format 16 0xa001 (bits_of offset) word
  pub goes : signed 12 (held_in cj_format word) ≡ offset

-- byte i of so many bytes of nops: nop, 0x00000013, while four bytes are left, then c.nop, 0x0001
abbrev pub nop_byte : (len i : ℕ) → ℕ
nop_byte len i = if i % 4 == 0 then (if nat_le (i + 4) len then 0x13 else 0x01) else 0

-- nop: addi x0, x0, 0, of opcode OP-IMM (0x13)
pub record IsNop (word : ℕ) : Type 0 where
  pub opcode : word % 2 ^ 7 ≡ 0x13
  pub rd : rd_of word ≡ 0
  pub funct3 : word / 2 ^ 12 % 2 ^ 3 ≡ 0
  pub rs1 : word / 2 ^ 15 % 2 ^ 5 ≡ 0
  pub immediate : word / 2 ^ 20 ≡ 0

-- c.nop: c.addi x0, 0, of quadrant 1 and funct3 0
pub record IsShortNop (word : ℕ) : Type 0 where
  pub quadrant : word % 2 ^ 2 ≡ 1
  pub immediate : word / 2 ^ 2 % 2 ^ 5 ≡ 0
  pub rd : word / 2 ^ 7 % 2 ^ 5 ≡ 0
  pub sign : word / 2 ^ 12 % 2 ≡ 0
  pub funct3 : word / 2 ^ 13 ≡ 0

-- bytes that are nops one after the other: words of four bytes, and one of two where two are left
pub record AreNops (bytes : List ℕ) : Type 0 where
  pub words : (i : ℕ) → 4 * i + 4 ≤ length bytes → IsNop (little_number 4 (take 4 (drop (4 * i) bytes)))
  pub last : (i : ℕ) → 4 * i + 2 ≡ length bytes → IsShortNop (little_number 2 (take 2 (drop (4 * i) bytes)))
