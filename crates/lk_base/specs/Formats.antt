-- Which bits of a place hold which bits of a value: the immediate of each instruction format (unprivileged manual,
-- "Immediate Encoding Variants" and "Compressed Instruction Formats"), and the plain numbers (RISC-V ELF psABI,
-- "Relocations"). A line names the bits of the place from the highest down.
use Rattle.std.specs.Prelude.{List, [], ◌∷◌}
use Rattle.lk_base.specs.Fields.{Run, run}
use Rattle.lk_base.specs.declared.relocations.Format.{Format}
use Rattle.lk_base.specs.declared.relocations.Format.TheVariants.{Empty, U, I, S, B, J, Cb, Cj, Call, Byte, Half, Word, Doubleword, LowSix}

-- U (lui, auipc): 31 to 12 are v[31:12]
abbrev pub u_format : List Run
u_format = run 31 12 12 ∷ []

-- I (addi, loads, jalr): 31 to 20 are v[11:0]
abbrev pub i_format : List Run
i_format = run 31 20 0 ∷ []

-- S (stores): 31 to 25 are v[11:5], 11 to 7 are v[4:0]
abbrev pub s_format : List Run
s_format = run 31 25 5 ∷ run 11 7 0 ∷ []

-- B (branches): 31 is v[12], 30 to 25 are v[10:5], 11 to 8 are v[4:1], 7 is v[11]
abbrev pub b_format : List Run
b_format = run 31 31 12 ∷ run 30 25 5 ∷ run 11 8 1 ∷ run 7 7 11 ∷ []

-- J (jal): 31 is v[20], 30 to 21 are v[10:1], 20 is v[11], 19 to 12 are v[19:12]
abbrev pub j_format : List Run
j_format = run 31 31 20 ∷ run 30 21 1 ∷ run 20 20 11 ∷ run 19 12 12 ∷ []

-- CB (c.beqz, c.bnez): 12 is v[8], 11 to 10 are v[4:3], 6 to 5 are v[7:6], 4 to 3 are v[2:1], 2 is v[5]
abbrev pub cb_format : List Run
cb_format = run 12 12 8 ∷ run 11 10 3 ∷ run 6 5 6 ∷ run 4 3 1 ∷ run 2 2 5 ∷ []

-- CJ (c.j): 12 is v[11], 11 is v[4], 10 to 9 are v[9:8], 8 is v[10], 7 is v[6], 6 is v[7], 5 to 3 are v[3:1], 2 is v[5]
abbrev pub cj_format : List Run
cj_format =
    run 12 12 11 ∷ run 11 11 4 ∷ run 10 9 8 ∷ run 8 8 10 ∷ run 7 7 6 ∷ run 6 6 7 ∷ run 5 3 1 ∷ run 2 2 5 ∷ []

-- the place's first 6, 8, 16, 32 or 64 bits are those of v
abbrev pub low_six : List Run
low_six = run 5 0 0 ∷ []

abbrev pub whole_8 : List Run
whole_8 = run 7 0 0 ∷ []

abbrev pub whole_16 : List Run
whole_16 = run 15 0 0 ∷ []

abbrev pub whole_32 : List Run
whole_32 = run 31 0 0 ∷ []

abbrev pub whole_64 : List Run
whole_64 = run 63 32 32 ∷ run 31 0 0 ∷ []

-- I in the second word of two: 63 to 52 are v[11:0]
abbrev pub second_i_format : List Run
second_i_format = run 63 52 0 ∷ []

-- A field: the runs that are taken from the value, and those that are taken from the value + 0x800. An upper part
-- is of the second sort, since the lower twelve bits that an instruction adds to it count as signed.
pub record Field : Type 0 where
  pub plain : List Run
  pub rounded : List Run

abbrev pub plain : List Run → Field
plain runs = record { plain = runs; rounded = [] }

abbrev pub no_bits : Field
no_bits = plain []

abbrev pub upper : Field
upper = record { plain = []; rounded = u_format }

-- auipc and jalr, two words in one place: U in the first, I in the second
abbrev pub upper_and_lower : Field
upper_and_lower = record { plain = second_i_format; rounded = u_format }

-- the field of each of the code's formats
abbrev pub field_of : Format → Field
field_of Empty = no_bits
field_of U = upper
field_of I = plain i_format
field_of S = plain s_format
field_of B = plain b_format
field_of J = plain j_format
field_of Cb = plain cb_format
field_of Cj = plain cj_format
field_of Call = upper_and_lower
field_of Byte = plain whole_8
field_of Half = plain whole_16
field_of Word = plain whole_32
field_of Doubleword = plain whole_64
field_of LowSix = plain low_six
