-- Where a patched branch, jump or call goes: its place as the processor reads it (unprivileged manual, "Control
-- Transfer Instructions", auipc in "Integer Register-Immediate Instructions", and "RVC Control Transfer
-- Instructions").
use Rattle.std.specs.Prelude.{◌≡◌, ℕ, ◌-◌, ◌^◌, ℤ, pos, ◌+ℤ◌, ◌-ℤ◌, ◌⊎◌, nat_lt, if◌then◌else◌, List}
use Rattle.lk_base.specs.Formats.{j_format, b_format, cb_format, cj_format, u_format, second_i_format}
use Rattle.lk_base.specs.declared.abi.TheConstants.{R_RISCV_BRANCH, R_RISCV_JAL, R_RISCV_CALL, R_RISCV_CALL_PLT, R_RISCV_RVC_BRANCH, R_RISCV_RVC_JUMP}
use Rattle.rv_code.specs.Places.{number_of, held_in}

-- a number of n bits as two's complement
abbrev pub signed : ℕ → ℕ → ℤ
signed n x = if nat_lt x (2 ^ (n - 1)) then pos x else (pos x -ℤ pos (2 ^ n))

-- What the processor adds to the address of the place. A call is two instructions: auipc adds its upper part, and
-- jalr the signed part in the next word.
pub record Goes (number : ℕ) (v : ℤ) (place : List ℕ) : Type 0 where
  pub branch : number ≡ R_RISCV_BRANCH → signed 13 (held_in b_format (number_of place)) ≡ v
  pub jump : number ≡ R_RISCV_JAL → signed 21 (held_in j_format (number_of place)) ≡ v
  pub call : (number ≡ R_RISCV_CALL) ⊎ (number ≡ R_RISCV_CALL_PLT)
      → signed 32 (held_in u_format (number_of place)) +ℤ signed 12 (held_in second_i_format (number_of place)) ≡ v
  pub short_branch : number ≡ R_RISCV_RVC_BRANCH → signed 9 (held_in cb_format (number_of place)) ≡ v
  pub short_jump : number ≡ R_RISCV_RVC_JUMP → signed 12 (held_in cj_format (number_of place)) ≡ v
