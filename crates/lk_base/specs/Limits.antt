-- How much one link may read and make: the project's own bounds, under which offsets and numbers fit their fields.
use Rattle.std.specs.Prelude.{ℕ, ◌-◌, ◌^◌, ◌≤◌}
use Rattle.lk_base.specs.declared.defects.Flaw.{Flaw}
use Rattle.lk_base.specs.declared.abi.TheConstants.{FILE_MAX}
use Rattle.lk_base.specs.declared.kinds.TheConstants.{LIMIT}
use Rattle.lk_base.specs.declared.limits.Limits.{Limits}

-- the limits of each link that the command runs
abbrev pub standard : Limits
standard = record {
  file = FILE_MAX;
  files = 2 ^ 24 - 1;
  symbols = 2 ^ 31 - 1;
  sections = 2 ^ 28;
  pieces = 2 ^ 31 - 1;
  outputs = 65000;
  image = 2 ^ 31 - 2 ^ 20;
}

-- no limit is above the standard one
pub record IsWithinStandard (limits : Limits) : Type 0 where
  pub file : limits.file ≤ standard.file
  pub files : limits.files ≤ standard.files
  pub symbols : limits.symbols ≤ standard.symbols
  pub sections : limits.sections ≤ standard.sections
  pub pieces : limits.pieces ≤ standard.pieces
  pub outputs : limits.outputs ≤ standard.outputs
  pub image : limits.image ≤ standard.image

-- the flaw of a file of too many bytes: its place is their number
abbrev pub oversize : ℕ → Flaw
oversize len = record { kind = LIMIT; section = 0; place = len; other = 0 }
