-- The runs of a format as the code holds them.
use Rattle.std.specs.Prelude.{◌-◌, ◌<◌, ◌≤◌, List, map}
use Rattle.lk_base.specs.Fields.{Run, run}
use Rattle.rv_code.specs.declared.parts.Part.{Part}

-- a part that a word of 64 bits can hold, in one shift
pub record IsPart (part : Part) : Type 0 where
  pub ordered : part.low ≤ part.high
  pub within : part.high < 64
  pub short : part.high - part.low < 63
  pub source : part.from < 64

-- a run as the code holds it
abbrev pub run_of : Part → Run
run_of part = run part.high part.low part.from

abbrev pub runs_of : List Part → List Run
runs_of parts = map run_of parts
