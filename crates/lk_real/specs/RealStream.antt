-- What is known of a standard stream: which of the two it is and how many writes failed, and nothing of what was written.
use Rattle.std.specs.Prelude.{ℕ, None, Result, Ok, Err}
use Rattle.lk_depot.specs.Faults.{next_count}
use Rattle.lk_depot.specs.Output.{Output as Written}
use Rattle.lk_real.specs.declared.std_sink.Opened.{Opened}
use Rattle.lk_real.specs.declared.std_sink.Opened.TheVariants as opened
use Rattle.lk_real.specs.declared.std_sink.Stream.{Stream}
use Rattle.lk_real.specs.declared.std_sink.Stream.TheVariants.{Output, Error}

-- `faults` counts the puts that failed.
pub record RealStream : Type 0 where
  pub stream : Stream
  pub faults : ℕ

-- The stream to which a sink may write.
abbrev pub stream_of : Opened → Stream
stream_of (opened.Output _) = Output
stream_of (opened.Error _) = Error

-- What it means as a sink: it does not show what was written.
abbrev pub output_of : RealStream → Written
output_of real = record { written = None; faults = real.faults }

-- A put that fails counts. No put changes the stream.
abbrev pub after_put : {T E : Type 0} → RealStream → Result T E → RealStream
after_put real (Ok _) = real
after_put real (Err _) = record real { faults = next_count real.faults }
