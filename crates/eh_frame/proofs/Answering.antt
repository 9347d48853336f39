-- What an answer says of a section's records.
use Rattle.std.proofs.Common.{◌≡◌, ℕ, List, sym, ap, ◌∙◌}
use Rattle.std.specs.Prelude.{Ok, Err}
use Rattle.lk_base.specs.declared.defects.Flaw.{Flaw}
use Rattle.lk_tables.specs.Checks.{IsFirstBroken}
use Rattle.lk_tables.specs.Objects.{relocs_for}
use Rattle.lk_tables.proofs.Passing.{err_from_first, ok_from_none}
use Rattle.lk_tables.specs.Records.{RecordView, records_of}
use Rattle.eh_frame.specs.Sections.{FramesOf, bytes_of, frame_checks, frames_of}

pub read_as : (b : List ℕ) (k : ℕ) (list : List RecordView) → FramesOf b k list → frames_of b k ≡ Ok list
unfolding frames_of
read_as b k list h = ok_from_none (frame_checks b k) (records_of (bytes_of b k) (relocs_for b k)) h.sound ∙ ap Ok (sym h.parts)

pub refused_as : (b : List ℕ) (k : ℕ) (flaw : Flaw) → IsFirstBroken (frame_checks b k) flaw → frames_of b k ≡ Err flaw
unfolding frames_of
refused_as b k flaw h = err_from_first (frame_checks b k) (records_of (bytes_of b k) (relocs_for b k)) flaw h
