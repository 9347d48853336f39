-- Which relocations of one record kept functions need, by the place of that record in its section's list.
use Rattle.std.specs.Prelude.{ℕ, ◌<◌, ◌≤◌, ◌&&◌, Bool, is_some, if◌then◌else◌, List, length, slice_index_or}
use Rattle.std.specs.List.{list_any}
use Rattle.lk_tables.specs.declared.objects.Reloc.{Reloc}
use Rattle.lk_tables.specs.Binding.{Bindings}
use Rattle.lk_tables.specs.Files.{File}
use Rattle.lk_tables.specs.Frames.{is_number, no_record, owner_in}
use Rattle.lk_tables.specs.Records.{RecordView}
use Rattle.sec_graph.specs.FrameRelocs.{has_reloc, others}
use Rattle.sec_graph.specs.Undefined.{is_kept_owner}

-- so many of the records start at an offset or before it, and no others do
pub record IsCountUpto (records : List RecordView) (offset count : ℕ) : Type 0 where
  pub bound : count ≤ length records
  pub upto : (k : ℕ) (d : RecordView) → k < count → (slice_index_or records k d).from ≤ offset
  pub past : (k : ℕ) (d : RecordView) → count ≤ k → k < length records → offset < (slice_index_or records k d).from

abbrev pub record_in : List RecordView → (at : ℕ) → RecordView
record_in records at = slice_index_or records at no_record

module _ (files : List File) (b : Bindings) (kept : List Bool) (f : ℕ) where
  -- an FDE of a kept function has the CIE of a number
  abbrev pub uses : (cie : ℕ) → RecordView → Bool
  uses cie r = is_number r.cie cie && is_kept_owner kept (owner_in files b f r)

  abbrev pub is_used : List RecordView → (cie : ℕ) → Bool
  is_used records cie = list_any (uses cie) records

  -- relocation r of record number `at`
  unfoldable pub needs : List RecordView → (at : ℕ) → Reloc → Bool
  needs records at r = if is_some (record_in records at).cie
      then has_reloc (others (record_in records at).relocs) r && is_kept_owner kept (owner_in files b f (record_in records at))
      else has_reloc (record_in records at).relocs r && is_used records at
