-- A body and its unwind records, checked one after the other.
use Rattle.std.proofs.Common.{◌≡◌, ℕ, ◌+◌, ◌<◌, true, false, List, [], ◌∷◌, ◌++◌, length, sym, ap, ◌∙◌, arith}
use Rattle.std.specs.Prelude.{◌&&◌, nat_lt, Ok, Err}
use Rattle.std.specs.Global.{Vec}
use Rattle.std.proofs.lemmas.Bool.{cond-false, cond-true}
use Rattle.std.proofs.lemmas.List.{append-nil, map-append}
use Rattle.lk_base.specs.declared.defects.Flaw.{Flaw}
use Rattle.lk_tables.specs.declared.heads.Section.{Section}
use Rattle.lk_tables.specs.declared.objects.Reloc.{Reloc}
use Rattle.lk_tables.specs.declared.records.Record.{Record}
use Rattle.lk_tables.specs.Checks.{passes}
use Rattle.lk_tables.specs.Files.{File, is_frame_at, no_section, relocs_at, section_at}
use Rattle.lk_tables.specs.Frames.{RecordList, list_view, list_views}
use Rattle.lk_tables.specs.Heads.{head_of}
use Rattle.lk_tables.specs.Objects.{ObjectView, object_checks, object_of, parts_of, relocs_for}
use Rattle.lk_tables.specs.Records.{RecordView, records_of}
use Rattle.lk_tables.specs.RecordViews.{record_views}
use Rattle.lk_tables.specs.Sections.{contents_of, is_frame, section_of}
use Rattle.lk_tables.proofs.Passing.{checked_failed, checked_passed, checked_value, first_fails, second_decides}
use Rattle.eh_frame.specs.Sections.{all_frame_checks, bytes_of, frame_checks, frames_of, section_frames}
use Rattle.eh_frame.proofs.HeadObject.{count_is, relocs_are, section_is}
use Rattle.link_passes.specs.Defects.{body_of}
use Rattle.link_passes.specs.Frames.{list_in}
use Rattle.link_passes.specs.Sources.{with_body}
use Rattle.link_passes.proofs.Opened.{body_is}

-- a body that is broken; one whose unwind records are; one that is read
pub body_fails : (b : List ℕ) (flaw : Flaw) → object_of b ≡ Err flaw → body_of b ≡ Err flaw
unfolding object_of body_of
body_fails b flaw bad =
    first_fails (object_checks b) (all_frame_checks b) (parts_of b) flaw (checked_failed (object_checks b) (parts_of b) (tt {0}) flaw bad)

pub records_fail : (b : List ℕ) (object : ObjectView) (flaw : Flaw) → object_of b ≡ Ok object → passes (all_frame_checks b) ≡ Err flaw → body_of b ≡ Err flaw
unfolding object_of body_of
records_fail b object flaw ok bad =
    second_decides (object_checks b) (all_frame_checks b) (parts_of b) (checked_passed (object_checks b) (parts_of b) (tt {0}) object ok)
    ∙ checked_failed (all_frame_checks b) (tt {0}) (parts_of b) flaw bad

pub body_reads : (b : List ℕ) (object : ObjectView) → object_of b ≡ Ok object → passes (all_frame_checks b) ≡ Ok tt → body_of b ≡ Ok object
unfolding object_of body_of
body_reads b object ok none =
    second_decides (object_checks b) (all_frame_checks b) (parts_of b) (checked_passed (object_checks b) (parts_of b) (tt {0}) object ok)
    ∙ checked_passed (all_frame_checks b) (tt {0}) (parts_of b) (tt {0}) none
    ∙ ap (λ (o : ObjectView). Ok o) (sym (checked_value (object_checks b) (parts_of b) object ok))

-- section k of a file whose head is read
module _ (file : File) (k : ℕ) (head : head_of file.bytes ≡ Ok file.head) (within : k < length file.head.sections) where
  header : section_at file k ≡ section_of file.bytes k
  header = section_is file.bytes file.head k no_section head within

  frame_is : (nat_lt 0 k && is_frame file.bytes (section_of file.bytes k)) ≡ is_frame_at file k
  frame_is = ap (λ (s : Section). nat_lt 0 k && is_frame file.bytes s) (sym header)

  pub none_there : is_frame_at file k ≡ false → passes (section_frames file.bytes k) ≡ Ok tt
  unfolding section_frames
  none_there off =
      ap passes (cond-false (nat_lt 0 k && is_frame file.bytes (section_of file.bytes k)) (frame_checks file.bytes k) [] (frame_is ∙ off))

  own_checks : is_frame_at file k ≡ true → section_frames file.bytes k ≡ frame_checks file.bytes k
  unfolding section_frames
  own_checks on = cond-true (nat_lt 0 k && is_frame file.bytes (section_of file.bytes k)) (frame_checks file.bytes k) [] (frame_is ∙ on)

  pub some_fail : (flaw : Flaw) → is_frame_at file k ≡ true → frames_of file.bytes k ≡ Err flaw → passes (section_frames file.bytes k) ≡ Err flaw
  unfolding frames_of
  some_fail flaw on bad =
      ap passes (own_checks on) ∙ checked_failed (frame_checks file.bytes k) (records_of (bytes_of file.bytes k) (relocs_for file.bytes k)) (tt {0}) flaw bad

  pub some_pass : (list : List RecordView) → is_frame_at file k ≡ true → frames_of file.bytes k ≡ Ok list → passes (section_frames file.bytes k) ≡ Ok tt
  unfolding frames_of
  some_pass list on read =
      ap passes (own_checks on) ∙ checked_passed (frame_checks file.bytes k) (records_of (bytes_of file.bytes k) (relocs_for file.bytes k)) (tt {0}) list read

  -- the lists with that of this section
  pub no_more : (old : List RecordList) → is_frame_at file k ≡ false → old ≡ old ++ list_in (with_body file) k
  no_more old off = sym (append-nil old) ∙ ap (λ (l : List RecordList). old ++ l) (sym (cond-false (is_frame_at file k) _ [] off))

  own_records : (object : ObjectView) (list : List RecordView) → object_of file.bytes ≡ Ok object → frames_of file.bytes k ≡ Ok list →
      list ≡ records_of (contents_of file.bytes (section_at file k)) (relocs_at (with_body file) k)
  unfolding frames_of
  own_records object list ok read =
      let b = file.bytes in
      let parts : object_of b ≡ Ok (parts_of b) = ok ∙ ap (λ (o : ObjectView). Ok o) (body_is b object ok) in
      let relocs : relocs_at (with_body file) k ≡ relocs_for b k = relocs_are b (parts_of b) k parts (omega (arith, within, count_is b file.head head)) in
      checked_value (frame_checks b k) (records_of (bytes_of b k) (relocs_for b k)) list read
      ∙ ap (λ (rs : List Reloc). records_of (bytes_of b k) rs) (sym relocs)
      ∙ ap (λ (s : Section). records_of (contents_of b s) (relocs_at (with_body file) k)) (sym header)

  pub one_more : (object : ObjectView) (old new : List (ℕ × Vec Record)) (records : Vec Record) → is_frame_at file k ≡ true → object_of file.bytes ≡ Ok object →
      frames_of file.bytes k ≡ Ok (record_views records.items) → new ≡ old ++ (k, records) ∷ [] → list_views new ≡ list_views old ++ list_in (with_body file) k
  one_more object old new records on ok read pushed =
      ap list_views pushed ∙ map-append list_view old ((k, records) ∷ [])
      ∙ ap (λ (rs : List RecordView). list_views old ++ (record { section = k; records = rs }) ∷ []) (own_records object (record_views records.items) ok read)
      ∙ ap (λ (l : List RecordList). list_views old ++ l) (sym (cond-true (is_frame_at file k) _ [] on))
