-- The records of a section and the checks of its relocations, one after the other.
use Rattle.std.proofs.Common.{◌≡◌, ℕ, List, length, map, sym, ap, ◌∙◌}
use Rattle.std.specs.Prelude.{Result, Ok}
use Rattle.std.specs.List.{range_with_len}
use Rattle.std.specs.List.Sorted.{IsNonDecreasingBy}
use Rattle.std.proofs.lemmas.List.{length-map}
use Rattle.std.proofs.lemmas.List.FromFn.{length-map-range_with_len}
use Rattle.lk_base.specs.declared.defects.Flaw.{Flaw}
use Rattle.lk_base.specs.declared.defects.ReadFault.{ReadFault}
use Rattle.lk_tables.specs.declared.heads.Section.{Section}
use Rattle.lk_tables.specs.declared.objects.Reloc.{Reloc}
use Rattle.lk_tables.specs.Bodies.{rela_of}
use Rattle.lk_tables.specs.Checks.{Fails, checked, from_on, passes}
use Rattle.lk_tables.specs.Objects.{relocs_for}
use Rattle.lk_tables.specs.Sections.{contents_of, section_of}
use Rattle.lk_tables.proofs.Passing.{checked_failed, checked_passed, checked_value, fails_as, first_fails, second_decides}
use Rattle.lk_tables.specs.declared.records.Record.{Record}
use Rattle.lk_tables.specs.Records.{RecordView, count, first_records, record_of, records_of}
use Rattle.eh_frame.specs.RecordChecks.{record_checks}
use Rattle.eh_frame.specs.Sections.{bytes_of, frame_checks, frames_of, stray_checks}
use Rattle.lk_tables.specs.RecordViews.{record_view, record_views}
use Rattle.eh_frame.proofs.Walk.{in_order}

-- what is read of section k, by its header, bytes and relocations as they are found
pub record IsSection (b : List ℕ) (k : ℕ) (s : Section) (contents : List ℕ) (relocs : List Reloc) : Type 0 where
  pub header : s ≡ section_of b k
  pub bytes : contents ≡ contents_of b s
  pub own : relocs ≡ relocs_for b k

abbrev own_checks : (k offset : ℕ) → List ℕ → List Reloc → Result (List RecordView) Flaw
own_checks k offset c relocs = checked (from_on (record_checks k offset c relocs) 0 (count c)) (records_of c relocs)

own_are : (b : List ℕ) (k : ℕ) (s : Section) (contents : List ℕ) (relocs : List Reloc) → IsSection b k s contents relocs →
    own_checks k s.offset contents relocs ≡ own_checks k (section_of b k).offset (bytes_of b k) (relocs_for b k)
own_are b k s contents relocs is =
    ap (λ (r : List Reloc). own_checks k s.offset contents r) is.own
    ∙ ap (λ (c : List ℕ). own_checks k s.offset c (relocs_for b k)) (is.bytes ∙ ap (contents_of b) is.header)
    ∙ ap (λ (t : Section). own_checks k t.offset (bytes_of b k) (relocs_for b k)) is.header

-- a record that is broken
pub records_fail : (b : List ℕ) (k : ℕ) (s : Section) (contents : List ℕ) (relocs : List Reloc) (fault : ReadFault) → IsSection b k s contents relocs →
    Fails fault (own_checks k s.offset contents relocs) → Fails fault (frames_of b k)
unfolding frames_of frame_checks
records_fail b k s contents relocs fault is bad =
    let cs = from_on (record_checks k (section_of b k).offset (bytes_of b k) (relocs_for b k)) 0 (count (bytes_of b k)) in
    let records = records_of (bytes_of b k) (relocs_for b k) in
    fails_as fault (own_checks k s.offset contents relocs) _
    (λ f h. first_fails cs (stray_checks b (bytes_of b k) (rela_of b k)) records f (checked_failed cs records (tt {0}) f (sym (own_are b k s contents relocs is) ∙ h))) bad

-- all records are sound
pub records_are : (k offset : ℕ) (c : List ℕ) (relocs : List Reloc) (slice list : List Record) → slice ≡ list → own_checks k offset c relocs ≡ Ok (record_views list) →
    record_views slice ≡ records_of c relocs
records_are k offset c relocs slice list same passed =
    ap record_views same ∙ checked_value (from_on (record_checks k offset c relocs) 0 (count c)) (records_of c relocs) (record_views list) passed

pub records_rise : (c : List ℕ) (relocs : List Reloc) (list : List Record) → record_views list ≡ records_of c relocs → IsNonDecreasingBy (λ (r : Record). r.from) list
unfolding first_records
records_rise c relocs list are =
    let n : length list ≡ count c =
    sym (length-map list record_view) ∙ ap length are ∙ length-map-range_with_len (record_of c relocs) 0 (count c) in
    in_order c relocs list (are ∙ ap (λ m. map (record_of c relocs) (range_with_len 0 m)) (sym n))

strays_are : (b : List ℕ) (k : ℕ) (s : Section) (contents : List ℕ) (relocs : List Reloc) → IsSection b k s contents relocs →
    stray_checks b contents (rela_of b k) ≡ stray_checks b (bytes_of b k) (rela_of b k)
strays_are b k s contents relocs is = ap (λ (c : List ℕ). stray_checks b c (rela_of b k)) (is.bytes ∙ ap (contents_of b) is.header)

-- a relocation that lies in none
pub strays_fail : (b : List ℕ) (k : ℕ) (s : Section) (contents : List ℕ) (relocs : List Reloc) (list : List Record) (fault : ReadFault) → IsSection b k s contents relocs →
    own_checks k s.offset contents relocs ≡ Ok (record_views list) → Fails fault (passes (stray_checks b contents (rela_of b k))) → Fails fault (frames_of b k)
unfolding frames_of frame_checks
strays_fail b k s contents relocs list fault is passed bad =
    let cs = from_on (record_checks k (section_of b k).offset (bytes_of b k) (relocs_for b k)) 0 (count (bytes_of b k)) in
    let records = records_of (bytes_of b k) (relocs_for b k) in
    let strays = stray_checks b (bytes_of b k) (rela_of b k) in
    let sound : passes cs ≡ Ok (tt {0}) = checked_passed cs records (tt {0}) (record_views list) (sym (own_are b k s contents relocs is) ∙ passed) in
    fails_as fault (passes (stray_checks b contents (rela_of b k))) _
    (λ f h. second_decides cs strays records sound ∙ checked_failed strays (tt {0}) records f (ap passes (sym (strays_are b k s contents relocs is)) ∙ h)) bad

-- none
pub all_read : (b : List ℕ) (k : ℕ) (s : Section) (contents : List ℕ) (relocs : List Reloc) (list : List Record) → IsSection b k s contents relocs →
    own_checks k s.offset contents relocs ≡ Ok (record_views list) → passes (stray_checks b contents (rela_of b k)) ≡ Ok (tt {0}) → frames_of b k ≡ Ok (record_views list)
unfolding frames_of frame_checks
all_read b k s contents relocs list is passed fine =
    let cs = from_on (record_checks k (section_of b k).offset (bytes_of b k) (relocs_for b k)) 0 (count (bytes_of b k)) in
    let records = records_of (bytes_of b k) (relocs_for b k) in
    let strays = stray_checks b (bytes_of b k) (rela_of b k) in
    let own : checked cs records ≡ Ok (record_views list) = sym (own_are b k s contents relocs is) ∙ passed in
    let sound : passes cs ≡ Ok (tt {0}) = checked_passed cs records (tt {0}) (record_views list) own in
    second_decides cs strays records sound
    ∙ checked_passed strays (tt {0}) records (tt {0}) (ap passes (sym (strays_are b k s contents relocs is)) ∙ fine)
    ∙ ap Ok (sym (checked_value cs records (record_views list) own))
