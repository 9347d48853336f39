-- The unwind records of a link: each list is that of a section of a file that takes part, they stand in order, and each record lies in its section.
use Rattle.std.proofs.Common.{◌≡◌, ℕ, zero, suc, ◌+◌, ◌-◌, ◌<◌, ◌≤◌, Bool, true, false, List, [], ◌∷◌, length, map, flat_map, drop, refl, sym, ap, ◌∙◌, subst, arith}
use Rattle.std.specs.Prelude.{◌&&◌, nat_lt, if◌then◌else◌}
use Rattle.std.specs.List.{All, AllByRecursion, range_with_len}
use Rattle.std.proofs.lemmas.Bool.{cond-true}
use Rattle.std.proofs.lemmas.List.{length-drop, length-take}
use Rattle.std.proofs.lemmas.List.Elements.{All-from_recursion}
use Rattle.lk_tables.specs.declared.heads.Section.{Section}
use Rattle.lk_tables.specs.declared.section_places.SectionPlace.{SectionPlace}
use Rattle.lk_tables.specs.Checks.{NoneBroken}
use Rattle.lk_tables.specs.FileHeader.{section_count as header_count}
use Rattle.lk_tables.specs.Files.{File, IsSound, file_at, first_section, is_frame_at, no_section, relocs_at, section_at, section_count, section_no}
use Rattle.lk_tables.specs.Frames.{AreInOrder, AreListsWithin, IsListWithin, IsRecordWithin, RecordList, all_lists, list_at}
use Rattle.lk_tables.specs.Records.{RecordView, records_of}
use Rattle.lk_tables.specs.Sections.{contents_of, is_frame, section_of}
use Rattle.lk_tables.specs.Sites.{contents_at, place_of}
use Rattle.lk_tables.specs.Walks.{over_file, over_live}
use Rattle.lk_tables.proofs.FirstNumbers.{section_more, section_upto, section_within}
use Rattle.lk_tables.proofs.LiveFiles.{counted}
use Rattle.lk_tables.proofs.Owners.{IsOwner, place_is}
use Rattle.lk_tables.proofs.Passing.{each, none_from_ok, ok_from_none}
use Rattle.eh_frame.specs.FrameLaws.{ArePlain, HasPlain}
use Rattle.eh_frame.specs.Sections.{all_frame_checks, bytes_of, frame_checks, section_frames}
use Rattle.eh_frame.proofs.HeadObject.{count_is, relocs_are, section_is}
use Rattle.eh_frame.proofs.PlainRecords.{records_plain}
use Rattle.eh_frame.proofs.Within.{few_records, records_within}
use Rattle.lk_tables.specs.Objects.{relocs_for}
use Rattle.link_passes.proofs.Rising.{AreBelow, Up, all_append, all_weaker, number_walk, one_all, one_up, read_up, up_if, up_map}

-- a list is that of a section of file f
pub record IsListOf (files : List File) (f : ℕ) (l : RecordList) : Type 0 where
  pub file : f < length files
  pub live : (file_at files f).live ≡ true
  pub index : ℕ
  pub within : index < length (file_at files f).head.sections
  pub frame : is_frame_at (file_at files f) index ≡ true
  pub section : l.section ≡ section_no files f index
  pub records : l.records ≡ records_of (contents_of (file_at files f).bytes (section_at (file_at files f) index)) (relocs_at (file_at files f) index)

pub record IsKnownList (files : List File) (l : RecordList) : Type 0 where
  pub of : ℕ
  pub is : IsListOf files of l

if_one : {X : Type 0} (P : X → Type 0) (on : Bool) (x : X) → (on ≡ true → P x) → AllByRecursion P (if on then x ∷ [] else [])
if_one P true x here = (here refl, tt)
if_one P false x here = tt

if_on : {X : Type 0} (P : X → Type 0) (on : Bool) (xs : List X) → (on ≡ true → AllByRecursion P xs) → AllByRecursion P (if on then xs else [])
if_on P true xs each_of = each_of refl
if_on P false xs each_of = tt

all_given : {X : Type 0} (L : Type 0) (Q : X → Type 0) (xs : List X) → (L → AllByRecursion Q xs) → AllByRecursion (λ x. L → Q x) xs
all_given L Q [] each_of = tt
all_given L Q (x ∷ xs) each_of = ((λ given. (each_of given).0), all_given L Q xs (λ given. (each_of given).1))

module _ (files : List File) where
  index_lists : (f : ℕ) → f < length files → (file_at files f).live ≡ true → (count i : ℕ) → i + count ≤ length (file_at files f).head.sections →
      AllByRecursion (IsListOf files f) (flat_map (list_at files f) (range_with_len i count))
  index_lists f lt live zero i le = tt
  index_lists f lt live (suc count) i le =
      all_append (IsListOf files f) (list_at files f i) (flat_map (list_at files f) (range_with_len (i + 1) count))
      (if_one (IsListOf files f) (is_frame_at (file_at files f) i) _
      (λ on. record { file = lt; live = live; index = i; within = omega (arith, le); frame = on; section = refl; records = refl }))
      (index_lists f lt live count (i + 1) (omega (arith, le)))

  abbrev OfFile : (f : ℕ) → RecordList → Type 0
  OfFile f l = f < length files → IsListOf files f l

  file_lists : (f : ℕ) → AllByRecursion (OfFile f) (over_file files (list_at files) f)
  unfolding over_file
  file_lists f =
      if_on (OfFile f) (file_at files f).live _ (λ live.
      all_given (f < length files) (IsListOf files f) _
      (λ lt. index_lists f lt live (length (file_at files f).head.sections) 0 (omega arith)))

  abbrev SectionsUp : (l m : RecordList) → Type 0
  SectionsUp l m = l.section < m.section

  abbrev OfIndex : (f k : ℕ) → RecordList → Type 0
  OfIndex f k l = l.section ≡ section_no files f k

  file_up : (f : ℕ) → Up SectionsUp (over_file files (list_at files) f)
  unfolding over_file
  file_up f =
      up_if SectionsUp (file_at files f).live _ []
      (number_walk (length (file_at files f).head.sections) SectionsUp (OfIndex f) (λ j k l m lt here there. omega (arith, lt.0, here, there))
      (list_at files f) (λ k. one_all (OfIndex f k) (is_frame_at (file_at files f) k) _ refl) (λ k. one_up SectionsUp (is_frame_at (file_at files f) k) _)) tt

  files_apart : (f g : ℕ) (l m : RecordList) → AreBelow (length files) f g → OfFile f l → OfFile g m → SectionsUp l m
  files_apart f g l m lt here there =
      let one = here (omega (arith, lt.0, lt.1)) in
      let two = there lt.1 in
      omega (arith, one.section, one.within, counted (file_at files f) one.live, section_more files f one.file, section_upto files (f + 1) g (omega (arith, lt.0)), two.section)

  lists_up : Up SectionsUp (all_lists files)
  unfolding all_lists over_live
  lists_up = number_walk (length files) SectionsUp OfFile files_apart (over_file files (list_at files)) file_lists file_up

  pub lists_in_order : AreInOrder (all_lists files)
  lists_in_order =
      let sections = map (λ (l : RecordList). l.section) (all_lists files) in
      let up = up_map SectionsUp (λ (x y : ℕ). x < y) (λ (l : RecordList). l.section) (λ l m lt. lt) (all_lists files) lists_up in
      λ k lt. read_up (λ (x y : ℕ). x < y) sections k (k + 1) 0 up (omega arith) lt

  -- those of all files
  known_from : (count f : ℕ) → f + count ≤ length files → AllByRecursion (IsKnownList files) (flat_map (over_file files (list_at files)) (range_with_len f count))
  known_from zero f le = tt
  known_from (suc count) f le =
      all_append (IsKnownList files) (over_file files (list_at files) f) (flat_map (over_file files (list_at files)) (range_with_len (f + 1) count))
      (all_weaker (OfFile f) (IsKnownList files) (over_file files (list_at files) f) (λ l is. record { of = f; is = is (omega (arith, le)) }) (file_lists f))
      (known_from count (f + 1) (omega (arith, le)))

  pub known_lists : AllByRecursion (IsKnownList files) (all_lists files)
  unfolding all_lists over_live
  known_lists = known_from (length files) 0 (omega arith)

  -- the place of a section's number
  pub place_at : (f k : ℕ) → f < length files → k < section_count (file_at files f) → place_of files (section_no files f k) ≡ record { file = f; index = k }
  place_at f k lt within =
      let owner : IsOwner files (section_no files f k) f = record { file = lt; from = omega arith; below = omega (arith, within, section_more files f lt) } in
      let index : section_no files f k - first_section files f ≡ k = omega arith in
      let at : ℕ → SectionPlace = λ i. record { file = f; index = i } in
      place_is files (section_no files f k) f owner ∙ ap at index

  pub place_known : (l : RecordList) (f : ℕ) (is : IsListOf files f l) → place_of files l.section ≡ record { file = f; index = is.index }
  place_known l f is =
      ap (place_of files) is.section ∙ place_at f is.index is.file (omega (arith, is.within, counted (file_at files f) is.live))

-- the bytes of a section are no more than those of its file
contents_short : (b : List ℕ) (s : Section) → length (contents_of b s) ≤ length b
contents_short b s = omega (arith, length-take s.size (drop s.offset b), length-drop s.offset b)

-- the checks of one section
section_sound : (b : List ℕ) (k : ℕ) → k < header_count b → (nat_lt 0 k && is_frame b (section_of b k)) ≡ true → NoneBroken (all_frame_checks b) → NoneBroken (frame_checks b k)
unfolding section_frames
section_sound b k lt on none =
    let whole = ok_from_none (all_frame_checks b) tt none in
    let own = each (section_frames b) 0 (header_count b) k whole (omega arith) lt in
    let sound : NoneBroken (section_frames b k) = none_from_ok (section_frames b k) tt tt own in
    subst NoneBroken (cond-true (nat_lt 0 k && is_frame b (section_of b k)) (frame_checks b k) [] on) sound

-- the records of a sound file's section lie in it
module _ (files : List File) (sound : (f : ℕ) → f < length files → (file_at files f).live ≡ true → IsSound (file_at files f) × NoneBroken (all_frame_checks (file_at files f).bytes)) where
  -- what is read of a list, and that no check of its section is broken
  list_read : (l : RecordList) (known : IsKnownList files l) →
      (l.records ≡ records_of (bytes_of (file_at files known.of).bytes known.is.index) (relocs_for (file_at files known.of).bytes known.is.index))
      × NoneBroken (frame_checks (file_at files known.of).bytes known.is.index)
  list_read l known =
      let is = known.is in
      let file = file_at files known.of in
      let b = file.bytes in
      let k = is.index in
      let ok = (sound known.of is.file is.live).0 in
      let head = section_is b file.head k no_section ok.head is.within in
      let on = ap (λ (s : Section). nat_lt 0 k && is_frame b s) (sym head) ∙ is.frame in
      let within : k < header_count b = omega (arith, is.within, count_is b file.head ok.head) in
      let relocs : relocs_at file k ≡ relocs_for b k = relocs_are b file.object k ok.body within in (
        is.records ∙ ap (λ (s : Section). records_of (contents_of b s) (relocs_at file k)) head ∙ ap (records_of (bytes_of b k)) relocs,
        section_sound b k within on (sound known.of is.file is.live).1,
      )

  list_within : (l : RecordList) → IsKnownList files l → IsListWithin files l
  list_within l known =
      let f = known.of in
      let is = known.is in
      let file = file_at files f in
      let b = file.bytes in
      let k = is.index in
      let ok = (sound f is.file is.live).0 in
      let both = list_read l known in
      let head = section_is b file.head k no_section ok.head is.within in
      let give : SectionPlace → List ℕ = λ p. contents_of (file_at files p.file).bytes (section_at (file_at files p.file) p.index) in
      let contents : contents_at files l.section ≡ bytes_of b k = ap give (place_known files l f is) ∙ ap (contents_of b) head in
      let P : List ℕ → Type 0 = λ c. All (IsRecordWithin (length c) (length (records_of (bytes_of b k) (relocs_for b k)))) (records_of (bytes_of b k) (relocs_for b k)) in
      let Q : List RecordView → Type 0 = λ rs. All (IsRecordWithin (length (contents_at files l.section)) (length rs)) rs in
      record {
        section = omega (arith, is.section, is.within, counted file is.live, section_within files f is.file);
        few = omega (arith, ap length both.0, few_records b k, contents_short b (section_of b k), ok.short);
        short = omega (arith, ap length contents, contents_short b (section_of b k), ok.short);
        records = subst Q (sym both.0) (subst P (sym contents) (records_within b k both.1));
      }

  pub lists_within : AreListsWithin files (all_lists files)
  lists_within = record {
    within = All-from_recursion (IsListWithin files) (all_lists files)
        (all_weaker (IsKnownList files) (IsListWithin files) (all_lists files) list_within (known_lists files));
    order = lists_in_order files;
  }

  -- and its relocations stand after its second word
  abbrev IsPlainList : RecordList → Type 0
  IsPlainList l = All HasPlain l.records

  list_plain : (l : RecordList) → IsKnownList files l → IsPlainList l
  list_plain l known =
      let b = (file_at files known.of).bytes in
      let both = list_read l known in
      let P : List RecordView → Type 0 = λ rs. All HasPlain rs in
      subst P (sym both.0) (records_plain b known.is.index both.1)

  pub lists_plain : ArePlain (all_lists files)
  lists_plain = All-from_recursion IsPlainList (all_lists files) (all_weaker (IsKnownList files) IsPlainList (all_lists files) list_plain (known_lists files))
