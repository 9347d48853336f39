-- Loops that mark members.
use Rattle.std.proofs.Common.{◌≡◌, ℕ, ◌+◌, ◌<◌, ◌≤◌, nat_lt, Bool, true, false, List, [], ◌∷◌, ◌++◌, length, take, get_or, set, All, refl, sym, ap, ◌∙◌, subst, arith}
use Rattle.std.specs.Prelude.{flat_map}
use Rattle.std.specs.List.{range_with_len}
use Rattle.std.proofs.lemmas.List.{get_or-map, length-map}
use Rattle.std.proofs.lemmas.Bool.{cond-true, cond-false, lt-ltb, le-ltb}
use Rattle.lk_base.proofs.Loops.{flat_step}
use Rattle.lk_tables.specs.declared.files.File.{File as LentFile}
use Rattle.lk_tables.specs.declared.heads.Section.{Section}
use Rattle.lk_tables.specs.FileView.{file_view, file_views}
use Rattle.lk_tables.specs.Files.{File, file_at, section_no}
use Rattle.lk_tables.proofs.FirstNumbers.{file_read}
use Rattle.lk_tables.specs.Reach.{with_marked}
use Rattle.comdat.specs.declared.groups.ComdatGroup.{ComdatGroup}
use Rattle.comdat.specs.Comdats.{comdat_view, comdat_views}
use Rattle.comdat.specs.Discarded.{Comdat}
use Rattle.comdat.specs.Marks.{IsOfFiles, beaten, beaten_at, member_no, members_of}
use Rattle.comdat.specs.Signatures.{group_at, no_comdat}
use Rattle.comdat.proofs.GroupLists.{take_flat}
use Rattle.comdat.proofs.Marking.{marked_next}

-- the sections of a file that was read
pub sections_read : (lent : List LentFile) (files : List File) (f : ℕ) (x : LentFile) → file_views lent ≡ files → f < length files → x ≡ get_or lent f x → x.head.sections.items ≡ (file_at files f).head.sections
sections_read lent files f x is lt read =
    let less : f < length lent = omega (arith, ap length is, length-map lent file_view) in
    ap (λ (y : File). y.head.sections) (file_read lent f x less read ∙ ap (λ l. file_at l f) is)

-- one member more: a section, or none
pub member_next : (files : List File) (f : ℕ) (items : List ℕ) (i d : ℕ) (start old new : List Bool) → i < length items → new ≡ with_marked old (member_no files f (get_or items i d)) →
    old ≡ with_marked start (flat_map (member_no files f) (take i items)) → new ≡ with_marked start (flat_map (member_no files f) (take (i + 1) items))
member_next files f items i d start old new lt is before =
    let ss = flat_map (member_no files f) (take i items) in
    let ts = member_no files f (get_or items i d) in
    marked_next start old new ss ts (flat_map (member_no files f) (take (i + 1) items)) before is (sym (take_flat (member_no files f) items i d [] ss (ss ++ ts) lt refl refl))

pub member_marked : (files : List File) (f m s : ℕ) (sections : List Section) (old new : List Bool) → sections ≡ (file_at files f).head.sections → m < length sections → s ≡ section_no files f m → new ≡ set old s true → new ≡ with_marked old (member_no files f m)
member_marked files f m s sections old new read lt number is =
    let count = length (file_at files f).head.sections in
    is ∙ ap (λ k. set old k true) number ∙ ap (with_marked old) (sym (cond-true (nat_lt m count) (section_no files f m ∷ []) [] (lt-ltb m count (omega (arith, ap length read)))))

pub member_passed : (files : List File) (f m : ℕ) (sections : List Section) (old new : List Bool) → sections ≡ (file_at files f).head.sections → length sections ≤ m → new ≡ old → new ≡ with_marked old (member_no files f m)
member_passed files f m sections old new read past is =
    let count = length (file_at files f).head.sections in
    is ∙ ap (with_marked old) (sym (cond-false (nat_lt m count) (section_no files f m ∷ []) [] (le-ltb m count (omega (arith, ap length read)))))

-- one group more: its members are marked, or none
pub group_next : (files : List File) (groups : List Comdat) (ns : List ℕ) (j : ℕ) (start old new : List Bool) → new ≡ with_marked old (beaten_at files groups ns j) →
    old ≡ with_marked start (flat_map (beaten_at files groups ns) (range_with_len 0 j)) → new ≡ with_marked start (flat_map (beaten_at files groups ns) (range_with_len 0 (j + 1)))
group_next files groups ns j start old new is before =
    let g = beaten_at files groups ns in
    let ss = flat_map g (range_with_len 0 j) in
    marked_next start old new ss (g j) (flat_map g (range_with_len 0 (j + 1))) before is (sym (flat_step g j ss (ss ++ g j) refl refl))

module _ (files : List File) (groups : List ComdatGroup) (ns : List ℕ) (j : ℕ) (blank : ComdatGroup) (lt : j < length groups) where
  abbrev read_group : Comdat
  read_group = comdat_view (get_or groups j blank)

  group_read : group_at (comdat_views groups) j ≡ read_group
  group_read = get_or-map comdat_view groups j blank no_comdat lt

  pub group_of_files : All (IsOfFiles files) (comdat_views groups) → IsOfFiles files read_group
  group_of_files each =
      let P : Comdat → Type 0 = IsOfFiles files in
      subst P group_read (each j no_comdat (omega (arith, length-map groups comdat_view)))

  pub group_marked : (b : Bool) (old new : List Bool) → b ≡ beaten ns j → b ≡ true → new ≡ with_marked old (members_of files read_group) → new ≡ with_marked old (beaten_at files (comdat_views groups) ns j)
  group_marked b old new is goes marks =
      marks ∙ ap (λ g. with_marked old (members_of files g)) (sym group_read)
      ∙ ap (with_marked old) (sym (cond-true (beaten ns j) (members_of files (group_at (comdat_views groups) j)) [] (sym is ∙ goes)))

pub group_passed : (files : List File) (groups : List Comdat) (ns : List ℕ) (j : ℕ) (b : Bool) (old new : List Bool) → b ≡ beaten ns j → b ≡ false → new ≡ old → new ≡ with_marked old (beaten_at files groups ns j)
group_passed files groups ns j b old new is stays same =
    same ∙ ap (with_marked old) (sym (cond-false (beaten ns j) (members_of files (group_at groups j)) [] (sym is ∙ stays)))
