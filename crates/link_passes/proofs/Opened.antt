-- Bodies by number, and the files with them.
use Rattle.std.proofs.Common.{◌≡◌, ℕ, ◌+◌, ◌<◌, ◌≤◌, ◌^◌, Bool, true, false, List, length, map, flat_map, take, sym, ap, ◌∙◌, arith, subst, Option, Some, None, Ok}
use Rattle.std.specs.Prelude.{is_some, slice_index_or, IfSome, if◌then◌else◌}
use Rattle.std.specs.List.{range_with_len}
use Rattle.std.proofs.lemmas.List.{length-take}
use Rattle.std.proofs.lemmas.List.FromFn.{fill_by_all, get_or-map-range_with_len, length-map-range_with_len}
use Rattle.std.proofs.lemmas.List.Sums.{count_by-le-length}
use Rattle.lk_base.specs.declared.abi.TheConstants.{FILE_MAX}
use Rattle.lk_tables.specs.declared.heads.Symbol.{Symbol}
use Rattle.lk_tables.specs.declared.objects.Object.{Object}
use Rattle.lk_tables.specs.Symbols.{is_common}
use Rattle.lk_tables.specs.Files.{File, file_at, no_file}
use Rattle.lk_tables.specs.Gathering.{AreBodies, IsBodyOf, with_object, with_objects}
use Rattle.lk_tables.specs.Heads.{head_of}
use Rattle.lk_tables.specs.Objects.{ObjectView, object_checks, object_of, object_view, parts_of}
use Rattle.lk_tables.proofs.ByNumber.{file_at_with_objects, length_with_objects}
use Rattle.lk_tables.proofs.Passing.{checked_value}
use Rattle.lk_tables.proofs.SoundHead.{head_of_is}
use Rattle.file_live.specs.Live.{is_live, live_of}
use Rattle.work_split.specs.Shares.{EachFrom}
use Rattle.work_split.proofs.Sharing.{each_rises}
use Rattle.link_passes.specs.Counts.{count_of}
use Rattle.link_passes.specs.Defects.{body_defects_at}
use Rattle.link_passes.specs.Sources.{Source, files_in, headed, heads_in, live_in, opened, opened_files, with_body}
use Rattle.link_passes.proofs.EachBody.{IsObjectAt}
use Rattle.link_passes.proofs.Gathered.{each_at}

-- how many files there are, and each by its number
pub how_many : (ss : List Source) → length (heads_in ss) ≡ length ss
unfolding heads_in
how_many ss = length-map-range_with_len (headed ss) 0 (length ss)

pub how_many_live : (undefined : List (List ℕ)) (ss : List Source) → length (live_in undefined ss) ≡ length ss
unfolding live_in live_of
how_many_live undefined ss = length-map-range_with_len (is_live undefined (heads_in ss)) 0 (length (heads_in ss)) ∙ how_many ss

pub head_at : (ss : List Source) (f : ℕ) → f < length ss → file_at (heads_in ss) f ≡ headed ss f
unfolding heads_in
head_at ss f lt = get_or-map-range_with_len (headed ss) 0 (length ss) f f no_file lt (omega arith)

-- a sound file has few sections and COMMON symbols
count_few : (file : File) → head_of file.bytes ≡ Ok file.head → length file.bytes ≤ FILE_MAX → count_of file < 2 ^ 28
count_few file is short =
    let inside = head_of_is file.bytes file.head is in
    let table = inside.table in
    let entries = inside.entries in
    let symbols = file.head.symbols in
    omega (arith, table, entries, count_by-le-length (λ (s : Symbol). is_common s.place) (take (length symbols) symbols), length-take (length symbols) symbols)

body_few : (file : File) (body : Option Object) → IfSome body (IsBodyOf file) → is_some body ≡ true → count_of file < 2 ^ 28
body_few file None is some = let no : false ≡ true = some in cc
body_few file (Some object) is some = count_few file is.head is.short

pub body_is : (b : List ℕ) (v : ObjectView) → object_of b ≡ Ok v → v ≡ parts_of b
unfolding object_of
body_is b v e = checked_value (object_checks b) (parts_of b) v e

-- a file with its body
with_is : (ss : List Source) (live : List Bool) (f : ℕ) (body : Option Object) → IsObjectAt ss live f body → with_object (headed ss f) body ≡ opened ss live f
with_is ss live f None here = ap (λ (t : Bool). if t then with_body (headed ss f) else headed ss f) here.wanted
with_is ss live f (Some object) here =
    ap (λ (v : ObjectView). record (with_body (headed ss f)) { object = v }) (body_is (headed ss f).bytes (object_view object) here.is.body)
    ∙ ap (λ (t : Bool). if t then with_body (headed ss f) else headed ss f) here.wanted

module _ (ss : List Source) (live : List Bool) (bodies : List (Option Object)) (each : EachFrom (IsObjectAt ss live) 0 (length ss) bodies) where
  body_at : (f : ℕ) → f < length ss → IsObjectAt ss live f (slice_index_or bodies f None)
  body_at f lt =
      let P : ℕ → Type 0 = λ k. IsObjectAt ss live k (slice_index_or bodies f None) in
      let e : 0 + f ≡ f = omega arith in
      subst P e (each_at (IsObjectAt ss live) 0 (length ss) f bodies None each (omega (arith, lt, each_rises (IsObjectAt ss live) 0 (length ss) bodies each)))

  pub are_bodies : AreBodies (heads_in ss) bodies
  are_bodies f lt =
      let room : f < length ss = omega (arith, lt, how_many ss) in
      let P : File → Type 0 = λ file. IfSome (slice_index_or bodies f None) (IsBodyOf file) in
      subst P (sym (head_at ss f room)) (body_at f room).is

  pub each_few : (f : ℕ) → f < length (heads_in ss) → is_some (slice_index_or bodies f None) ≡ true → count_of (file_at (heads_in ss) f) < 2 ^ 28
  each_few f lt some = body_few (file_at (heads_in ss) f) (slice_index_or bodies f None) (are_bodies f lt) some

  pub with_bodies : (undefined : List (List ℕ)) → live ≡ live_in undefined ss → with_objects (heads_in ss) bodies ≡ files_in undefined ss
  unfolding opened_files
  with_bodies undefined same =
      fill_by_all (opened ss live) (with_objects (heads_in ss) bodies) (length ss) no_file (length_with_objects (heads_in ss) bodies ∙ how_many ss)
      (λ f lt. file_at_with_objects (heads_in ss) bodies f (omega (arith, lt, how_many ss))
      ∙ ap (λ (file : File). with_object file (slice_index_or bodies f None)) (head_at ss f lt)
      ∙ with_is ss live f (slice_index_or bodies f None) (body_at f lt))
      ∙ ap (λ (l : List Bool). map (opened ss l) (range_with_len 0 (length ss))) same

-- the defects of the bodies, by the marks that the code has
pub same_defects : (undefined : List (List ℕ)) (ss : List Source) (live : List Bool) (n : ℕ) → n ≡ length ss → live ≡ live_in undefined ss →
    flat_map (body_defects_at ss live) (range_with_len 0 n) ≡ flat_map (body_defects_at ss (live_in undefined ss)) (range_with_len 0 (length ss))
same_defects undefined ss live n all same =
    ap (λ k. flat_map (body_defects_at ss live) (range_with_len 0 k)) all ∙ ap (λ l. flat_map (body_defects_at ss l) (range_with_len 0 (length ss))) same
