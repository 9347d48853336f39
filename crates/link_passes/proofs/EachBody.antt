-- Bodies with their unwind records, and what a link has of them.
use Rattle.std.proofs.Common.{◌≡◌, ℕ, zero, suc, ◌+◌, ◌<◌, ◌≤◌, Bool, true, false, List, [], ◌∷◌, ◌++◌, length, map, refl, sym, ap, ◌∙◌, subst, arith, inl, inr, Option, Some, None}
use Rattle.std.specs.Prelude.{flat_map, is_some, IfSome, if◌then◌else◌}
use Rattle.std.specs.List.{AllByRecursion, range_with_len}
use Rattle.std.proofs.lemmas.Bool.{cases_lt}
use Rattle.std.proofs.lemmas.List.{map-append}
use Rattle.std.proofs.lemmas.List.FromFn.{fill_by_all, get_or-map-range_with_len, length-map-range_with_len}
use Rattle.lk_tables.specs.Checks.{NoneBroken}
use Rattle.lk_tables.specs.Files.{File, file_at, is_frame_at, no_file}
use Rattle.lk_tables.specs.Frames.{RecordList, list_at}
use Rattle.lk_tables.specs.Gathering.{IsBodyOf}
use Rattle.lk_tables.specs.Walks.{over_file}
use Rattle.lk_tables.specs.declared.objects.Object.{Object}
use Rattle.work_split.specs.Shares.{EachFrom}
use Rattle.eh_frame.specs.Sections.{all_frame_checks}
use Rattle.link_passes.specs.declared.records.Body.{Body}
use Rattle.link_passes.specs.Frames.{list_in, lists_for, lists_in, numbered}
use Rattle.link_passes.specs.Reading.{IsBodyAt, object_in, records_in}
use Rattle.link_passes.specs.Sources.{Source, files_in, has_body, headed, live_in, opened, opened_files, source_at, with_body}

-- a body by itself
pub record IsObjectAt (ss : List Source) (live : List Bool) (f : ℕ) (object : Option Object) : Type 0 where
  pub wanted : is_some object ≡ has_body ss live f
  pub is : IfSome object (IsBodyOf (headed ss f))

object_at : (ss : List Source) (live : List Bool) (f : ℕ) (body : Option Body) → IsBodyAt ss live f body → IsObjectAt ss live f (object_in body)
object_at ss live f None here = record { wanted = here.wanted; is = tt }
object_at ss live f (Some body) here = record { wanted = here.wanted; is = here.is.object }

pub objects_from : (ss : List Source) (live : List Bool) (a b : ℕ) (bodies : List (Option Body)) → EachFrom (IsBodyAt ss live) a b bodies →
    EachFrom (IsObjectAt ss live) a b (map object_in bodies)
objects_from ss live a b [] each = each
objects_from ss live a b (body ∷ bodies) each = (object_at ss live a body each.0, objects_from ss live (a + 1) b bodies each.1)

-- its unwind records
opened_lists : (on : Bool) (file : File) → file.live ≡ false → (if on then lists_in (with_body file) else []) ≡ lists_for (if on then with_body file else file)
opened_lists true file off = refl
opened_lists false file off = ap (λ (t : Bool). if t then lists_in file else []) (sym off)

records_at : (ss : List Source) (live : List Bool) (f : ℕ) (body : Option Body) → IsBodyAt ss live f body → records_in body ≡ lists_for (opened ss live f)
records_at ss live f None here =
    ap (λ (t : Bool). if t then lists_in (with_body (headed ss f)) else []) here.wanted ∙ opened_lists (has_body ss live f) (headed ss f) refl
records_at ss live f (Some body) here =
    here.is.records ∙ ap (λ (t : Bool). if t then lists_in (with_body (headed ss f)) else []) here.wanted ∙ opened_lists (has_body ss live f) (headed ss f) refl

pub records_from : (ss : List Source) (live : List Bool) (a b : ℕ) (bodies : List (Option Body)) → EachFrom (IsBodyAt ss live) a b bodies →
    map records_in bodies ≡ map (λ f. lists_for (opened ss live f)) (range_with_len a (length bodies))
records_from ss live a b [] each = refl
records_from ss live a b (body ∷ bodies) each =
    ap (λ (l : List RecordList). l ∷ map records_in bodies) (records_at ss live a body each.0)
    ∙ ap (λ (ls : List (List RecordList)). lists_for (opened ss live a) ∷ ls) (records_from ss live (a + 1) b bodies each.1)

-- the files of a link by number
pub opened_at : (undefined : List (List ℕ)) (ss : List Source) (f : ℕ) → f < length ss → file_at (files_in undefined ss) f ≡ opened ss (live_in undefined ss) f
unfolding opened_files
opened_at undefined ss f lt = get_or-map-range_with_len (opened ss (live_in undefined ss)) 0 (length ss) f f no_file lt (omega arith)

pub opened_count : (undefined : List (List ℕ)) (ss : List Source) → length (files_in undefined ss) ≡ length ss
unfolding opened_files
opened_count undefined ss = length-map-range_with_len (opened ss (live_in undefined ss)) 0 (length ss)

opened_records : (undefined : List (List ℕ)) (ss : List Source) →
    map (λ f. lists_for (file_at (files_in undefined ss) f)) (range_with_len 0 (length (files_in undefined ss)))
    ≡ map (λ f. lists_for (opened ss (live_in undefined ss) f)) (range_with_len 0 (length ss))
opened_records undefined ss =
    let files = files_in undefined ss in
    let give : ℕ → List RecordList = λ f. lists_for (file_at files f) in
    let count = opened_count undefined ss in
    fill_by_all (λ f. lists_for (opened ss (live_in undefined ss) f)) (map give (range_with_len 0 (length files))) (length ss) []
    (length-map-range_with_len give 0 (length files) ∙ count)
    (λ f lt. get_or-map-range_with_len give 0 (length files) f f [] (omega (arith, lt, count)) (omega arith) ∙ ap lists_for (opened_at undefined ss f lt))

-- the unwind records that were read are those of the files of the link
pub records_are : (undefined : List (List ℕ)) (ss : List Source) (live : List Bool) (bodies : List (Option Body)) (n : ℕ) (files : List File) → n ≡ length ss →
    live ≡ live_in undefined ss → files ≡ files_in undefined ss → length bodies ≡ n → EachFrom (IsBodyAt ss live) 0 n bodies →
    map records_in bodies ≡ map (λ f. lists_for (file_at files f)) (range_with_len 0 (length files))
records_are undefined ss live bodies n files all same are count each =
    let give : List File → List (List RecordList) = λ fs. map (λ f. lists_for (file_at fs f)) (range_with_len 0 (length fs)) in
    records_from ss live 0 n bodies each
    ∙ ap (λ k. map (λ f. lists_for (opened ss live f)) (range_with_len 0 k)) (count ∙ all)
    ∙ ap (λ l. map (λ f. lists_for (opened ss l f)) (range_with_len 0 (length ss))) same
    ∙ sym (opened_records undefined ss) ∙ ap give (sym are)

-- under the numbers of their sections they are the lists of the link
if_numbered : (on : Bool) (files : List File) (f : ℕ) (l : RecordList) →
    map (numbered files f) (if on then l ∷ [] else []) ≡ (if on then numbered files f l ∷ [] else [])
if_numbered true files f l = refl
if_numbered false files f l = refl

numbered_walk : (files : List File) (f : ℕ) (ks : List ℕ) → map (numbered files f) (flat_map (list_in (file_at files f)) ks) ≡ flat_map (list_at files f) ks
numbered_walk files f [] = refl
numbered_walk files f (k ∷ ks) =
    map-append (numbered files f) (list_in (file_at files f) k) (flat_map (list_in (file_at files f)) ks)
    ∙ ap (λ (l : List RecordList). l ++ map (numbered files f) (flat_map (list_in (file_at files f)) ks)) (if_numbered (is_frame_at (file_at files f) k) files f _)
    ∙ ap (λ (l : List RecordList). list_at files f k ++ l) (numbered_walk files f ks)

if_live : (on : Bool) (files : List File) (f : ℕ) (xs ys : List RecordList) → map (numbered files f) xs ≡ ys →
    map (numbered files f) (if on then xs else []) ≡ (if on then ys else [])
if_live true files f xs ys same = same
if_live false files f xs ys same = refl

pub numbered_lists : (files : List File) (f : ℕ) → map (numbered files f) (lists_for (file_at files f)) ≡ over_file files (list_at files) f
unfolding over_file lists_in
numbered_lists files f =
    if_live (file_at files f).live files f _ _ (numbered_walk files f (range_with_len 0 (length (file_at files f).head.sections)))

-- a section that has some is one of the table, of a file that takes part
pub record IsListed (file : File) (l : RecordList) : Type 0 where
  pub live : file.live ≡ true
  pub index : l.section < length file.head.sections

listed_if : (on : Bool) (file : File) (l : RecordList) → IsListed file l → AllByRecursion (IsListed file) (if on then l ∷ [] else [])
listed_if true file l is = (is, tt)
listed_if false file l is = tt

all_joined : {X : Type 0} (P : X → Type 0) (xs ys : List X) → AllByRecursion P xs → AllByRecursion P ys → AllByRecursion P (xs ++ ys)
all_joined P [] ys first second = second
all_joined P (x ∷ xs) ys first second = (first.0, all_joined P xs ys first.1 second)

listed_walk : (file : File) → file.live ≡ true → (n i : ℕ) → i + n ≤ length file.head.sections → AllByRecursion (IsListed file) (flat_map (list_in file) (range_with_len i n))
listed_walk file live zero i le = tt
listed_walk file live (suc n) i le =
    all_joined (IsListed file) (list_in file i) (flat_map (list_in file) (range_with_len (i + 1) n))
    (listed_if (is_frame_at file i) file _ (record { live = live; index = omega (arith, le) }))
    (listed_walk file live n (i + 1) (omega (arith, le)))

listed_live : (on : Bool) (file : File) (xs : List RecordList) → (on ≡ true → AllByRecursion (IsListed file) xs) → AllByRecursion (IsListed file) (if on then xs else [])
listed_live true file xs each = each refl
listed_live false file xs each = tt

pub all_listed : (file : File) → AllByRecursion (IsListed file) (lists_for file)
unfolding lists_in
all_listed file = listed_live file.live file _ (λ live. listed_walk file live (length file.head.sections) 0 (omega arith))

-- the next of a list that is taken one by one
pub at_middle : {X Y : Type 0} (P : Y → Type 0) (f : X → Y) (before rest : List X) (x : X) → AllByRecursion P (map f (before ++ x ∷ rest)) → P (f x)
at_middle P f [] rest x all = all.0
at_middle P f (y ∷ before) rest x all = at_middle P f before rest x all.1

-- no unwind record of a file is wrong
sound_at : (ss : List Source) (live : List Bool) (f : ℕ) (body : Option Body) → IsBodyAt ss live f body → has_body ss live f ≡ true →
    NoneBroken (all_frame_checks (source_at ss f).bytes)
sound_at ss live f None here on = let wrong : false ≡ true = here.wanted ∙ on in cc
sound_at ss live f (Some body) here on = here.is.sound

pub sound_from : (ss : List Source) (live : List Bool) (a b f : ℕ) (bodies : List (Option Body)) → EachFrom (IsBodyAt ss live) a b bodies → a ≤ f → f < b →
    has_body ss live f ≡ true → NoneBroken (all_frame_checks (source_at ss f).bytes)
sound_from ss live a b f [] each low high on = absurd (omega (arith, each, low, high))
sound_from ss live a b f (body ∷ bodies) each low high on = elim (cases_lt a f) [
  | inl lt ↦ sound_from ss live (a + 1) b f bodies each.1 (omega (arith, lt)) high on
  | inr le ↦
      let same : a ≡ f = omega (arith, le, low) in
      let P : ℕ → Type 0 = λ k. IsBodyAt ss live k body in
      sound_at ss live f body (subst P same each.0) on
]

opened_live : (on : Bool) (file : File) → file.live ≡ false → (if on then with_body file else file).live ≡ true → on ≡ true
opened_live true file off live = refl
opened_live false file off live = let wrong : false ≡ true = sym off ∙ live in cc

opened_bytes : (on : Bool) (file : File) → (if on then with_body file else file).bytes ≡ file.bytes
opened_bytes true file = refl
opened_bytes false file = refl

pub records_sound : (undefined : List (List ℕ)) (ss : List Source) (live : List Bool) (bodies : List (Option Body)) (n : ℕ) (files : List File) → n ≡ length ss →
    live ≡ live_in undefined ss → files ≡ files_in undefined ss → EachFrom (IsBodyAt ss live) 0 n bodies →
    (f : ℕ) → f < length files → (file_at files f).live ≡ true → NoneBroken (all_frame_checks (file_at files f).bytes)
records_sound undefined ss live bodies n files all same are each f lt on =
    let within : f < length ss = omega (arith, lt, ap length are, opened_count undefined ss) in
    let is : file_at files f ≡ opened ss live f =
    ap (λ (l : List File). file_at l f) are ∙ opened_at undefined ss f within ∙ ap (λ (l : List Bool). opened ss l f) (sym same) in
    let has = opened_live (has_body ss live f) (headed ss f) refl (sym (ap (λ (file : File). file.live) is) ∙ on) in
    let P : List ℕ → Type 0 = λ b. NoneBroken (all_frame_checks b) in
    subst P (sym (ap (λ (file : File). file.bytes) is ∙ opened_bytes (has_body ss live f) (headed ss f)))
    (sound_from ss live 0 n f bodies each (omega arith) (omega (arith, within, all)) has)
