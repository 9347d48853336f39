-- Heads that were read before a link looks for them are those of its files.
use Rattle.std.proofs.Common.{◌≡◌, ℕ, ◌+◌, ◌-◌, ◌<◌, ◌≤◌, Bool, true, false, List, [], ◌∷◌, ◌++◌, All, length, flat_map, get_or, refl, sym, ap, ◌∙◌, subst, arith, append_assoc, Option, Some, None, Result, Ok, Err}
use Rattle.std.specs.Prelude.{IfSome, nat_lt, is_some, filter, if◌then◌else◌}
use Rattle.std.specs.List.{range_with_len}
use Rattle.std.specs.Option.{option_map}
use Rattle.std.specs.Global.{Vec}
use Rattle.std.proofs.lemmas.Bool.{ltb-false}
use Rattle.std.proofs.lemmas.List.{append-nil, get_or-map, length-map, length_push, map-append}
use Rattle.std.proofs.lemmas.List.Elements.{filter-append}
use Rattle.ar_read.specs.Archives.{archive_of, is_archive}
use Rattle.ar_read.specs.declared.archive.Member.{Member}
use Rattle.elf_read.specs.Magic.{is_elf}
use Rattle.lk_base.specs.Limits.{oversize, standard}
use Rattle.lk_base.specs.declared.abi.TheConstants.{FILE_MAX}
use Rattle.lk_base.specs.declared.defects.Flaw.{Flaw}
use Rattle.lk_base.proofs.Loops.{flat_step}
use Rattle.lk_depot.specs.Files.{Files}
use Rattle.lk_depot.specs.Loading.{AreContents}
use Rattle.lk_tables.proofs.Putting.{given_here, given_within}
use Rattle.lk_tables.specs.Heads.{HeadView, head_of, head_view}
use Rattle.lk_tables.specs.Names.{text_of}
use Rattle.lk_tables.specs.declared.heads.Head.{Head}
use Rattle.piped_reads.specs.Loads.{bytes_of_files}
use Rattle.piped_reads.specs.declared.files.PipedFile.{PipedFile}
use Rattle.piped_reads.specs.Readings.{IsPiped, Reading, archive_reading, flawed, heads_from, heads_seen, member_head, members_reading, object_reading, own_flaw, read_before, reading_of, some_head}
use Rattle.piped_reads.specs.declared.files.PipedFlaw.{PipedFlaw}
use Rattle.link_passes.specs.Contents.{contents_of}
use Rattle.link_passes.specs.Defects.{flawed as spec_flawed, flaws, head_defects}
use Rattle.link_passes.specs.Known.{AreHeads, IsSoundHead, own_heads}
use Rattle.link_passes.specs.Sources.{Source, archive_sources, input_at, input_sources, member_source, sources, sources_at, whole_source}
use Rattle.link_passes.proofs.FileFacts.{head_read, text_short}
use Rattle.link_passes.proofs.KnownHeads.{as_many}

-- heads of more files
pub heads_join : (ss ts : List Source) (heads more : List (Option Head)) → AreHeads ss heads → AreHeads ts more → AreHeads (ss ++ ts) (heads ++ more)
heads_join [] ts [] more are later = later
heads_join [] ts (head ∷ heads) more are later = absurd are
heads_join (s ∷ ss) ts [] more are later = absurd are
heads_join (s ∷ ss) ts (head ∷ heads) more are later = (are.0, heads_join ss ts heads more are.1 later)

-- the head of an object, and that of an archive by itself
object_head : (s : Source) (head : Head) → s.archive ≡ false → s.flaw ≡ None → head_of s.bytes ≡ Ok (head_view head) → length s.bytes ≤ FILE_MAX → IsSoundHead s (Some head)
unfolding head_defects
object_head s head whole sound is short = record {
  head_is = head_read s head whole is short;
  sound = λ f.
      ap (λ (o : Option Flaw). spec_flawed s f o) sound ∙ ap (λ (b : Bool). if b then [] else flaws f (head_of s.bytes)) whole ∙ ap (flaws f) is;
}

archive_head : (input : ℕ) (b : List ℕ) → length b ≤ FILE_MAX → IsSoundHead (whole_source input b true None) None
unfolding head_defects
archive_head input b short = record {
  head_is = record { is = refl; own = tt; few = omega arith; short = short };
  sound = λ f. refl;
}

-- a member and its head, if it has one
abbrev head_within : HeadView → Result (Option HeadView) Flaw → HeadView
head_within d (Ok (Some h)) = h
head_within d (Ok None) = d
head_within d (Err flaw) = d

was_some : (r : Result HeadView Flaw) (head : Head) → some_head r ≡ Ok (Some (head_view head)) → r ≡ Ok (head_view head)
was_some (Ok h) head is = ap (λ (r : Result (Option HeadView) Flaw). Ok (head_within h r)) is
was_some (Err flaw) head is = cc

no_some : (r : Result HeadView Flaw) → some_head r ≡ Ok None → ⊥
no_some (Ok h) is = cc
no_some (Err flaw) is = cc

one_member : (input : ℕ) (b : List ℕ) (member : Member) (elf : Bool) (head : Option Head) → (if elf then some_head (head_of (text_of b member.body)) else Ok None) ≡ Ok (option_map head_view head) → length b ≤ FILE_MAX
    → AreHeads (if elf then record { input = input; label = Some member.name; member = true; archive = false; bytes = text_of b member.body; flaw = None } ∷ [] else []) (if is_some head then head ∷ [] else [])
one_member input b member true (Some head) is short = (
  object_head (record { input = input; label = Some member.name; member = true; archive = false; bytes = text_of b member.body; flaw = None }) head refl refl
      (was_some (head_of (text_of b member.body)) head is) (text_short b (text_of b member.body) member.body refl short),
  tt,
)
one_member input b member true None is short = absurd (no_some (head_of (text_of b member.body)) is)
one_member input b member false (Some head) is short = cc
one_member input b member false None is short = tt

-- those of all members
filter_more : (head : Option Head) (heads : List (Option Head)) → filter is_some (head ∷ heads) ≡ (if is_some head then head ∷ [] else []) ++ filter is_some heads
filter_more (Some head) heads = refl
filter_more None heads = refl

pub read_more : (old list more yielded : List (Option Head)) (head : Option Head) → list ≡ old ++ filter is_some yielded → more ≡ list ++ (if is_some head then head ∷ [] else [])
    → more ≡ old ++ filter is_some (yielded ++ head ∷ [])
read_more old list more yielded head held pushed =
    pushed ∙ ap (λ (l : List (Option Head)). l ++ (if is_some head then head ∷ [] else [])) held ∙ append_assoc old (filter is_some yielded) (if is_some head then head ∷ [] else [])
    ∙ ap (λ (l : List (Option Head)). old ++ (filter is_some yielded ++ l)) (sym (filter_more head [] ∙ append-nil (if is_some head then head ∷ [] else [])))
    ∙ ap (λ (l : List (Option Head)). old ++ l) (sym (filter-append is_some yielded (head ∷ [])))

abbrev list_in : Result (List (Option HeadView)) PipedFlaw → List (Option HeadView)
list_in (Ok l) = l
list_in (Err flaw) = []

abbrev first_in : Option HeadView → List (Option HeadView) → Option HeadView
first_in d [] = d
first_in d (h ∷ l) = h

abbrev rest_in : List (Option HeadView) → List (Option HeadView)
rest_in [] = []
rest_in (h ∷ l) = l

same_ends : (g h : Option HeadView) (gs hs : List (Option HeadView)) (r : Result (List (Option HeadView)) PipedFlaw) → r ≡ Ok (g ∷ gs) → r ≡ Ok (h ∷ hs) → (g ≡ h) × (gs ≡ hs)
same_ends g h gs hs r a b = (ap (λ (x : Result (List (Option HeadView)) PipedFlaw). first_in g (list_in x)) (sym a ∙ b), ap (λ (x : Result (List (Option HeadView)) PipedFlaw). rest_in (list_in x)) (sym a ∙ b))

member_here : (input : ℕ) (b : List ℕ) (member : Member) (head : Option Head) → member_head b member ≡ Ok (option_map head_view head) → length b ≤ FILE_MAX
    → AreHeads (member_source input b member) (if is_some head then head ∷ [] else [])
unfolding member_head
member_here input b member head found short = one_member input b member (is_elf (text_of b member.body)) head found short

next_member : (input : ℕ) (b : List ℕ) (member : Member) (members : List Member) (place : ℕ) (one : Result (Option HeadView) Flaw) (later : Result (List (Option HeadView)) PipedFlaw) (heads : List (Option Head))
    → length b ≤ FILE_MAX → ((more : List (Option Head)) → later ≡ Ok (heads_seen more) → AreHeads (flat_map (member_source input b) members) (filter is_some more))
    → member_head b member ≡ one → read_before place one later ≡ Ok (heads_seen heads) → AreHeads (flat_map (member_source input b) (member ∷ members)) (filter is_some heads)
next_member input b member members place (Err flaw) later heads short rest first e = cc
next_member input b member members place (Ok h) (Err flaw) heads short rest first e = cc
next_member input b member members place (Ok h) (Ok hs) [] short rest first e = cc
next_member input b member members place (Ok h) (Ok hs) (head ∷ more) short rest first e =
    let parts = same_ends h (option_map head_view head) hs (heads_seen more) (Ok (h ∷ hs)) refl e in
    subst (AreHeads (flat_map (member_source input b) (member ∷ members))) (sym (filter_more head more))
    (heads_join (member_source input b member) (flat_map (member_source input b) members) (if is_some head then head ∷ [] else []) (filter is_some more)
    (member_here input b member head (first ∙ ap (λ (o : Option HeadView). Ok o) parts.0) short)
    (rest more (ap (λ (l : List (Option HeadView)). Ok l) parts.1)))

all_members : (input : ℕ) (b : List ℕ) (members : List Member) (place : ℕ) (heads : List (Option Head)) → heads_from b place members ≡ Ok (heads_seen heads) → length b ≤ FILE_MAX
    → AreHeads (flat_map (member_source input b) members) (filter is_some heads)
all_members input b [] place [] is short = tt
all_members input b [] place (head ∷ heads) is short = cc
all_members input b (member ∷ members) place heads is short =
    next_member input b member members place (member_head b member) (heads_from b (place + 1) members) heads short (λ more e. all_members input b members (place + 1) more e short) refl is

abbrev some_read : HeadView → Option HeadView → Result HeadView Flaw
some_read d None = Ok d
some_read d (Some h) = Ok h

-- those of a file that was read
abbrev flaw_is : Reading → Option PipedFlaw
flaw_is r = r.flaw

archive_heads : (input : ℕ) (b : List ℕ) (read : Result (List Member) Flaw) (heads : List (Option Head)) (members : List Member) (flaw : Option PipedFlaw)
    → record { members = members; heads = heads_seen heads; flaw = flaw } ≡ archive_reading b read → flaw ≡ None → length b ≤ FILE_MAX
    → AreHeads (archive_sources input b read) (None ∷ filter is_some heads)
archive_heads input b (Err bad) heads members flaw is none short = let no : None ≡ Some (own_flaw bad) = sym none ∙ ap flaw_is is in cc
archive_heads input b (Ok list) heads members flaw is none short = (archive_head input b short, all_members input b list 0 heads (found (heads_from b 0 list) is) short)
  where
    found : (r : Result (List (Option HeadView)) PipedFlaw) → record { members = members; heads = heads_seen heads; flaw = flaw } ≡ members_reading list r → r ≡ Ok (heads_seen heads)
    found (Ok hs) e = ap (λ (x : Reading). Ok x.heads) (sym e)
    found (Err bad) e = let no : None ≡ Some bad = sym none ∙ ap flaw_is e in cc

object_heads : (input : ℕ) (b : List ℕ) (read : Result HeadView Flaw) (heads : List (Option Head)) (members : List Member) (flaw : Option PipedFlaw)
    → head_of b ≡ read → record { members = members; heads = heads_seen heads; flaw = flaw } ≡ object_reading read → flaw ≡ None → length b ≤ FILE_MAX
    → AreHeads (whole_source input b false None ∷ []) (filter is_some heads)
object_heads input b (Err bad) heads members flaw read is none short = let no : None ≡ Some (own_flaw bad) = sym none ∙ ap flaw_is is in cc
object_heads input b (Ok h) heads members flaw read is none short = one heads (ap (λ (x : Reading). x.heads) is)
  where
    one : (l : List (Option Head)) → heads_seen l ≡ Some h ∷ [] → AreHeads (whole_source input b false None ∷ []) (filter is_some l)
    one [] e = cc
    one (None ∷ l) e = let no : None ≡ Some h = ap (first_in None) e in cc
    one (Some head ∷ []) e =
        let same : Some (head_view head) ≡ Some h = ap (first_in None) e in
        (object_head (whole_source input b false None) head refl refl (read ∙ ap (some_read h) (sym same)) short, tt)
    one (Some head ∷ more ∷ l) e = let no : option_map head_view more ∷ heads_seen l ≡ [] = ap rest_in e in cc

pub file_heads : (input : ℕ) (b : List ℕ) (heads : List (Option Head)) (members : List Member) (flaw : Option PipedFlaw)
    → record { members = members; heads = heads_seen heads; flaw = flaw } ≡ reading_of b → flaw ≡ None
    → AreHeads (input_sources standard input b) (own_heads (is_archive b) heads)
unfolding reading_of input_sources
file_heads input b heads members flaw is none = by (nat_lt standard.file (length b)) (is_archive b) refl is
  where
    by : (long archive : Bool) → nat_lt standard.file (length b) ≡ long
        → record { members = members; heads = heads_seen heads; flaw = flaw } ≡ (if long then flawed [] (own_flaw (oversize (length b))) else (if archive then archive_reading b (archive_of b) else object_reading (head_of b)))
        → AreHeads (if long then whole_source input b archive (Some (oversize (length b))) ∷ [] else (if archive then archive_sources input b (archive_of b) else whole_source input b false None ∷ [])) (own_heads archive heads)
    by true archive e r = let no : None ≡ Some (own_flaw (oversize (length b))) = sym none ∙ ap flaw_is r in cc
    by false true e r = archive_heads input b (archive_of b) heads members flaw r none (ltb-false _ _ e)
    by false false e r = object_heads input b (head_of b) heads members flaw refl r none (ltb-false _ _ e)

-- files that were read, one after another
pub all_piped : (most : ℕ) (files : List PipedFile) → All (λ (file : PipedFile). IsPiped file × (file.by ≤ most)) files → All (λ (file : PipedFile). IsPiped file) files
all_piped most files read = λ k d lt. (read k d lt).0

pub piped_many : (files : Option Files) (names : List (List ℕ)) (read : List PipedFile) (buffers : List (Vec ℕ)) → AreContents files names (bytes_of_files read) → contents_of buffers ≡ bytes_of_files read → length buffers ≡ length names
piped_many files names read buffers are same =
    sym (length-map buffers (λ (buffer : Vec ℕ). buffer.items)) ∙ ap (λ (l : List (List ℕ)). length l) same ∙ are.as_many

pub known_heads : (known : Option (Vec (Option Head))) (sound : Bool) (heads : List (Option Head)) (contents read : List (List ℕ)) → contents ≡ read
    → (sound ≡ true → AreHeads (sources standard read) heads) → IfSome known (λ list. (sound ≡ true) × (list.items ≡ heads)) → IfSome known (λ list. AreHeads (sources standard contents) list.items)
known_heads None sound heads contents read same are kept = tt
known_heads (Some list) sound heads contents read same are kept =
    subst (λ (p : List (List ℕ) × List (Option Head)). AreHeads (sources standard p.0) p.1) (λ i. (sym same i, sym kept.1 i)) (are kept.0)

pub next_contents : (yielded : List PipedFile) (file : PipedFile) (contents more : List (Vec ℕ)) (bytes : Vec ℕ) → more ≡ contents ++ bytes ∷ [] → bytes ≡ file.bytes
    → contents_of contents ≡ bytes_of_files yielded → contents_of more ≡ bytes_of_files (yielded ++ file ∷ [])
next_contents yielded file contents more bytes push same held =
    ap contents_of push ∙ map-append (λ (buffer : Vec ℕ). buffer.items) contents (bytes ∷ [])
    ∙ (λ i. held i ++ (same i).items ∷ [])
    ∙ sym (map-append (λ (f : PipedFile). f.bytes.items) yielded (file ∷ []))

-- the heads of one more file, if that has no flaw
pub next_heads : (yielded items rest all : List PipedFile) (file : PipedFile) (heads more : List (Option Head)) (sound sound' archive : Bool)
    → yielded ++ items ≡ all → items ≡ file ∷ rest → All (λ (f : PipedFile). IsPiped f) all
    → more ≡ heads ++ own_heads archive file.heads.items → archive ≡ is_archive file.bytes.items → (sound' ≡ true → (sound ≡ true) × (file.flaw ≡ None))
    → (sound ≡ true → AreHeads (flat_map (sources_at standard (bytes_of_files all)) (range_with_len 0 (length yielded))) heads)
    → sound' ≡ true → AreHeads (flat_map (sources_at standard (bytes_of_files all)) (range_with_len 0 (length (yielded ++ file ∷ [])))) more
next_heads yielded items rest all file heads more sound sound' archive whole next read pushed asked both held yes' =
    let contents : List (List ℕ) = bytes_of_files all in
    let at : ℕ = length yielded in
    let lt : at < length all = given_within yielded items rest all file whole next in
    let here : get_or all at file ≡ file = given_here yielded items rest all file file whole next in
    let input : input_at contents at ≡ file.bytes.items = get_or-map (λ (f : PipedFile). f.bytes.items) all at file [] lt ∙ ap (λ (f : PipedFile). f.bytes.items) here in
    let is : IsPiped file = subst (λ (f : PipedFile). IsPiped f) here (read at file lt) in
    let own : AreHeads (input_sources standard at file.bytes.items) (own_heads (is_archive file.bytes.items) file.heads.items) =
    file_heads at file.bytes.items file.heads.items file.members.items file.flaw is (both yes').1 in
    let placed : AreHeads (sources_at standard contents at) (own_heads archive file.heads.items) =
    subst (λ (p : List ℕ × Bool). AreHeads (input_sources standard at p.0) (own_heads p.1 file.heads.items)) (λ i. (sym input i, sym asked i)) own in
    let joined : AreHeads (flat_map (sources_at standard contents) (range_with_len 0 at) ++ sources_at standard contents at) (heads ++ own_heads archive file.heads.items) =
    heads_join (flat_map (sources_at standard contents) (range_with_len 0 at)) (sources_at standard contents at) heads (own_heads archive file.heads.items) (held (both yes').0) placed in
    let longer : length (yielded ++ file ∷ []) ≡ at + 1 = length_push yielded file in
    let grown : flat_map (sources_at standard contents) (range_with_len 0 (at + 1)) ≡ flat_map (sources_at standard contents) (range_with_len 0 at) ++ sources_at standard contents at =
    sym (flat_step (sources_at standard contents) at (flat_map (sources_at standard contents) (range_with_len 0 at)) (flat_map (sources_at standard contents) (range_with_len 0 at) ++ sources_at standard contents at) refl refl) in
    let whole_is : flat_map (sources_at standard contents) (range_with_len 0 (length (yielded ++ file ∷ []))) ≡ flat_map (sources_at standard contents) (range_with_len 0 at) ++ sources_at standard contents at =
    ap (λ (k : ℕ). flat_map (sources_at standard contents) (range_with_len 0 k)) longer ∙ grown in
    subst (λ (p : List Source × List (Option Head)). AreHeads p.0 p.1) (λ i. (sym whole_is i, sym pushed i)) joined

-- and of all
pub all_heads_known : (yielded all : List PipedFile) (heads : List (Option Head)) (sound : Bool) → length yielded ≡ length all
    → (sound ≡ true → AreHeads (flat_map (sources_at standard (bytes_of_files all)) (range_with_len 0 (length yielded))) heads)
    → sound ≡ true → AreHeads (sources standard (bytes_of_files all)) heads
unfolding sources
all_heads_known yielded all heads sound done held yes' =
    let as_long : length yielded ≡ length (bytes_of_files all) = done ∙ sym (length-map all (λ (f : PipedFile). f.bytes.items)) in
    subst (λ (k : ℕ). AreHeads (flat_map (sources_at standard (bytes_of_files all)) (range_with_len 0 k)) heads) as_long (held yes')

-- over the same files
pub known_sources : (known : Option (Vec (Option Head))) (ss ts : List Source) → ss ≡ ts → IfSome known (λ l. AreHeads ts l.items) → IfSome known (λ l. AreHeads ss l.items)
known_sources known ss ts same are = subst (λ (us : List Source). IfSome known (λ l. AreHeads us l.items)) (sym same) are
