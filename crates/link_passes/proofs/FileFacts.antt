-- Sources by number, and what the first phase makes sure of.
use Rattle.std.proofs.Common.{◌≡◌, ℕ, zero, suc, ◌<◌, ◌≤◌, ◌^◌, Bool, true, false, List, [], ◌∷◌, length, map, min, get_or, drop, refl, sym, ap, ◌∙◌, arith, subst, Option, Some, None, Result, Ok, Err}
use Rattle.std.specs.Prelude.{◌&&◌, not, slice_index_or, MatchOption, if◌then◌else◌}
use Rattle.std.specs.List.{range_with_len}
use Rattle.std.proofs.lemmas.List.FromFn.{get_or-map-range_with_len, length-map-range_with_len}
use Rattle.lk_tables.specs.declared.files.File.{File as LentFile}
use Rattle.lk_tables.specs.declared.heads.Head.{Head}
use Rattle.lk_tables.specs.FileView.{file_view, file_views}
use Rattle.std.proofs.lemmas.List.{get_or-map, length-drop, length-map, length-take}
use Rattle.lk_base.specs.declared.abi.TheConstants.{FILE_MAX}
use Rattle.lk_base.specs.declared.defects.Flaw.{Flaw}
use Rattle.lk_base.specs.declared.limits.Limits.{Limits}
use Rattle.lk_base.proofs.NoneGiven.{left_none, none_at}
use Rattle.lk_tables.specs.declared.spans.Span.{Span}
use Rattle.lk_tables.specs.Files.{File, no_head}
use Rattle.lk_tables.specs.Heads.{HeadView, fields_of, head_of, head_view}
use Rattle.lk_tables.specs.Names.{text_of}
use Rattle.lk_tables.proofs.SoundHead.{head_is, head_of_is}
use Rattle.link_passes.specs.Contents.{source_view, sources_of}
use Rattle.link_passes.specs.Defects.{defect_in, flawed, flaws, head_defects, head_defects_at, reading_defects}
use Rattle.link_passes.specs.Reading.{IsHeaded, IsHeadOf}
use Rattle.link_passes.specs.Sources.{Source, has_body, head_in, no_source, source_at}
use Rattle.link_passes.specs.declared.sources.Source.{Source as LentSource}

-- a lent file by number
pub source_is : (list : List LentSource) (f : ℕ) (d : LentSource) → f < length list → source_view (get_or list f d) ≡ source_at (sources_of list) f
source_is list f d lt = sym (get_or-map source_view list f d no_source lt)

-- no text is longer than what it is cut from
pub text_short : (b text : List ℕ) (span : Span) → text ≡ text_of b span → length b ≤ FILE_MAX → length text ≤ FILE_MAX
unfolding text_of
text_short b text span is short =
    omega (arith, ap (length {A = ℕ}) is, length-take span.len (drop span.from b), length-drop span.from b)

no_flaw : (f : ℕ) (b : List ℕ) (r : Result HeadView Flaw) → head_of b ≡ r → flaws f r ≡ [] → head_of b ≡ Ok (fields_of b)
no_flaw f b (Ok v) is none = is ∙ ap (λ (h : HeadView). Ok h) (head_is b v is).fields
no_flaw f b (Err flaw) is none = let bad : defect_in f flaw ∷ [] ≡ [] = none in cc

-- a source that keeps its length where nothing is wrong with it
IsShort : Source → Type 0
IsShort s = MatchOption s.flaw (length s.bytes ≤ FILE_MAX) (λ flaw. Unit {0})

by_flaw : (s : Source) (f : ℕ) (o : Option Flaw) → s.archive ≡ false → MatchOption o (length s.bytes ≤ FILE_MAX) (λ flaw. Unit {0}) →
    flawed s f o ≡ [] → IsHeaded s.bytes
by_flaw s f (Some flaw) whole short none = let bad : defect_in f flaw ∷ [] ≡ [] = none in cc
by_flaw s f None whole short none = record {
  head = no_flaw f s.bytes (head_of s.bytes) refl (sym (ap (λ (t : Bool). if t then [] else flaws f (head_of s.bytes)) whole) ∙ none);
  short = short;
}

headed_source : (s : Source) (f : ℕ) → s.archive ≡ false → IsShort s → head_defects s f ≡ [] → IsHeaded s.bytes
unfolding head_defects IsShort
headed_source s f whole short none = by_flaw s f s.flaw whole short none

-- what a lent source keeps
all_short : (list : List LentSource) (f : ℕ) → f < length (sources_of list) → IsShort (source_at (sources_of list) f)
unfolding IsShort
all_short [] f lt = absurd (omega arith)
all_short (s ∷ list) zero lt = s.short
all_short (s ∷ list) (suc f) lt = all_short list f (omega arith)

whole_one : (a b : Bool) → (a && not b) ≡ true → b ≡ false
whole_one true false e = refl
whole_one true true e = let no : false ≡ true = e in cc
whole_one false b e = let no : false ≡ true = e in cc

-- a file that has a body is no archive
whole_of : (ss : List Source) (live : List Bool) (f : ℕ) → has_body ss live f ≡ true → (source_at ss f).archive ≡ false
whole_of ss live f has = whole_one (slice_index_or live f false) (source_at ss f).archive has

-- after the first phase each file that is no archive has its head
pub each_whole : (limits : Limits) (list : List LentSource) → reading_defects limits (sources_of list) ≡ [] → length (sources_of list) ≤ limits.files →
    (f : ℕ) → f < length (sources_of list) → (source_at (sources_of list) f).archive ≡ false → IsHeaded (source_at (sources_of list) f).bytes
unfolding reading_defects
each_whole limits list none few f lt whole =
    headed_source (source_at (sources_of list) f) f whole (all_short list f lt)
    (none_at (head_defects_at (sources_of list)) (min (length (sources_of list)) limits.files) 0 f (left_none _ _ none) (omega arith) (omega arith))

-- and so each that has a body
pub each_headed : (limits : Limits) (list : List LentSource) (live : List Bool) → reading_defects limits (sources_of list) ≡ [] → length (sources_of list) ≤ limits.files →
    (f : ℕ) → f < length (sources_of list) → has_body (sources_of list) live f ≡ true → IsHeaded (source_at (sources_of list) f).bytes
each_headed limits list live none few f lt has = each_whole limits list none few f lt (whole_of (sources_of list) live f has)

-- its head in the tables is that of its bytes
pub head_whole : (s : Source) → s.archive ≡ false → head_in s ≡ fields_of s.bytes
head_whole s whole = ap (λ (t : Bool). if t then no_head else fields_of s.bytes) whole

-- a sound head has few symbols
few_symbols : (b : List ℕ) (head : HeadView) → head_of b ≡ Ok head → length b ≤ FILE_MAX → length head.symbols < 2 ^ 27
few_symbols b head is short = let most = (head_of_is b head is).entries in omega arith

-- a head that was read
pub head_read : (s : Source) (head : Head) → s.archive ≡ false → head_of s.bytes ≡ Ok (head_view head) → length s.bytes ≤ FILE_MAX → IsHeadOf s (Some head)
head_read s head whole is short =
    let same : head_view head ≡ head_in s = (head_is s.bytes (head_view head) is).fields ∙ sym (head_whole s whole) in
    let P : HeadView → Type 0 = λ h. length h.symbols < 2 ^ 27 in
    record { is = same; own = is; few = subst P same (few_symbols s.bytes (head_view head) is short); short = short }

-- how many files there are, and each by its number
pub count_views : (files : List LentFile) (f : ℕ → File) (n : ℕ) → file_views files ≡ map f (range_with_len 0 n) → length files ≡ n
count_views files f n is = sym (length-map files file_view) ∙ ap length is ∙ length-map-range_with_len f 0 n

pub headed_at : (f : ℕ → File) (files : List LentFile) (i n : ℕ) → i < n → file_views files ≡ map f (range_with_len 0 n) → (d : LentFile) → file_view (get_or files i d) ≡ f i
headed_at f files i n lt is d =
    let room : i < length files = omega (arith, count_views files f n is) in
    sym (get_or-map file_view files i d (file_view d) room) ∙ ap (λ l. get_or l i (file_view d)) is
    ∙ get_or-map-range_with_len f 0 n i i (file_view d) lt (omega arith)

-- the head of a file that has a body
pub opened_head : (ss : List Source) (live : List Bool) (f : ℕ) → has_body ss live f ≡ true → IsHeaded (source_at ss f).bytes →
    head_of (source_at ss f).bytes ≡ Ok (head_in (source_at ss f))
opened_head ss live f has headed = headed.head ∙ ap (λ (h : HeadView). Ok h) (sym (head_whole (source_at ss f) (whole_of ss live f has)))
