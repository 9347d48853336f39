-- The files of a link by number: the inputs in the order of the command, each archive followed by those of its members that are
-- ELF files (System V ar format).
use Rattle.std.specs.Prelude.{ℕ, ◌&&◌, not, nat_lt, Bool, true, false, Option, Some, None, if◌then◌else◌, Result, Ok, Err, List, [], ◌∷◌, ◌++◌, length, map, flat_map, slice_index_or, codes}
use Rattle.std.specs.List.{range_with_len}
use Rattle.ar_read.specs.declared.archive.Member.{Member}
use Rattle.ar_read.specs.Archives.{archive_of, is_archive}
use Rattle.elf_read.specs.Magic.{is_elf}
use Rattle.lk_base.specs.declared.defects.Flaw.{Flaw}
use Rattle.lk_base.specs.declared.limits.Limits.{Limits}
use Rattle.lk_base.specs.Limits.{oversize}
use Rattle.lk_tables.specs.declared.spans.Span.{Span}
use Rattle.lk_tables.specs.Files.{File, no_head, no_object}
use Rattle.lk_tables.specs.Heads.{HeadView, fields_of}
use Rattle.file_live.specs.Live.{live_of}
use Rattle.lk_tables.specs.Names.{text_of}
use Rattle.lk_tables.specs.Objects.{parts_of}

-- a file: the number of its input, a member's name there, whether it takes part only where it is pulled, whether it is an
-- archive itself, its bytes, and what is wrong with it before its head is looked at
pub record Source : Type 0 where
  pub input : ℕ
  pub label : Option Span
  pub member : Bool
  pub archive : Bool
  pub bytes : List ℕ
  pub flaw : Option Flaw

abbrev pub no_source : Source
no_source = record { input = 0; label = None; member = false; archive = false; bytes = []; flaw = None }

-- input number f
abbrev pub input_at : List (List ℕ) → ℕ → List ℕ
input_at inputs f = slice_index_or inputs f []

-- members that do not begin as an ELF file does are passed over
abbrev pub member_source : (input : ℕ) → List ℕ → Member → List Source
member_source input b m = if is_elf (text_of b m.body)
    then record { input = input; label = Some m.name; member = true; archive = false; bytes = text_of b m.body; flaw = None } ∷ [] else []

-- an input by itself
abbrev pub whole_source : (input : ℕ) → List ℕ → (archive : Bool) → Option Flaw → Source
whole_source input b archive flaw =
    record { input = input; label = None; member = archive; archive = archive; bytes = b; flaw = flaw }

abbrev pub archive_sources : (input : ℕ) → List ℕ → Result (List Member) Flaw → List Source
archive_sources input b (Ok members) = whole_source input b true None ∷ flat_map (member_source input b) members
archive_sources input b (Err flaw) = whole_source input b true (Some flaw) ∷ []

-- the files of an input: one that is too long has no members
unfoldable pub input_sources : Limits → (input : ℕ) → List ℕ → List Source
input_sources limits input b =
    if nat_lt limits.file (length b) then whole_source input b (is_archive b) (Some (oversize (length b))) ∷ []
    else (if is_archive b then archive_sources input b (archive_of b) else whole_source input b false None ∷ [])

abbrev pub sources_at : Limits → List (List ℕ) → ℕ → List Source
sources_at limits inputs i = input_sources limits i (input_at inputs i)

unfoldable pub sources : Limits → List (List ℕ) → List Source
sources limits inputs = flat_map (sources_at limits inputs) (range_with_len 0 (length inputs))

abbrev pub source_at : List Source → ℕ → Source
source_at ss f = slice_index_or ss f no_source

-- what the head of a file says; that of an archive by itself is empty
abbrev pub head_in : Source → HeadView
head_in s = if s.archive then no_head else fields_of s.bytes

-- by number, a file of which the head was read
abbrev pub headed : List Source → ℕ → File
headed ss f = record {
  live = false;
  member = (source_at ss f).member;
  bytes = (source_at ss f).bytes;
  head = head_in (source_at ss f);
  object = no_object;
}

unfoldable pub heads_in : List Source → List File
heads_in ss = map (headed ss) (range_with_len 0 (length ss))

-- which of them take part in a link that asks for these names
unfoldable pub live_in : (undefined : List (List ℕ)) → List Source → List Bool
live_in undefined ss = live_of undefined (heads_in ss)

-- an archive by itself has no body
abbrev pub has_body : List Source → List Bool → ℕ → Bool
has_body ss live f = slice_index_or live f false && not (source_at ss f).archive

-- a file of which the body was read too
abbrev pub with_body : File → File
with_body file = record { live = true; member = file.member; bytes = file.bytes; head = file.head; object = parts_of file.bytes }

-- by number, a file of a link in which these take part
abbrev pub opened : List Source → List Bool → ℕ → File
opened ss live f = if has_body ss live f then with_body (headed ss f) else headed ss f

unfoldable pub opened_files : List Source → List Bool → List File
opened_files ss live = map (opened ss live) (range_with_len 0 (length ss))

-- the files of a link that asks for these names
abbrev pub files_in : (undefined : List (List ℕ)) → List Source → List File
files_in undefined ss = opened_files ss (live_in undefined ss)

-- the name of a file as lines show it: a member's after its archive's, as `lib.a(m.o)`
abbrev pub labelled : (name : List ℕ) → List ℕ → Option Span → List ℕ
labelled name b None = name
labelled name b (Some label) = name ++ (codes "(" ++ (text_of b label ++ codes ")"))

unfoldable pub shown_source : (names : List (List ℕ)) → List (List ℕ) → Source → List ℕ
shown_source names inputs s = labelled (slice_index_or names s.input []) (input_at inputs s.input) s.label

-- how file f is shown, nothing where there is no such file
abbrev pub shown_file : (names : List (List ℕ)) → List (List ℕ) → List Source → ℕ → List ℕ
shown_file names inputs ss f = if nat_lt f (length ss) then shown_source names inputs (source_at ss f) else []

-- by number, the names of all files as lines and the map show them
abbrev pub shown_files : (names : List (List ℕ)) → List (List ℕ) → List Source → List (List ℕ)
shown_files names inputs ss = map (shown_source names inputs) ss
