-- Which sections are discarded: of the COMDAT groups of one signature in the files that take part, the first stays, in order of file
-- and section, and the members of the others are discarded (System V gABI, "Section Groups").
use Rattle.std.specs.Prelude.{ℕ, ◌+◌, ◌*◌, ◌^◌, ◌==◌, ◌&&◌, nat_lt, Bool, if◌then◌else◌, List, [], ◌∷◌, length, flat_map}
use Rattle.std.specs.List.{list_any, range_with_len}
use Rattle.std.specs.Str.{bytes_eq}
use Rattle.lk_tables.specs.Files.{File, file_at, by_section}
use Rattle.lk_tables.specs.Names.{text_of}
use Rattle.lk_tables.specs.Objects.{GroupView}

-- a COMDAT group: its file, the index of its GROUP section, its signature, and its members by their indexes in the file
pub record Comdat : Type 0 where
  pub file : ℕ
  pub section : ℕ
  pub signature : List ℕ
  pub members : List ℕ

-- a group of file f, if it is COMDAT
abbrev pub comdat_of : (bytes : List ℕ) (f : ℕ) → GroupView → List Comdat
comdat_of bytes f g = if g.comdat
    then record { file = f; section = g.section; signature = text_of bytes g.signature; members = g.members } ∷ [] else []

-- the COMDAT groups of file f if it takes part, and of all files, in order of file and section
unfoldable pub comdats_in : File → ℕ → List Comdat
comdats_in file f = if file.live then flat_map (comdat_of file.bytes f) file.object.groups else []

unfoldable pub comdats : List File → List Comdat
comdats files = flat_map (λ f. comdats_in (file_at files f) f) (range_with_len 0 (length files))

-- where a group stands among all, as one number: its file, then its section
abbrev pub rank : Comdat → ℕ
rank g = g.file * 2 ^ 32 + g.section

-- a group goes if another of its signature stands before it
unfoldable pub goes : List Comdat → Comdat → Bool
goes groups g = list_any (λ h. bytes_eq h.signature g.signature && nat_lt (rank h) (rank g)) groups

-- section k of file f belongs to the group
abbrev pub has_member : (f k : ℕ) → Comdat → Bool
has_member f k g = g.file == f && list_any (λ m. m == k) g.members

-- section k of file f is discarded: it belongs to a group that goes
unfoldable pub discards : List File → (f k : ℕ) → Bool
discards files f k =
    nat_lt k (length (file_at files f).head.sections) && list_any (λ g. has_member f k g && goes (comdats files) g) (comdats files)

-- by section number
unfoldable pub discarded : List File → List Bool
discarded files = by_section files (discards files)
