-- Marks for sections of groups, by number.
use Rattle.std.specs.Prelude.{◌≡◌, ℕ, ◌<◌, ◌==◌, not, nat_lt, Bool, true, if◌then◌else◌, List, [], ◌∷◌, length, flat_map, slice_index}
use Rattle.std.specs.List.{range_with_len}
use Rattle.lk_tables.specs.Files.{File, file_at, section_no}
use Rattle.comdat.specs.Discarded.{Comdat}
use Rattle.comdat.specs.Signatures.{group_at}

-- the group is of one of these files, which takes part
pub record IsOfFiles (files : List File) (g : Comdat) : Type 0 where
  pub within : g.file < length files
  pub live : (file_at files g.file).live ≡ true

-- the number of a member that is a section of its file, and of all members of a group
abbrev pub member_no : List File → (f m : ℕ) → List ℕ
member_no files f m = if nat_lt m (length (file_at files f).head.sections) then section_no files f m ∷ [] else []

unfoldable pub members_of : List File → Comdat → List ℕ
members_of files g = flat_map (member_no files g.file) g.members

-- the number of a group's signature is not its own place: another of that signature stands before it
abbrev pub beaten : (numbers : List ℕ) → ℕ → Bool
beaten numbers j = not (slice_index numbers j == j)

-- the members of the groups of which this holds
abbrev pub beaten_at : List File → List Comdat → (numbers : List ℕ) → ℕ → List ℕ
beaten_at files groups numbers j = if beaten numbers j then members_of files (group_at groups j) else []

unfoldable pub beaten_members : List File → List Comdat → (numbers : List ℕ) → List ℕ
beaten_members files groups numbers = flat_map (beaten_at files groups numbers) (range_with_len 0 (length groups))
