-- Which members each file pulls, by number.
use Rattle.std.specs.Prelude.{ℕ, ◌==◌, ◌&&◌, not, if◌then◌else◌, Option, Some, None, List, [], ◌∷◌, ◌++◌, length, map, flat_map, option_to_list, slice_index_or}
use Rattle.std.specs.Global.{Vec}
use Rattle.std.specs.List.{range_with_len}
use Rattle.lk_tables.specs.Files.{File, file_at, symbol_at, symbol_name}
use Rattle.lk_tables.specs.Ranks.{class_of_rank, file_of}
use Rattle.file_live.specs.declared.claims.TheConstants.{MEMBER_CLASS}
use Rattle.file_live.specs.Live.{asks, early}

-- the member that symbol i of file f pulls, and those that file f does
unfoldable pub pulled : List File → (f i : ℕ) → Option ℕ
pulled files f i =
    let first = early files (symbol_name (file_at files f) i) in
    if asks (symbol_at (file_at files f) i) && class_of_rank first == MEMBER_CLASS then Some (file_of first) else None

unfoldable pub pulled_in : List File → ℕ → List ℕ
pulled_in files f = flat_map (λ i. option_to_list (pulled files f i)) (range_with_len 0 (length (file_at files f).head.symbols))

unfoldable pub ends : List File → List (List ℕ)
ends files = map (pulled_in files) (range_with_len 0 (length files))

-- the objects of the command
abbrev pub command_at : List File → ℕ → List ℕ
command_at files f = if not (file_at files f).member then f ∷ [] else []

unfoldable pub commands : List File → List ℕ
commands files = flat_map (command_at files) (range_with_len 0 (length files))

-- the member of which a rank is, if it is of one; and the members that a name of the command, and all of them, ask for
abbrev pub member_of : ℕ → Option ℕ
member_of rank = if class_of_rank rank == MEMBER_CLASS then Some (file_of rank) else None

unfoldable pub member_for : List File → List ℕ → Option ℕ
member_for files name = member_of (early files name)

abbrev pub asked_at : (undefined : List (List ℕ)) → List File → ℕ → List ℕ
asked_at undefined files n = option_to_list (member_for files (slice_index_or undefined n []))

unfoldable pub asked_members : (undefined : List (List ℕ)) → List File → List ℕ
asked_members undefined files = flat_map (asked_at undefined files) (range_with_len 0 (length undefined))

-- where the search begins
abbrev pub first_files : (undefined : List (List ℕ)) → List File → List ℕ
first_files undefined files = commands files ++ asked_members undefined files

-- the bytes of each name
abbrev pub lists_of : List (Vec ℕ) → List (List ℕ)
lists_of names = map (λ name. name.items) names
