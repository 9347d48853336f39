-- A symbol whose name is bound to another symbol of a file, the one that prevails, has the address of that.
use Rattle.std.specs.Prelude.{◌≡◌, ℕ, ◌<◌, ◌&&◌, ◌==◌, not, Bool, true, if◌then◌else◌, List, [], ◌∷◌, length, slice_index}
use Rattle.lk_tables.specs.Binding.{Bindings}
use Rattle.lk_tables.specs.Files.{File, by_symbol, symbol_no}
use Rattle.lk_tables.specs.Ranks.{file_of, is_linker_rank, no_rank, symbol_of_rank}
use Rattle.lk_tables.specs.Targets.{rank_at}
use Rattle.link_sections.specs.declared.links.LaidLink.{LaidLink}
use Rattle.link_sections.specs.Links.{link_binding, link_files}
use Rattle.symbol_addresses.specs.Sources.{address_in}

-- a rank is that of a symbol of a file
abbrev pub is_file_rank : ℕ → Bool
is_file_rank rank = not (rank == no_rank) && not (is_linker_rank rank)

-- a rank is that of another symbol of a file than symbol i of file f
abbrev pub is_bound_away : (rank f i : ℕ) → Bool
is_bound_away rank f i = is_file_rank rank && not (file_of rank == f && symbol_of_rank rank == i)

-- the address that a symbol has without a look at another one: 0 if it is bound to one
unfoldable pub own_address : LaidLink → (f i : ℕ) → ℕ
own_address link f i =
    if is_bound_away (rank_at (link_binding link) (symbol_no (link_files link) f i)) f i then 0 else address_in link f i

abbrev pub own_addresses : LaidLink → List ℕ
own_addresses link = by_symbol (link_files link) (own_address link)

-- the own address of the symbol of a number, as a list of one
abbrev pub own_at : LaidLink → ℕ → List ℕ
own_at link n = slice_index (own_addresses link) n ∷ []

-- the file that a rank names is there, and the number of the symbol
abbrev pub HasFile : List File → (rank : ℕ) → Type 0
HasFile files rank = is_file_rank rank ≡ true → file_of rank < length files

abbrev pub number_named : List File → (rank : ℕ) → ℕ
number_named files rank = symbol_no files (file_of rank) (symbol_of_rank rank)

-- what addresses by symbol number say of the symbol of a number: what they say of the one to which it is bound, if that is a file's
abbrev pub taken_address : List File → Bindings → (addresses : List ℕ) → (n : ℕ) → ℕ
taken_address files b addresses n =
    if is_file_rank (rank_at b n) then slice_index addresses (number_named files (rank_at b n)) else slice_index addresses n
