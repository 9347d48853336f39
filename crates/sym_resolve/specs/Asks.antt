-- The room that the COMMON symbols of a name ask for, by the words of the names.
use Rattle.std.specs.Prelude.{◌≡◌, ℕ, ◌&&◌, ◌==◌, max, if◌then◌else◌, List, [], ◌∷◌, map, replicate}
use Rattle.std.specs.Prelude.{slice_index_or, slice_set}
use Rattle.lk_tables.specs.declared.commons.BoundCommon.{BoundCommon}
use Rattle.lk_tables.specs.Symbols.{is_common}
use Rattle.lk_tables.specs.Binding.{demand_at}
use Rattle.lk_tables.specs.Files.{File, common_no, file_at, symbol_at, symbol_total}
use Rattle.lk_tables.specs.NameNumbers.{name_number}
use Rattle.lk_tables.specs.Ranks.{rank_of}
use Rattle.sym_resolve.specs.declared.rooms.Room.{Room}
use Rattle.sym_resolve.specs.Claims.{rank_by}
use Rattle.sym_resolve.specs.Symbols.{over_symbols}

abbrev pub room : ℕ → ℕ → Room
room size align = record { size = size; align = align }

-- no bytes, at any place
abbrev pub no_room : Room
no_room = room 0 1

abbrev pub room_at : List Room → ℕ → Room
room_at rooms word = slice_index_or rooms word no_room

-- what a COMMON symbol asks for under a word
pub record Ask : Type 0 where
  pub word : ℕ
  pub size : ℕ
  pub align : ℕ

abbrev pub ask : ℕ → ℕ → ℕ → Ask
ask word size align = record { word = word; size = size; align = align }

-- the room of the word is made as large as is asked
abbrev pub widened : List Room → Ask → List Room
widened rooms a = slice_set rooms a.word (room (max (room_at rooms a.word).size a.size) (max (room_at rooms a.word).align a.align))

abbrev pub after_asks : List Room → List Ask → List Room
after_asks rooms [] = rooms
after_asks rooms (a ∷ asks) = after_asks (widened rooms a) asks

unfoldable pub ask_at : List File → (f i : ℕ) → List Ask
ask_at files f i = map (λ d. ask (name_number files f i) d.size d.align) (demand_at files f i)

unfoldable pub asks : List File → List Ask
asks files = over_symbols files (ask_at files)

unfoldable pub rooms_asked : List File → List Room
rooms_asked files = after_asks (replicate (symbol_total files) no_room) (asks files)

-- the table has the room of each word; if no room is asked for, it may be empty
abbrev pub AreRooms : List File → List Room → Type 0
AreRooms files rooms = (word : ℕ) → room_at rooms word ≡ room_at (rooms_asked files) word

-- a COMMON symbol to which its name is bound, by rows of ranks and of rooms
unfoldable pub common_from : List File → List ℕ → List Room → (f i : ℕ) → List BoundCommon
common_from files row rooms f i =
    if is_common (symbol_at (file_at files f) i).place && rank_by files row f i == rank_of 1 f i
    then record {
      file = f;
      symbol = i;
      section = common_no files f i;
      size = (room_at rooms (name_number files f i)).size;
      align = (room_at rooms (name_number files f i)).align;
    } ∷ [] else []

unfoldable pub common_by : List File → List ℕ → (f i : ℕ) → List BoundCommon
common_by files row f i = common_from files row (rooms_asked files) f i
