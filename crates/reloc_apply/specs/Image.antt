-- A file given place by place, from pieces that lie in it.
use Rattle.std.specs.Prelude.{◌≡◌, ℕ, ◌+◌, ◌-◌, ◌<◌, ◌&&◌, nat_le, nat_lt, if◌then◌else◌, List, [], ◌∷◌, length, map, slice_index}
use Rattle.std.specs.List.{range_with_len}

-- bytes that stand at a file offset
pub record Piece : Type 0 where
  pub at : ℕ
  pub bytes : List ℕ

abbrev pub piece : ℕ → List ℕ → Piece
piece at bytes = record { at = at; bytes = bytes }

-- the byte at a place: the piece's if it stands there, else the one that stood there before
abbrev pub over : Piece → ℕ → ℕ → ℕ
over p before place =
    if nat_le p.at place && nat_lt place (p.at + length p.bytes) then slice_index p.bytes (place - p.at) else before

-- the byte at a place under pieces that are laid one after the other
abbrev pub byte_over : ℕ → List Piece → ℕ → ℕ
byte_over before [] place = before
byte_over before (p ∷ ps) place = byte_over (over p before place) ps place

-- the byte at a place of a file: 0 if no piece stands there
abbrev pub byte_at : List Piece → ℕ → ℕ
byte_at pieces place = byte_over 0 pieces place

-- a whole file of so many bytes
unfoldable pub image : List Piece → ℕ → List ℕ
image pieces size = map (byte_at pieces) (range_with_len 0 size)

-- these pieces were laid over a block that starts at the file offset `from`
abbrev pub ShowsFrom : (from : ℕ) → (before after : List ℕ) → List Piece → Type 0
ShowsFrom from before after pieces =
    (length after ≡ length before) × ((i : ℕ) → i < length before → slice_index after i ≡ byte_over (slice_index before i) pieces (from + i))
