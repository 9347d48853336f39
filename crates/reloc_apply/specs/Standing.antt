-- Pieces of a pool and entries of the linker's table, in order of their places.
use Rattle.std.specs.Prelude.{ℕ, ◌+◌, ◌<◌, ◌≤◌, List, [], ◌∷◌, length, slice_index_or}
use Rattle.std.specs.Int.{to_le_bytes, w64}
use Rattle.link_sections.specs.declared.got.GotEntry.{GotEntry}
use Rattle.link_sections.specs.declared.got.GotUse.TheVariants.{Address}
use Rattle.link_sections.specs.declared.pieces.Piece.{Piece as HeldPiece}
use Rattle.reloc_apply.specs.Image.{Piece, piece}

-- what stands past the end of a list of pieces, and of entries
abbrev pub no_piece : HeldPiece
no_piece = record { text = record { file = 0; from = 0; len = 0 }; position = 0 }

abbrev pub no_entry : GotEntry
no_entry = record { key = 0; usage = Address; file = 0; symbol = 0; word = 0 }

-- each piece starts where the one before ends, or after it
abbrev pub AreStacked : List HeldPiece → Type 0
AreStacked pieces =
    (i : ℕ) (d : HeldPiece) → i + 1 < length pieces →
    (slice_index_or pieces i d).position + (slice_index_or pieces i d).text.len ≤ (slice_index_or pieces (i + 1) d).position

-- words one after the other from an offset on
abbrev pub word_pieces : (at : ℕ) → (words : List ℕ) → List Piece
word_pieces at [] = []
word_pieces at (word ∷ words) = piece at (to_le_bytes w64 word) ∷ word_pieces (at + 8) words
