-- A lent piece of a file as a plain record.
use Rattle.std.specs.Prelude.{◌+◌, ◌<◌, ◌^◌, length}
use Rattle.reloc_apply.specs.declared.image.Piece.{Piece as LentPiece}
use Rattle.reloc_apply.specs.Image.{Piece}

abbrev pub piece_of : LentPiece → Piece
piece_of lent = record { at = lent.at; bytes = lent.bytes.now }

-- it ends at an offset that 64 bits hold
abbrev pub Ends : LentPiece → Type 0
Ends lent = lent.at + length lent.bytes.now < 2 ^ 64
