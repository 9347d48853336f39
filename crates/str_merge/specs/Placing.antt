-- The distinct pieces of a pool, each with its position.
use Rattle.std.specs.Prelude.{◌≡◌, ℕ, ◌++◌, List, [], map, slice_index_or}
use Rattle.link_sections.specs.declared.pieces.Piece.{Piece}
use Rattle.link_sections.specs.declared.pools.Pool.{Pool}
use Rattle.link_sections.specs.Merging.{end_from, positions_from}
use Rattle.link_sections.specs.Pools.{IsPile}
use Rattle.str_merge.specs.declared.placing.Placed.{Placed}
use Rattle.str_merge.specs.Gathering.{piece_at}
use Rattle.str_merge.specs.Sites.{CutPiece, texts_of}

-- the elements at these indexes
abbrev pub chosen : {X : Type 0} → List X → (default : X) → (indexes : List ℕ) → List X
chosen xs default indexes = map (λ i. slice_index_or xs i default) indexes

-- the pieces of these indexes, each with its bytes in its file and its position; one does not stand over another
pub record IsPlaced (pieces : List CutPiece) (firsts : List ℕ) (align : ℕ) (placed : Placed) : Type 0 where
  pub spans_are : map (λ (p : Piece). p.text) placed.pieces.items ≡ map (λ i. (piece_at pieces i).span) firsts
  pub positions : map (λ (p : Piece). p.position) placed.pieces.items ≡ positions_from align 0 (chosen (texts_of pieces) [] firsts)
  pub size_is : placed.size ≡ end_from align 0 (chosen (texts_of pieces) [] firsts)
  pub piled : (pool : Pool) → pool.size ≡ placed.size → IsPile pool placed.pieces.items

-- the pieces of these indexes are placed after those that were
abbrev pub AddsPieces : (pieces : List CutPiece) (indexes : List ℕ) (align : ℕ) (old new : Placed) → Type 0
AddsPieces pieces indexes align old new = (before : List ℕ) → IsPlaced pieces before align old → IsPlaced pieces (before ++ indexes) align new
