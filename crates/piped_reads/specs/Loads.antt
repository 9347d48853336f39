-- What the loader and the parsers leave.
use Rattle.std.specs.Prelude.{◌≡◌, ◌⊎◌, ℕ, ◌+◌, ◌<◌, ◌≤◌, Result, Ok, Err, List, [], ◌∷◌, ◌++◌, All, length, map, sum_by}
use Rattle.std.specs.List.{range_with_len}
use Rattle.std.specs.Global.{Vec}
use Rattle.lk_depot.specs.Loading.{AfterLoads, AreContents}
use Rattle.lk_depot.specs.Store.{Store}
use Rattle.lk_depot.specs.declared.stops.LoadAllStop.{LoadAllStop}
use Rattle.piped_reads.specs.declared.files.Piped.{Piped}
use Rattle.piped_reads.specs.declared.files.PipedFile.{PipedFile}
use Rattle.piped_reads.specs.declared.files.Took.{Took}
use Rattle.piped_reads.specs.declared.pieces.Piece.{Piece}
use Rattle.piped_reads.specs.declared.pieces.Piece.TheVariants.{Loaded, End}
use Rattle.piped_reads.specs.Readings.{IsPiped}

-- files with these bytes as pieces, the first of which has this number
abbrev pub file_pieces : ℕ → List (Vec ℕ) → List Piece
file_pieces first [] = []
file_pieces first (bytes ∷ buffers) = Loaded first bytes ∷ file_pieces (first + 1) buffers

-- so many end marks
abbrev pub end_marks : ℕ → List Piece
end_marks count = map End (range_with_len 0 count)

-- the file of a name below this one
abbrev pub IsBelow : ℕ → Piece → Type 0
IsBelow index (Loaded i bytes) = i < index
IsBelow index (End number) = ⊥

-- the piece that a result is of
abbrev pub piece_of : Took → Piece
piece_of took = Loaded took.index took.file.bytes

-- what the pieces of results weigh
abbrev pub weight_of : (Piece → ℕ) → List Took → ℕ
weight_of weight took = sum_by (λ (t : Took). weight (piece_of t)) took

-- each was read as its bytes are, by no parser above this one
abbrev pub AreReadBelow : ℕ → List Took → Type 0
AreReadBelow most took = All (λ (t : Took). IsPiped t.file × (t.file.by ≤ most)) took

-- each was read as its bytes are, by this parser, or by the loader, 0
abbrev pub AreReadBy : ℕ → List Took → Type 0
AreReadBy by took = All (λ (t : Took). IsPiped t.file × (t.file.by ≡ by)) took

-- a result of a piece
pub record IsResult (piece : Piece) (by : ℕ) (t : Took) : Type 0 where
  pub of : piece_of t ≡ piece
  pub read : IsPiped t.file
  pub who : t.file.by ≡ by

-- results after a piece: with one of it, or as before, where it is an end mark or memory ran out
abbrev pub IsAdded : Piece → ℕ → (old new : List Took) → Type 0
IsAdded piece by old new = (new ≡ old) ⊎ ((t : Took) × IsResult piece by t × (new ≡ old ++ t ∷ []))

-- what a parser took, and its results: no piece has more results than it took of it
pub record IsShare (by : ℕ) (taken : List Piece) (took : List Took) : Type 0 where
  pub once : (weight : Piece → ℕ) → weight_of weight took ≤ sum_by weight taken
  pub read : AreReadBy by took

-- how the loads of names ended that gave these contents
abbrev pub LoadsEnd : (before after : Store) → (names contents : List (List ℕ)) → Result (Unit {0}) LoadAllStop → Type 0
LoadsEnd before after names contents (Ok done) = AreContents before.files names contents × (after.unread ≡ before.unread)
LoadsEnd before after names contents (Err stop) = AfterLoads before after names (Err stop)

-- loads leave a store so
pub record IsKept (before after : Store) : Type 0 where
  pub files : after.files ≡ before.files
  pub kinds : after.kinds ≡ before.kinds
  pub begun : after.begun ≡ before.begun
  pub later : before.faults ≤ after.faults

abbrev pub items_of : List (Vec ℕ) → List (List ℕ)
items_of buffers = map (λ (buffer : Vec ℕ). buffer.items) buffers

-- so many files were loaded, and have these bytes: each was put into the queue or, where that was full, kept by the loader, which has read those
pub record ArePut (index : ℕ) (before after : Store) (names : List (List ℕ)) (put : List Piece) (took : List Took) (stop : Result (Unit {0}) LoadAllStop) : Type 0 where
  pub buffers : List (Vec ℕ)
  pub kept : List Piece
  pub many : length buffers ≡ index
  pub loaded : LoadsEnd before after names (items_of buffers) stop
  pub below : All (IsBelow index) put
  pub each : (weight : Piece → ℕ) → sum_by weight put + sum_by weight kept ≡ sum_by weight (file_pieces 0 buffers)
  pub once : (weight : Piece → ℕ) → weight_of weight took ≤ sum_by weight kept
  pub read : AreReadBy 0 took

-- what the loader did with a file: put, or kept and read
abbrev pub IsPutOrKept : Piece → (put put' : List Piece) → (took took' : List Took) → Type 0
IsPutOrKept piece put put' took took' = ((put' ≡ put ++ piece ∷ []) × (took' ≡ took)) ⊎ ((put' ≡ put) × IsAdded piece 0 took took')

-- of the pieces that were taken meanwhile none has more results than that, whatever pieces weigh
pub record GoesOn (by : ℕ) (taken taken' : List Piece) (took took' : List Took) : Type 0 where
  pub once : (weight : Piece → ℕ) → weight_of weight took' + sum_by weight taken ≤ weight_of weight took + sum_by weight taken'
  pub read : AreReadBy by took → AreReadBy by took'

-- What the loader and parsers up to this one leave, once the loader has what each took: files that were loaded have these bytes; each was put into
-- the queue or kept by the loader; no piece has more results than it was taken or kept.
pub record AreGathered (most : ℕ) (before after : Store) (names : List (List ℕ)) (put taken : List Piece) (took : List Took) (stop : Result (Unit {0}) LoadAllStop) : Type 0 where
  pub buffers : List (Vec ℕ)
  pub kept : List Piece
  pub marks : ℕ
  pub store : IsKept before after
  pub loaded : LoadsEnd before after names (items_of buffers) stop
  pub each : (weight : Piece → ℕ) → sum_by weight put + sum_by weight kept ≡ sum_by weight (file_pieces 0 buffers) + sum_by weight (end_marks marks)
  pub once : (weight : Piece → ℕ) → weight_of weight took ≤ sum_by weight taken + sum_by weight kept
  pub read : AreReadBelow most took

-- no file that was loaded has more results than one, each with its bytes, and nothing else has any
pub record AreOfLoaded (most : ℕ) (buffers : List (Vec ℕ)) (took : List Took) : Type 0 where
  pub marks : ℕ
  pub once : (weight : Piece → ℕ) → weight_of weight took ≤ sum_by weight (file_pieces 0 buffers) + sum_by weight (end_marks marks)
  pub read : AreReadBelow most took

-- a file as a result
abbrev pub took_of : ℕ → PipedFile → Took
took_of index file = record { index = index; file = file }

-- files as results, the first of which has this number
abbrev pub numbered : ℕ → List PipedFile → List Took
numbered first [] = []
numbered first (file ∷ files) = took_of first file ∷ numbered (first + 1) files

-- the bytes of each file
abbrev pub bytes_of_files : List PipedFile → List (List ℕ)
bytes_of_files files = map (λ (file : PipedFile). file.bytes.items) files

-- what the loads of these names gave
abbrev pub AfterPiped : (before after : Store) → (names : List (List ℕ)) → Result Piped LoadAllStop → Type 0
AfterPiped before after names (Ok piped) = AreContents before.files names (bytes_of_files piped.files.items) × (after.unread ≡ before.unread)
AfterPiped before after names (Err stop) = AfterLoads before after names (Err stop)
