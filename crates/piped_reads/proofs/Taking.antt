-- Results after a piece, and after many.
use Rattle.std.proofs.Common.{◌≡◌, ℕ, zero, suc, ◌+◌, ◌≤◌, List, [], ◌∷◌, ◌++◌, All, sym, ap, subst, ⊎_elim, arith}
use Rattle.std.specs.Prelude.{map, sum_by}
use Rattle.std.specs.List.{range_with_len}
use Rattle.std.specs.Global.{Vec}
use Rattle.std.proofs.lemmas.List.Elements.{All-append, All-cons, All-nil, All-push, All-weaker}
use Rattle.std.proofs.lemmas.List.Sums.{sum_by_push}
use Rattle.piped_reads.specs.declared.files.Took.{Took}
use Rattle.piped_reads.specs.declared.pieces.Piece.{Piece}
use Rattle.piped_reads.specs.declared.pieces.Piece.TheVariants.{Loaded, End}
use Rattle.piped_reads.specs.Loads.{AreReadBy, GoesOn, IsAdded, IsBelow, IsResult, IsShare, end_marks, piece_of, weight_of}
use Rattle.piped_reads.specs.Readings.{IsPiped}
use Rattle.piped_reads.specs.Rule.{IsApart}

-- what the results weigh more is what the piece weighs, or nothing
pub weight_added : (weight : Piece → ℕ) (piece : Piece) (by : ℕ) (old new : List Took) → IsAdded piece by old new → weight_of weight new ≤ weight_of weight old + weight piece
weight_added weight piece by old new added = ⊎_elim
    (λ (same : new ≡ old). let is : weight_of weight new ≡ weight_of weight old = ap (weight_of weight) same in omega (arith, is))
    (λ (more : (t : Took) × IsResult piece by t × (new ≡ old ++ t ∷ [])).
    let t : Took = more.0 in
    let is : weight_of weight new ≡ weight_of weight (old ++ t ∷ []) = ap (weight_of weight) more.2 in
    let here : weight (piece_of t) ≡ weight piece = ap weight more.1.of in
    omega (arith, is, here, sum_by_push (λ (u : Took). weight (piece_of u)) old t))
    added

pub read_added : (piece : Piece) (by : ℕ) (old new : List Took) → IsAdded piece by old new → AreReadBy by old → AreReadBy by new
read_added piece by old new added read = ⊎_elim
    (λ (same : new ≡ old). subst (AreReadBy by) (sym same) read)
    (λ (more : (t : Took) × IsResult piece by t × (new ≡ old ++ t ∷ [])).
    subst (AreReadBy by) (sym more.2) (All-push (λ (t : Took). IsPiped t.file × (t.file.by ≡ by)) old more.0 read (more.1.read, more.1.who)))
    added

-- what a parser has at its end, from nothing
pub share_of : (by : ℕ) (taken now : List Piece) (took held : List Took) → taken ≡ [] → took ≡ [] → GoesOn by taken now took held → IsShare by now held
share_of by taken now took held none nothing goes = record {
  once = λ weight.
      let a : sum_by weight taken ≡ 0 = ap (sum_by weight) none in
      let b : weight_of weight took ≡ 0 = ap (weight_of weight) nothing in
      omega (arith, goes.once weight, a, b);
  read = goes.read (subst (AreReadBy by) (sym nothing) (All-nil (λ (t : Took). IsPiped t.file × (t.file.by ≡ by))));
}

-- a file is not of the index of one before it, nor of an end mark's
file_apart : (index : ℕ) (bytes : Vec ℕ) (piece : Piece) → IsBelow index piece → IsApart piece (Loaded index bytes)
file_apart index bytes (Loaded i held) below = λ same. omega (arith, same, below)
file_apart index bytes (End number) below = absurd below

pub files_apart : (index : ℕ) (bytes : Vec ℕ) (put : List Piece) → All (IsBelow index) put → All (λ piece. IsApart piece (Loaded index bytes)) put
files_apart index bytes put below = All-weaker (IsBelow index) (λ (piece : Piece). IsApart piece (Loaded index bytes)) (λ piece held. file_apart index bytes piece held) put below

end_apart : (index number : ℕ) (piece : Piece) → IsBelow index piece → IsApart piece (End number)
end_apart index number (Loaded i held) below = tt
end_apart index number (End other) below = absurd below

marks_apart : (number from count : ℕ) → from + count ≤ number → All (λ piece. IsApart piece (End number)) (map End (range_with_len from count))
marks_apart number from zero within = All-nil (λ (piece : Piece). IsApart piece (End number))
marks_apart number from (suc count) within =
    All-cons (λ (piece : Piece). IsApart piece (End number)) (End from) (map End (range_with_len (from + 1) count))
    (λ same. omega (arith, same, within)) (marks_apart number (from + 1) count (omega (arith, within)))

pub ends_apart : (index number : ℕ) (put : List Piece) → All (IsBelow index) put → All (λ piece. IsApart piece (End number)) (put ++ end_marks number)
ends_apart index number put below =
    All-append (λ (piece : Piece). IsApart piece (End number)) put (end_marks number)
    (All-weaker (IsBelow index) (λ (piece : Piece). IsApart piece (End number)) (λ piece held. end_apart index number piece held) put below)
    (marks_apart number 0 number (omega arith))

-- a file more is below the next index
still_below : (index : ℕ) (piece : Piece) → IsBelow index piece → IsBelow (index + 1) piece
still_below index (Loaded i held) below = omega (arith, below)
still_below index (End number) below = absurd below

pub more_below : (index : ℕ) (put : List Piece) → All (IsBelow index) put → All (IsBelow (index + 1)) put
more_below index put below = All-weaker (IsBelow index) (IsBelow (index + 1)) (λ piece held. still_below index piece held) put below
