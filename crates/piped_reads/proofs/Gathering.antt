-- What the loader and the parsers leave, gathered one after the other.
use Rattle.std.proofs.Common.{◌≡◌, ℕ, ◌+◌, ◌<◌, ◌≤◌, Bool, true, false, List, ◌++◌, sym, ap, ◌∙◌, subst, arith, Result}
use Rattle.std.specs.Prelude.{sum_by, if◌then◌else◌}
use Rattle.std.proofs.lemmas.List.Elements.{All-append, All-weaker}
use Rattle.std.proofs.lemmas.List.Sums.{sum_by-append}
use Rattle.lk_depot.specs.Store.{Store}
use Rattle.lk_depot.specs.declared.stops.LoadAllStop.{LoadAllStop}
use Rattle.piped_reads.specs.declared.files.Took.{Took}
use Rattle.piped_reads.specs.declared.pieces.Piece.{Piece}
use Rattle.piped_reads.specs.declared.rule.Hand.{Hand}
use Rattle.piped_reads.specs.Loads.{AreGathered, AreOfLoaded, AreReadBelow, IsShare, LoadsEnd, items_of, piece_of, weight_of}
use Rattle.piped_reads.specs.Readings.{IsPiped}

-- with what one more parser took, whether its results could be added or not
some_added : (most by : ℕ) (before after : Store) (names : List (List ℕ)) (put put' taken taken' theirs : List Piece) (took took' more : List Took) (stop stop' : Result (Unit {0}) LoadAllStop)
    → most < by → IsShare by theirs more → put' ≡ put → taken' ≡ taken ++ theirs → stop' ≡ stop
    → (added : Bool) → took' ≡ (if added then took ++ more else took)
    → AreGathered most before after names put taken took stop → AreGathered by before after names put' taken' took' stop'
some_added most by before after names put put' taken taken' theirs took took' more stop stop' less share same_put all_taken same_stop added is held = record {
  buffers = held.buffers;
  kept = held.kept;
  marks = held.marks;
  store = held.store;
  loaded = subst (λ (s : Result (Unit {0}) LoadAllStop). LoadsEnd before after names (items_of held.buffers) s) (sym same_stop) held.loaded;
  each = λ weight. let as_before : sum_by weight put' ≡ sum_by weight put = ap (sum_by weight) same_put in omega (arith, as_before, held.each weight);
  once = λ weight.
      let all : sum_by weight taken' ≡ sum_by weight taken + sum_by weight theirs = ap (sum_by weight) all_taken ∙ sum_by-append weight taken theirs in
      omega (arith, all, held.once weight, share.once weight, weighs weight added is);
  read = reads added is;
}
  where
    weighs : (weight : Piece → ℕ) (b : Bool) → took' ≡ (if b then took ++ more else took) → weight_of weight took' ≤ weight_of weight took + weight_of weight more
    weighs weight true e =
        let both : weight_of weight took' ≡ weight_of weight (took ++ more) = ap (weight_of weight) e in
        omega (arith, both, sum_by-append (λ (t : Took). weight (piece_of t)) took more)
    weighs weight false e = let one : weight_of weight took' ≡ weight_of weight took = ap (weight_of weight) e in omega (arith, one)

    earlier : AreReadBelow by took
    earlier = All-weaker (λ (t : Took). IsPiped t.file × (t.file.by ≤ most)) (λ (t : Took). IsPiped t.file × (t.file.by ≤ by)) (λ t read. (read.0, omega (arith, read.1, less))) took held.read

    last : AreReadBelow by more
    last = All-weaker (λ (t : Took). IsPiped t.file × (t.file.by ≡ by)) (λ (t : Took). IsPiped t.file × (t.file.by ≤ by)) (λ t read. (read.0, omega (arith, read.1))) more share.read

    reads : (b : Bool) → took' ≡ (if b then took ++ more else took) → AreReadBelow by took'
    reads true e = subst (AreReadBelow by) (sym e) (All-append (λ (t : Took). IsPiped t.file × (t.file.by ≤ by)) took more earlier last)
    reads false e = subst (AreReadBelow by) (sym e) earlier

pub taken_in : (most by : ℕ) (before after : Store) (names : List (List ℕ)) (view : Hand) (put' taken' theirs : List Piece) (took took' more : List Took) (stop stop' : Result (Unit {0}) LoadAllStop) (added : Bool)
    → put' ≡ view.put → taken' ≡ view.taken ++ theirs → took' ≡ (if added then took ++ more else took) → stop' ≡ stop → IsShare by theirs more → most < by
    → AreGathered most before after names view.put view.taken took stop → AreGathered by before after names put' taken' took' stop'
taken_in most by before after names view put' taken' theirs took took' more stop stop' added same_put all_taken is same_stop share less held =
    some_added most by before after names view.put put' view.taken taken' theirs took took' more stop stop' less share same_put all_taken same_stop added is held

-- at the end no piece was taken more often than it was put
pub all_of_loaded : (most : ℕ) (before after : Store) (names : List (List ℕ)) (put taken items : List Piece) (took : List Took) (stop : Result (Unit {0}) LoadAllStop)
    → (held : AreGathered most before after names put taken took stop) → ((weight : Piece → ℕ) → sum_by weight taken + sum_by weight items ≤ sum_by weight put) → AreOfLoaded most held.buffers took
all_of_loaded most before after names put taken items took stop held learnt = record {
  marks = held.marks;
  once = λ weight. omega (arith, held.each weight, held.once weight, learnt weight);
  read = held.read;
}
