-- Loads one after another, each of which is put into the queue or kept.
use Rattle.std.proofs.Common.{◌≡◌, ℕ, suc, ◌+◌, ◌<◌, ◌≤◌, List, [], ◌∷◌, ◌++◌, All, length, map, take, get_or, refl, sym, ap, ◌∙◌, subst, ⊎_elim, arith, Option, Some, None, Ok, Err}
use Rattle.std.specs.Prelude.{IfSome, sum_by}
use Rattle.std.specs.Global.{Vec}
use Rattle.std.specs.FinMap.{get}
use Rattle.std.proofs.lemmas.List.{length_push, take_all}
use Rattle.std.proofs.lemmas.List.Elements.{All-nil, All-push}
use Rattle.std.proofs.lemmas.List.Sums.{sum_by_push}
use Rattle.lk_depot.specs.Files.{Files}
use Rattle.lk_depot.specs.Loading.{AfterLoads, AreContents}
use Rattle.lk_depot.specs.Store.{Store}
use Rattle.lk_depot.proofs.NameLists.{loaded_one_more}
use Rattle.lk_depot.specs.declared.stops.LoadAllStop.{LoadAllStop}
use Rattle.piped_reads.specs.declared.files.Took.{Took}
use Rattle.piped_reads.specs.declared.pieces.Piece.{Piece}
use Rattle.piped_reads.specs.declared.pieces.Piece.TheVariants.{Loaded}
use Rattle.piped_reads.specs.Loads.{ArePut, AreReadBy, IsAdded, IsBelow, IsKept, IsPutOrKept, file_pieces, items_of, weight_of}
use Rattle.piped_reads.specs.Readings.{IsPiped}
use Rattle.piped_reads.proofs.Taking.{more_below, read_added, weight_added}

-- one more file
file_pieces_push : (first : ℕ) (buffers : List (Vec ℕ)) (bytes : Vec ℕ) → file_pieces first (buffers ++ bytes ∷ []) ≡ file_pieces first buffers ++ Loaded (first + length buffers) bytes ∷ []
file_pieces_push first [] bytes = let same : first ≡ first + 0 = omega arith in ap (λ (k : ℕ). Loaded k bytes ∷ []) same
file_pieces_push first (one ∷ buffers) bytes =
    let same : first + 1 + length buffers ≡ first + suc (length buffers) = omega arith in
    ap (λ l. Loaded first one ∷ l) (file_pieces_push (first + 1) buffers bytes)
    ∙ ap (λ (k : ℕ). Loaded first one ∷ (file_pieces (first + 1) buffers ++ Loaded k bytes ∷ [])) same

next_piece : (index : ℕ) (buffers : List (Vec ℕ)) (bytes : Vec ℕ) → length buffers ≡ index → file_pieces 0 (buffers ++ bytes ∷ []) ≡ file_pieces 0 buffers ++ Loaded index bytes ∷ []
next_piece index buffers bytes many =
    let same : 0 + length buffers ≡ index = omega (arith, many) in
    file_pieces_push 0 buffers bytes ∙ ap (λ (k : ℕ). file_pieces 0 buffers ++ Loaded k bytes ∷ []) same

-- nothing was loaded yet
pub none_put : (before now : Store) (names : List (List ℕ)) (put : List Piece) (took : List Took) → put ≡ [] → took ≡ [] → now.unread ≡ before.unread → ArePut 0 before now (take 0 names) put took (Ok tt)
none_put before now names put took nothing none unread = record {
  buffers = [];
  kept = [];
  many = refl;
  loaded = (record { as_many = refl; found = found before.files }, unread);
  below = subst (All (IsBelow 0)) (sym nothing) (All-nil (IsBelow 0));
  each = λ weight. let is : sum_by weight put ≡ 0 = ap (sum_by weight) nothing in omega (arith, is);
  once = λ weight. let is : weight_of weight took ≡ 0 = ap (weight_of weight) none in omega (arith, is);
  read = subst (AreReadBy 0) (sym none) (All-nil (λ (t : Took). IsPiped t.file × (t.file.by ≡ 0)));
}
  where
    found : (files : Option Files) → IfSome files (λ m. map (get m) [] ≡ map {A = List ℕ} {B = Option (List ℕ)} Some [])
    found None = tt
    found (Some m) = refl

-- one more file was loaded, and put or kept
pub put_next : {Y : Type 0} (bytes_of : Y → List ℕ) (before now after : Store) (names : List Y) (index : ℕ) (y : Y) (name : List ℕ) (bytes : Vec ℕ) (put put' : List Piece) (took took' : List Took)
    → index < length names → y ≡ get_or names index y → name ≡ bytes_of y
    → now.files ≡ before.files → IfSome now.files (λ m. get m name ≡ Some bytes.items) → after.unread ≡ now.unread
    → IsPutOrKept (Loaded index bytes) put put' took took'
    → ArePut index before now (take index (map bytes_of names)) put took (Ok tt)
    → ArePut (index + 1) before after (take (index + 1) (map bytes_of names)) put' took' (Ok tt)
put_next bytes_of before now after names index y name bytes put put' took took' within here named same found unread done held =
    let piece : Piece = Loaded index bytes in
    let buffers : List (Vec ℕ) = held.buffers ++ bytes ∷ [] in
    let Next : Type 0 = ArePut (index + 1) before after (take (index + 1) (map bytes_of names)) put' took' (Ok tt) in
    let long : length buffers ≡ index + 1 = length_push held.buffers bytes ∙ ap (λ (k : ℕ). k + 1) held.many in
    let contents : AreContents before.files (take (index + 1) (map bytes_of names)) (items_of buffers) =
    loaded_one_more (λ (buffer : Vec ℕ). buffer.items) bytes_of before.files now.files names held.buffers buffers index bytes y name within here named same refl held.loaded.0 found in
    let unread_is : after.unread ≡ before.unread = unread ∙ held.loaded.1 in
    let weighs : (weight : Piece → ℕ) → sum_by weight (file_pieces 0 buffers) ≡ sum_by weight (file_pieces 0 held.buffers) + weight piece =
    λ weight. ap (sum_by weight) (next_piece index held.buffers bytes held.many) ∙ sum_by_push weight (file_pieces 0 held.buffers) piece in
    let was_put : (put' ≡ put ++ piece ∷ []) × (took' ≡ took) → Next = λ is. record {
      buffers = buffers;
      kept = held.kept;
      many = long;
      loaded = (contents, unread_is);
      below = subst (All (IsBelow (index + 1))) (sym is.0) (All-push (IsBelow (index + 1)) put piece (more_below index put held.below) (omega arith));
      each = λ weight.
          let more : sum_by weight put' ≡ sum_by weight put + weight piece = ap (sum_by weight) is.0 ∙ sum_by_push weight put piece in
          omega (arith, more, weighs weight, held.each weight);
      once = λ weight. let as_before : weight_of weight took' ≡ weight_of weight took = ap (weight_of weight) is.1 in omega (arith, as_before, held.once weight);
      read = subst (AreReadBy 0) (sym is.1) held.read;
    } in
    let was_kept : (put' ≡ put) × IsAdded piece 0 took took' → Next = λ is. record {
      buffers = buffers;
      kept = held.kept ++ piece ∷ [];
      many = long;
      loaded = (contents, unread_is);
      below = subst (All (IsBelow (index + 1))) (sym is.0) (more_below index put held.below);
      each = λ weight.
          let as_before : sum_by weight put' ≡ sum_by weight put = ap (sum_by weight) is.0 in
          omega (arith, as_before, weighs weight, held.each weight, sum_by_push weight held.kept piece);
      once = λ weight. omega (arith, weight_added weight piece 0 took took' is.1, held.once weight, sum_by_push weight held.kept piece);
      read = read_added piece 0 took took' is.1 held.read;
    } in
    ⊎_elim was_put was_kept done

-- all were
pub put_all : (before now : Store) (names : List (List ℕ)) (index : ℕ) (put : List Piece) (took : List Took) → length names ≤ index
    → ArePut index before now (take index names) put took (Ok tt) → ArePut index before now names put took (Ok tt)
put_all before now names index put took over held = subst (λ (l : List (List ℕ)). ArePut index before now l put took (Ok tt)) (take_all index names over) held

-- a load gave no file
stopped : (before now after : Store) (names : List (List ℕ)) (index : ℕ) (put : List Piece) (took : List Took) (stop : LoadAllStop)
    → AfterLoads before after names (Err stop) → ArePut index before now (take index names) put took (Ok tt) → ArePut index before after names put took (Err stop)
stopped before now after names index put took stop why held = record {
  buffers = held.buffers;
  kept = held.kept;
  many = held.many;
  loaded = why;
  below = held.below;
  each = held.each;
  once = held.once;
  read = held.read;
}

-- a store after one more load
pub kept_more : (before now after : Store) → IsKept before now → after.files ≡ now.files → after.kinds ≡ now.kinds → after.begun ≡ now.begun → now.faults ≤ after.faults → IsKept before after
kept_more before now after held files kinds begun later = record {
  files = files ∙ held.files;
  kinds = kinds ∙ held.kinds;
  begun = begun ∙ held.begun;
  later = omega (arith, held.later, later);
}

pub kept_first : (before now : Store) → now ≡ before → IsKept before now
kept_first before now same = subst (λ (s : Store). IsKept before s) (sym same) (record { files = refl; kinds = refl; begun = refl; later = omega arith })
