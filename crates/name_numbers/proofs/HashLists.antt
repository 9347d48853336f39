-- The hashes of the texts of pieces, and the tags of all texts.
use Rattle.std.proofs.Common.{◌≡◌, ℕ, ◌+◌, ◌-◌, ◌<◌, ◌≤◌, Result, Ok, Err, List, [], ◌∷◌, ◌++◌, length, map, get_or, IfOk, refl, sym, ap, ◌∙◌, inr, arith}
use Rattle.std.specs.Global.{Vec}
use Rattle.std.specs.List.{range_with_len}
use Rattle.std.specs.declared.ops.Range.{Range}
use Rattle.std.proofs.lemmas.List.{ext_get_or}
use Rattle.std.proofs.lemmas.List.FromFn.{get_or-map-range_with_len, length-map-range_with_len}
use Rattle.lk_base.specs.declared.defects.LinkStop.{LinkStop}
use Rattle.intern_race.specs.Hash.{tag_of}
use Rattle.intern_race.specs.Texts.{AreTags, tag_at}
use Rattle.work_split.specs.Pieces.{Tiles}
use Rattle.work_split.specs.Shares.{AreGivenBy, IsJoined}
use Rattle.work_split.specs.Shares as shares
use Rattle.work_split.specs.Tasks.{IsAt}
use Rattle.work_split.proofs.ListedRuns.{first_run}
use Rattle.work_split.proofs.RunsBeside.{GoesBeside, joined_beside}
use Rattle.work_split.proofs.Sharing.{given_from}
use Rattle.work_split.proofs.Tiling.{at_place}
use Rattle.name_numbers.specs.Placed.{AreHashes, HasHashes}
use Rattle.name_numbers.specs.Texts.{hash_at}
use Rattle.name_numbers.proofs.Placing.{hash_read, length_hashes, tags_listed, two_runs}

-- the answers of `over_pieces`
pub hashes_from : {T : Type 0} (texts : List (List ℕ)) (cuts : List (Range ℕ)) (given : List T) (lists : List (Result (Vec ℕ) LinkStop)) → length cuts ≡ length given → length lists ≡ length cuts →
    ((w : ℕ) (p : Range ℕ) (x : T) (y : Result (Vec ℕ) LinkStop) → w < length cuts → IsAt cuts w p → IsAt given w x → IsAt lists w y → Range ℕ × HasHashes texts p y) → AreHashes texts cuts lists
hashes_from texts cuts given lists count many each = record {
  count = many;
  each = λ w p r lt at_p at_r. let x = at_place given w (omega (arith, count, lt)) in (each w p x.0 r lt at_p x.1 at_r).1;
}

-- the tags of texts whose hashes are listed
pub tags_by_hashes : (texts : List (List ℕ)) (start n : ℕ) (hashes tags : List ℕ) → hashes ≡ map (hash_at texts) (range_with_len start n) → tags ≡ map (λ i. tag_of (get_or hashes i 0)) (range_with_len 0 (length hashes)) →
    tags ≡ map (tag_at texts) (range_with_len start n)
tags_by_hashes texts start n hashes tags are is =
    let f : ℕ → ℕ = λ i. tag_of (get_or hashes i 0) in
    let long : length hashes ≡ n = length_hashes texts start n hashes are in
    let wide : length tags ≡ length hashes = ap length is ∙ length-map-range_with_len f 0 (length hashes) in
    ext_get_or 0 tags (map (tag_at texts) (range_with_len start n)) (wide ∙ long ∙ sym (length-map-range_with_len (tag_at texts) start n)) (λ k lt.
    let less : k < n = omega (arith, lt, wide, long) in
    let at : 0 + k ≡ k = omega arith in
    ap (λ l. get_or l k 0) is ∙ get_or-map-range_with_len f 0 (length hashes) k k 0 (omega (arith, less, long)) at ∙ ap tag_of (hash_read texts start n k hashes are less)
    ∙ sym (get_or-map-range_with_len (tag_at texts) start n k (start + k) 0 less refl))

abbrev AreTagsOf : (texts : List (List ℕ)) (a b : ℕ) → List ℕ → Type 0
AreTagsOf texts a b list = list ≡ map (tag_at texts) (range_with_len a (b - a))

tags_beside : (texts : List (List ℕ)) → GoesBeside {X = ℕ} (AreTagsOf texts)
tags_beside texts = record {
  none = first_run (tag_at texts);
  both = λ a m b xs ys low high one two. ap (λ l. l ++ ys) one ∙ ap (λ l. map (tag_at texts) (range_with_len a (m - a)) ++ l) two ∙ sym (two_runs (tag_at texts) a m b low high);
}

abbrev GivesTags : (texts : List (List ℕ)) → Range ℕ → Result (Vec ℕ) LinkStop → Type 0
GivesTags texts p r = IfOk r (λ list. list.items ≡ map (tag_at texts) (range_with_len p.start (p.end - p.start)))

pub tags_joined : {T : Type 0} (texts : List (List ℕ)) (cuts : List (Range ℕ)) (given : List T) (rs : List (Result (Vec ℕ) LinkStop)) (r : Result (Vec ℕ) LinkStop) (list : Vec ℕ) → Tiles 0 (length texts) cuts →
    length cuts ≡ length given → length rs ≡ length cuts →
    ((w : ℕ) (p : Range ℕ) (x : T) (y : Result (Vec ℕ) LinkStop) → w < length cuts → IsAt cuts w p → IsAt given w x → IsAt rs w y → Range ℕ × GivesTags texts p y) →
    IsJoined (shares.joined rs) r → r ≡ Ok list → AreTags texts list.items
tags_joined texts cuts given rs r list tiles count many each joined is =
    let one : (w : ℕ) (p : Range ℕ) (y : Result (Vec ℕ) LinkStop) → w < length cuts → IsAt cuts w p → IsAt rs w y → GivesTags texts p y =
    λ w p y lt at_p at_y. let x = at_place given w (omega (arith, count, lt)) in (each w p x.0 y lt at_p x.1 at_y).1 in
    let gives : AreGivenBy (GivesTags texts) cuts rs = given_from (GivesTags texts) cuts rs many one in
    let whole = joined_beside (AreTagsOf texts) (tags_beside texts) (GivesTags texts) (length texts) cuts r list (inr (rs, gives, joined)) (λ p s holds. holds) tiles is in
    tags_listed texts (length texts - 0) list.items whole
