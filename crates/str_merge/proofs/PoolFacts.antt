-- The pieces of one pool.
use Rattle.std.proofs.Common.{◌≡◌, ℕ, zero, suc, ◌+◌, ◌-◌, ◌<◌, ◌≤◌, ◌^◌, ◌==◌, Bool, true, false, List, [], ◌∷◌, ◌++◌, length, map, get_or, take, drop, refl, sym, ap, ◌∙◌, arith, inl, inr}
use Rattle.std.specs.Prelude.{All, flat_map, if◌then◌else◌}
use Rattle.std.specs.List.{filter, range_with_len}
use Rattle.std.specs.Str.{bytes_eq}
use Rattle.std.proofs.Math.ListN.{get_or-map as get_or-map_default}
use Rattle.std.proofs.Math.Seq.{take-nil}
use Rattle.std.proofs.lemmas.Bool.{cases_lt, eqb-true}
use Rattle.std.proofs.lemmas.List.{drop-drop, drop-take, get_or-map, length-drop, length-take, map-append, take_all, take_min, take-take, drop_all, map-id}
use Rattle.std.proofs.lemmas.List.Elements.{All-append, All-cons, All-filter, All-nil, filter_passes}
use Rattle.std.proofs.lemmas.Simd.{map-map}
use Rattle.std.proofs.lemmas.Slice.Eq.{bytes_eq-Decides}
use Rattle.lk_base.proofs.Ranges.{each_below}
use Rattle.lk_tables.specs.Files.{File, file_at}
use Rattle.lk_tables.specs.Names.{text_of}
use Rattle.link_sections.specs.declared.pieces.Piece.{Piece}
use Rattle.link_sections.specs.MergeSections.{pool_key}
use Rattle.link_sections.specs.Merging.{Site, no_site, pool_members, pool_number, site_key, site_pieces, sites}
use Rattle.link_sections.specs.PoolViews.{piece_text}
use Rattle.str_merge.specs.declared.cuts.Cut.{Cut}
use Rattle.str_merge.specs.Gathering.{piece_at}
use Rattle.str_merge.specs.Placing.{chosen}
use Rattle.str_merge.specs.Sites.{CutPiece, IsIn, cut_text, cut_views, gathered, no_piece, piece_lists, piece_of, pieces_of, span_text, start_of, texts_of}
use Rattle.str_merge.specs.Small.{IsNear}
use Rattle.str_merge.specs.Works.{members_at, nth_site}
use Rattle.str_merge.proofs.Gathered.{at_any}
use Rattle.str_merge.proofs.ListSteps.{by_index}
use Rattle.str_merge.proofs.Ranking.{IsSame}

-- equal bytes
pub bytes_same : IsSame bytes_eq
bytes_same = record {
  itself = λ x. (bytes_eq-Decides x x).1 refl;
  alike = λ x y e z. ap (bytes_eq z) ((bytes_eq-Decides x y).0 e);
}

-- the bytes of pieces that are gathered
pub texts_at : (cuts : List Cut) (i : ℕ) → texts_of (get_or (piece_lists cuts) i []) ≡ get_or (cut_views cuts) i []
texts_at cuts i =
    sym (get_or-map_default texts_of (piece_lists cuts) i [])
    ∙ ap (λ l. get_or l i []) (map-map texts_of pieces_of cuts)

pub gathered_texts : (cuts : List Cut) (places : List ℕ) → texts_of (gathered (piece_lists cuts) places) ≡ gathered (cut_views cuts) places
gathered_texts cuts [] = refl
gathered_texts cuts (i ∷ places) =
    map-append (λ (p : CutPiece). p.text) (get_or (piece_lists cuts) i []) (gathered (piece_lists cuts) places)
    ∙ ap (λ l. l ++ texts_of (gathered (piece_lists cuts) places)) (texts_at cuts i)
    ∙ ap (λ l. get_or (cut_views cuts) i [] ++ l) (gathered_texts cuts places)

-- a filter by index
pub filter_map_is : {X Y : Type 0} (t : Y → Bool) (g : X → Y) (xs : List X) → filter t (map g xs) ≡ map g (filter (λ x. t (g x)) xs)
filter_map_is t g [] = refl
filter_map_is t g (x ∷ xs) =
    ap (λ l. if t (g x) then g x ∷ l else l) (filter_map_is t g xs) ∙ both_ways_map (t (g x)) g x (filter (λ y. t (g y)) xs)
  where
    both_ways_map : {X Y : Type 0} (b : Bool) (g : X → Y) (x : X) (xs : List X) → (if b then g x ∷ map g xs else map g xs) ≡ map g (if b then x ∷ xs else xs)
    both_ways_map true g x xs = refl
    both_ways_map false g x xs = refl

flat_map_is : {X Y Z : Type 0} (f : Y → List Z) (g : X → Y) (xs : List X) → flat_map f (map g xs) ≡ flat_map (λ x. f (g x)) xs
flat_map_is f g [] = refl
flat_map_is f g (x ∷ xs) = ap (λ l. f (g x) ++ l) (flat_map_is f g xs)

flat_map_on : {X Y : Type 0} (f g : X → List Y) (xs : List X) → All (λ x. f x ≡ g x) xs → flat_map f xs ≡ flat_map g xs
flat_map_on f g [] all = refl
flat_map_on f g (x ∷ xs) all = ap (λ l. l ++ flat_map f xs) (all 0 x (omega arith)) ∙ ap (λ l. g x ++ l) (flat_map_on f g xs (λ i d lt. all (suc i) d (omega arith)))

module _ (files : List File) (kept : List Bool) where
  pub members_within : (pool : ℕ) → All (λ i. i < length (sites files kept)) (members_at files kept pool)
  unfolding members_at
  members_within pool =
      let n = length (sites files kept) in
      All-filter (λ i. pool_number files kept (nth_site files kept i) == pool) (λ i. i < n) (range_with_len 0 n) (each_below n)

  pub members_own : (pool : ℕ) → All (λ i. pool_number files kept (nth_site files kept i) ≡ pool) (members_at files kept pool)
  unfolding members_at
  members_own pool =
      let n = length (sites files kept) in
      let test : ℕ → Bool = λ i. pool_number files kept (nth_site files kept i) == pool in
      λ i d lt. eqb-true (pool_number files kept (nth_site files kept (get_or (members_at files kept pool) i d))) pool (filter_passes test (range_with_len 0 n) i d lt)

  pub pool_texts_are : (cuts : List (List (List ℕ))) (pool : ℕ) → cuts ≡ map (site_pieces files) (sites files kept) →
      gathered cuts (members_at files kept pool) ≡ flat_map (site_pieces files) (pool_members files kept pool)
  unfolding pool_members members_at
  pool_texts_are cuts pool is =
      let all = sites files kept in
      let n = length all in
      let own : Site → Bool = λ s. pool_number files kept s == pool in
      let nth : ℕ → Site = nth_site files kept in
      let places = filter (λ i. own (nth i)) (range_with_len 0 n) in
      let low : All (λ i. i < n) places = All-filter (λ i. own (nth i)) (λ i. i < n) (range_with_len 0 n) (each_below n) in
      let whole : all ≡ map nth (range_with_len 0 n) = sym (by_index (λ (s : Site). s) all no_site n refl ∙ map-id all) in
      ap (λ l. gathered l places) is
      ∙ flat_map_on (λ i. get_or (map (site_pieces files) all) i []) (λ i. site_pieces files (nth i)) places
      (λ i d lt. get_or-map (site_pieces files) all (get_or places i d) no_site [] (low i d lt))
      ∙ sym (flat_map_is (site_pieces files) nth places)
      ∙ ap (flat_map (site_pieces files)) (sym (filter_map_is own nth (range_with_len 0 n)) ∙ ap (filter own) (sym whole))

  pub member_texts : (pool : ℕ) → flat_map (λ i. site_pieces files (nth_site files kept i)) (members_at files kept pool) ≡ flat_map (site_pieces files) (pool_members files kept pool)
  member_texts pool =
      let all = sites files kept in
      let low = members_within pool in
      let places = members_at files kept pool in
      sym (flat_map_on (λ i. get_or (map (site_pieces files) all) i []) (λ i. site_pieces files (nth_site files kept i)) places
      (λ i d lt. get_or-map (site_pieces files) all (get_or places i d) no_site [] (low i d lt)))
      ∙ pool_texts_are (map (site_pieces files) all) pool refl

-- bytes that are read where they stand in their file
prefix_read : (all own : List ℕ) (n : ℕ) → own ≡ take n all → take (length own) all ≡ own
prefix_read all own n is =
    ap (λ l. take (length l) all) is ∙ ap (λ k. take k all) (length-take n all) ∙ take_min n all ∙ sym is

prefix_of_prefix : (all own : List ℕ) (n w : ℕ) → own ≡ take n (take w all) → take (length own) all ≡ own
prefix_of_prefix all own n w is = elim (cases_lt w n) [
  | inl more ↦ prefix_read all own w (is ∙ take_all n (take w all) (omega (arith, more, length-take w all)))
  | inr less ↦ prefix_read all own n (is ∙ take-take n w all less)
]

part_read : (bytes : List ℕ) (from len start n : ℕ) → take (length (take n (drop start (take len (drop from bytes))))) (drop (from + start) bytes) ≡ take n (drop start (take len (drop from bytes)))
part_read bytes from len start n =
    let rest = drop from bytes in
    let there = drop start rest in
    let own = take n (drop start (take len rest)) in
    let at : drop (from + start) bytes ≡ there = sym (drop-drop start from bytes) in
    elim (cases_lt len start) [
      | inl past ↦
          let none : drop start (take len rest) ≡ [] = drop_all start (take len rest) (omega (arith, past, length-take len rest)) in
          let empty : own ≡ [] = ap (take n) none ∙ take-nil n in
          ap (λ l. take (length l) (drop (from + start) bytes)) empty ∙ sym empty
      | inr low ↦
          let split : len ≡ start + (len - start) = omega (arith, low) in
          let cut : drop start (take len rest) ≡ take (len - start) there = ap (λ k. drop start (take k rest)) split ∙ drop-take start (len - start) rest in
          ap (take (length own)) at ∙ prefix_of_prefix there own n (len - start) (ap (take n) cut)
    ]

-- what holds of each piece of a section holds of those that are gathered
range_all : (P : CutPiece → Type 0) (give : ℕ → CutPiece) (a n : ℕ) → ((k : ℕ) → P (give k)) → All P (map give (range_with_len a n))
range_all P give a zero each = All-nil P
range_all P give a (suc n) each = All-cons P (give a) (map give (range_with_len (a + 1) n)) (each a) (range_all P give (a + 1) n each)

module _ (P : CutPiece → Type 0) (Q : Cut → Type 0) (each : (c : Cut) (k : ℕ) → Q c → P (piece_of c k)) where
  cut_all : (c : Cut) → Q c → All P (pieces_of c)
  unfolding pieces_of
  cut_all c is = range_all P (piece_of c) 0 (length c.ends.items) (λ k. each c k is)

  list_all : (cuts : List Cut) (i : ℕ) → All Q cuts → All P (get_or (piece_lists cuts) i [])
  list_all [] i all = All-nil P
  list_all (c ∷ cuts) zero all = cut_all c (all 0 c (omega arith))
  list_all (c ∷ cuts) (suc i) all = list_all cuts i (λ k d lt. all (suc k) d (omega arith))

  pub pieces_all : (cuts : List Cut) (places : List ℕ) → All Q cuts → All P (gathered (piece_lists cuts) places)
  pieces_all cuts [] all = All-nil P
  pieces_all cuts (i ∷ places) all =
      All-append P (get_or (piece_lists cuts) i []) (gathered (piece_lists cuts) places) (list_all cuts i all) (pieces_all cuts places all)

-- each piece is what stands in its file
abbrev pub Stands : List File → CutPiece → Type 0
Stands files p = span_text files p.span ≡ p.text

piece_stands : (files : List File) (c : Cut) (k : ℕ) → IsIn files c → Stands files (piece_of c k)
unfolding cut_text text_of
piece_stands files c k is =
    let bytes = (file_at files c.whole.file).bytes in
    let start = start_of c.ends.items k in
    let n = get_or c.ends.items k 0 - start in
    ap (λ l. take (length (take n (drop start l))) (drop (c.whole.from + start) bytes)) is
    ∙ part_read bytes c.whole.from c.whole.len start n ∙ ap (λ l. take n (drop start l)) (sym is)

pub pieces_stand : (files : List File) (cuts : List Cut) (places : List ℕ) → All (IsIn files) cuts → All (Stands files) (gathered (piece_lists cuts) places)
pieces_stand files cuts places all = pieces_all (Stands files) (IsIn files) (piece_stands files) cuts places all

-- its span is as long as its bytes
abbrev IsLong : CutPiece → Type 0
IsLong p = p.span.len ≡ length p.text

pub span_len : (cuts : List Cut) (places : List ℕ) (i : ℕ) →
    (piece_at (gathered (piece_lists cuts) places) i).span.len ≡ length (get_or (texts_of (gathered (piece_lists cuts) places)) i [])
span_len cuts places i =
    let pieces = gathered (piece_lists cuts) places in
    at_any IsLong pieces no_piece (pieces_all IsLong (λ c. Unit {0}) (λ c k is. refl) cuts places (λ k d lt. tt)) refl i
    ∙ ap length (sym (get_or-map_default (λ (p : CutPiece). p.text) pieces i no_piece))

-- no piece has more bytes than its section
abbrev IsBrief : CutPiece → Type 0
IsBrief p = p.span.len < 2 ^ 31

brief : (c : Cut) (k : ℕ) → IsNear c → IsBrief (piece_of c k)
unfolding cut_text
brief c k is =
    let start = start_of c.ends.items k in
    let n = get_or c.ends.items k 0 - start in
    let len = is.len in
    omega (arith, len, length-take n (drop start c.bytes.now), length-drop start c.bytes.now)

pub span_most : (cuts : List Cut) (places : List ℕ) (i : ℕ) → All IsNear cuts → (piece_at (gathered (piece_lists cuts) places) i).span.len < 2 ^ 31
span_most cuts places i near =
    at_any IsBrief (gathered (piece_lists cuts) places) no_piece (pieces_all IsBrief IsNear brief cuts places near) (omega arith) i

-- pieces that are chosen by place
pub chosen_texts : (files : List File) (pieces : List CutPiece) (firsts : List ℕ) → All (Stands files) pieces → All (λ i. i < length pieces) firsts →
    map (span_text files) (map (λ i. (piece_at pieces i).span) firsts) ≡ chosen (texts_of pieces) [] firsts
chosen_texts files pieces [] all within = refl
chosen_texts files pieces (i ∷ firsts) all within =
    let own : span_text files (piece_at pieces i).span ≡ get_or (texts_of pieces) i [] =
    all i no_piece (within 0 i (omega arith)) ∙ sym (get_or-map_default (λ (p : CutPiece). p.text) pieces i no_piece) in
    ap (λ t. t ∷ map (span_text files) (map (λ i. (piece_at pieces i).span) firsts)) own
    ∙ ap (λ l. get_or (texts_of pieces) i [] ∷ l) (chosen_texts files pieces firsts all (λ k d lt. within (suc k) d (omega arith)))

pub piece_texts : (files : List File) (pieces : List Piece) → map (piece_text files) pieces ≡ map (span_text files) (map (λ (p : Piece). p.text) pieces)
piece_texts files pieces = sym (map-map (span_text files) (λ (p : Piece). p.text) pieces)

pub align_some : (files : List File) (s : Site) → 1 ≤ (site_key files s).align
unfolding pool_key
align_some files s = omega arith
