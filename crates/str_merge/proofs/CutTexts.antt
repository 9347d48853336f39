-- The pieces of a section, from where they end.
use Rattle.std.proofs.Common.{◌≡◌, ℕ, zero, suc, ◌+◌, ◌-◌, ◌*◌, ◌/◌, ◌<◌, ◌≤◌, Bool, true, false, List, [], ◌∷◌, ◌++◌, length, map, get_or, take, drop, refl, sym, ap, ◌∙◌, arith, append_assoc, inl, inr}
use Rattle.std.specs.Prelude.{flat_map, if◌then◌else◌}
use Rattle.std.specs.List.{range_with_len}
use Rattle.std.proofs.Math.Nat.{div-mul-le_self, div-zero, mul-le-mul_right}
use Rattle.std.proofs.Math.ListN.{get_or-map as get_or-map_default}
use Rattle.std.proofs.Math.Seq.{drop-cons, take-add}
use Rattle.std.proofs.lemmas.Bool.{cases_Bool}
use Rattle.std.proofs.lemmas.List.{append-nil, drop-drop, drop_all, get_or_append_left, get_or_push, length-append, length-map}
use Rattle.std.proofs.lemmas.List.FromFn.{fill_by_all, get_or-map-range_with_len, length-map-range_with_len, map-range_with_len_more}
use Rattle.std.proofs.lemmas.Simd.{map-map}
use Rattle.link_sections.specs.MergeSections.{elements, is_zero_char, strings_from}
use Rattle.intern_race.specs.Texts.{cut_texts}
use Rattle.str_merge.specs.declared.cuts.Cut.{Cut}
use Rattle.str_merge.specs.Cutting.{no_defects}
use Rattle.str_merge.specs.Sites.{CutPiece, cut_text, no_piece, piece_of, pieces_of, start_of, texts_of}

-- an element is whole
pub element_end : (n size i : ℕ) → i < n / size → i * size + size ≤ n
element_end n size i lt =
    let most = div-mul-le_self n size in
    let up : (i + 1) * size ≤ n / size * size = mul-le-mul_right size (omega arith) in
    omega (arith, most, up)

-- element i
abbrev pub element_of : (size : ℕ) → List ℕ → (i : ℕ) → List ℕ
element_of size bytes i = take size (drop (i * size) bytes)

pub elements_rest : (size i : ℕ) (bytes : List ℕ) → i < length bytes / size → drop i (elements size bytes) ≡ element_of size bytes i ∷ drop (i + 1) (elements size bytes)
unfolding elements
elements_rest size i bytes lt =
    let list = map (element_of size bytes) (range_with_len 0 (length bytes / size)) in
    let count = length-map-range_with_len (element_of size bytes) 0 (length bytes / size) in
    let one : suc i ≡ i + 1 = omega arith in
    drop-cons list i [] (omega (arith, count))
    ∙ ap (λ x. x ∷ drop (suc i) list) (get_or-map-range_with_len (element_of size bytes) 0 (length bytes / size) i i [] lt (omega arith))
    ∙ ap (λ k. element_of size bytes i ∷ drop k list) one

pub elements_end : (size i : ℕ) (bytes : List ℕ) → length bytes / size ≤ i → drop i (elements size bytes) ≡ []
unfolding elements
elements_end size i bytes le =
    drop_all i (map (element_of size bytes) (range_with_len 0 (length bytes / size))) (omega (arith, length-map-range_with_len (element_of size bytes) 0 (length bytes / size)))

pub no_elements : (bytes : List ℕ) → elements 0 bytes ≡ []
unfolding elements
no_elements bytes = ap (λ n. map (element_of 0 bytes) (range_with_len 0 n)) (div-zero (length bytes))

-- the strings so far, and what is begun of the next one
abbrev pub begun : (bytes : List ℕ) → (start at : ℕ) → List ℕ
begun bytes start at = take (at - start) (drop start bytes)

pub record AreStrings (bytes : List ℕ) (size i start : ℕ) (texts : List (List ℕ)) : Type 0 where
  pub order : start ≤ i * size
  pub strings : texts ++ strings_from (begun bytes start (i * size)) (drop i (elements size bytes)) ≡ strings_from [] (elements size bytes)

pub begun_more : (bytes : List ℕ) (start at size : ℕ) → start ≤ at → begun bytes start at ++ take size (drop at bytes) ≡ begun bytes start (at + size)
begun_more bytes start at size le =
    let there : start + (at - start) ≡ at = omega arith in
    let long : (at - start) + size ≡ at + size - start = omega arith in
    ap (λ l. begun bytes start at ++ take size l) (sym (drop-drop (at - start) start bytes ∙ ap (λ k. drop k bytes) there))
    ∙ sym (take-add (at - start) size (drop start bytes)) ∙ ap (λ k. take k (drop start bytes)) long

pub begun_none : (bytes : List ℕ) (at : ℕ) → begun bytes at at ≡ []
begun_none bytes at = let none : at - at ≡ 0 = omega arith in ap (λ k. take k (drop at bytes)) none

pub begun_at : (bytes : List ℕ) (at : ℕ) → at ≡ 0 → begun bytes 0 at ≡ []
begun_at bytes at none = ap (begun bytes 0) none

pub string_step : (bytes : List ℕ) (size i start next : ℕ) (old new : List (List ℕ)) → i < length bytes / size → AreStrings bytes size i start old →
    next ≡ (if is_zero_char (take size (drop (i * size) bytes)) then i * size + size else start) →
    new ≡ old ++ (if is_zero_char (take size (drop (i * size) bytes)) then begun bytes start (i * size + size) ∷ [] else []) →
    AreStrings bytes size (i + 1) next new
string_step bytes size i start next old new lt held to is =
    let at = i * size in
    let end : (i + 1) * size ≡ at + size = omega arith in
    let char = take size (drop at bytes) in
    let rest = drop (i + 1) (elements size bytes) in
    let grown : begun bytes start at ++ char ≡ begun bytes start (at + size) = begun_more bytes start at size held.order in
    let held_at : old ++ (if is_zero_char char then (begun bytes start at ++ char) ∷ strings_from [] rest else strings_from (begun bytes start at ++ char) rest) ≡ strings_from [] (elements size bytes) =
    ap (λ l. old ++ strings_from (begun bytes start at) l) (sym (elements_rest size i bytes lt)) ∙ held.strings in
    elim (cases_Bool (is_zero_char char)) [
      | inl ends ↦
          let here : next ≡ at + size = to ∙ ap (λ b. if b then at + size else start) ends in
          record {
            order = omega (arith, here, end);
            strings =
                ap (λ k. new ++ strings_from (begun bytes k ((i + 1) * size)) rest) (here ∙ sym end)
                ∙ ap (λ l. new ++ strings_from l rest) (begun_none bytes ((i + 1) * size))
                ∙ ap (λ l. l ++ strings_from [] rest) (is ∙ ap (λ b. old ++ (if b then begun bytes start (at + size) ∷ [] else [])) ends)
                ∙ append_assoc old (begun bytes start (at + size) ∷ []) (strings_from [] rest)
                ∙ ap (λ x. old ++ (x ∷ strings_from [] rest)) (sym grown)
                ∙ ap (λ b. old ++ (if b then (begun bytes start at ++ char) ∷ strings_from [] rest else strings_from (begun bytes start at ++ char) rest)) (sym ends)
                ∙ held_at;
          }
      | inr goes ↦
          let here : next ≡ start = to ∙ ap (λ b. if b then at + size else start) goes in
          let low = held.order in
          record {
            order = omega (arith, here, end);
            strings =
                ap (λ k. new ++ strings_from (begun bytes k ((i + 1) * size)) rest) here
                ∙ ap (λ k. new ++ strings_from (begun bytes start k) rest) end
                ∙ ap (λ l. l ++ strings_from (begun bytes start (at + size)) rest) (is ∙ ap (λ b. old ++ (if b then begun bytes start (at + size) ∷ [] else [])) goes ∙ append-nil old)
                ∙ ap (λ l. old ++ strings_from l rest) (sym grown)
                ∙ ap (λ b. old ++ (if b then (begun bytes start at ++ char) ∷ strings_from [] rest else strings_from (begun bytes start at ++ char) rest)) (sym goes)
                ∙ held_at;
          }
    ]

pub strings_all : (bytes : List ℕ) (size i start : ℕ) (texts : List (List ℕ)) → length bytes / size ≤ i → AreStrings bytes size i start texts → texts ≡ strings_from [] (elements size bytes)
strings_all bytes size i start texts le held =
    sym (append-nil texts) ∙ ap (λ l. texts ++ strings_from (begun bytes start (i * size)) l) (sym (elements_end size i bytes le)) ∙ held.strings

pub strings_none : (bytes : List ℕ) (size : ℕ) → AreStrings bytes size 0 0 []
strings_none bytes size = record { order = omega arith; strings = ap (λ l. strings_from l (elements size bytes)) (begun_at bytes (0 * size) (omega arith)) }

pub none_in : (a n : ℕ) → flat_map no_defects (range_with_len a n) ≡ []
none_in a zero = refl
none_in a (suc n) = none_in (a + 1) n

-- where the last piece ends
abbrev pub last_of : (ends : List ℕ) → ℕ
last_of ends = start_of ends (length ends)

-- one end more
last_push : (ends : List ℕ) (e : ℕ) → last_of (ends ++ e ∷ []) ≡ e
last_push ends e =
    let n = length ends in
    let long : length (ends ++ e ∷ []) ≡ suc n = omega (arith, length-append ends (e ∷ [])) in
    ap (λ k. get_or (0 ∷ (ends ++ e ∷ [])) k 0) long ∙ get_or_push ends e 0 n refl

text_kept : (bytes ends : List ℕ) (e k : ℕ) → k < length ends → cut_text bytes (ends ++ e ∷ []) k ≡ cut_text bytes ends k
unfolding cut_text
text_kept bytes ends e k lt =
    let start = start_of ends k in
    ap (λ s. take (get_or (ends ++ e ∷ []) k 0 - s) (drop s bytes)) (get_or_append_left (0 ∷ ends) (e ∷ []) 0 k (omega arith))
    ∙ ap (λ n. take (n - start) (drop start bytes)) (get_or_append_left ends (e ∷ []) 0 k lt)

text_new : (bytes ends : List ℕ) (e : ℕ) → cut_text bytes (ends ++ e ∷ []) (length ends) ≡ begun bytes (last_of ends) e
unfolding cut_text
text_new bytes ends e =
    let n = length ends in
    let start = last_of ends in
    ap (λ s. take (get_or (ends ++ e ∷ []) n 0 - s) (drop s bytes)) (get_or_append_left (0 ∷ ends) (e ∷ []) 0 n (omega arith))
    ∙ ap (λ m. take (m - start) (drop start bytes)) (get_or_push ends e 0 n refl)

texts_push : (bytes ends : List ℕ) (e : ℕ) → cut_texts bytes (ends ++ e ∷ []) ≡ cut_texts bytes ends ++ begun bytes (last_of ends) e ∷ []
unfolding cut_texts
texts_push bytes ends e =
    let n = length ends in
    let new = cut_text bytes (ends ++ e ∷ []) in
    let old = cut_text bytes ends in
    let long : length (ends ++ e ∷ []) ≡ n + 1 = length-append ends (e ∷ []) in
    let same : map new (range_with_len 0 n) ≡ map old (range_with_len 0 n) =
    fill_by_all old (map new (range_with_len 0 n)) n [] (length-map-range_with_len new 0 n)
    (λ k lt. get_or-map-range_with_len new 0 n k k [] lt (omega arith) ∙ text_kept bytes ends e k lt) in
    ap (λ m. map new (range_with_len 0 m)) long ∙ map-range_with_len_more new 0 n n (omega arith)
    ∙ ap (λ l. l ++ new n ∷ []) same ∙ ap (λ t. map old (range_with_len 0 n) ++ t ∷ []) (text_new bytes ends e)

pub pushed_last : (old new : List ℕ) (e : ℕ) → new ≡ old ++ e ∷ [] → e ≡ last_of new
pushed_last old new e is = sym (ap last_of is ∙ last_push old e)

pub pushed_texts : (bytes old new : List ℕ) (start e : ℕ) → start ≡ last_of old → new ≡ old ++ e ∷ [] → cut_texts bytes new ≡ cut_texts bytes old ++ begun bytes start e ∷ []
pushed_texts bytes old new start e at is =
    ap (cut_texts bytes) is ∙ texts_push bytes old e ∙ ap (λ s. cut_texts bytes old ++ begun bytes s e ∷ []) (sym at)

-- an end more if a character ends a string
pub ended_last : (old new : List ℕ) (e : ℕ) (ends : Bool) → new ≡ old ++ (if ends then e ∷ [] else []) → last_of new ≡ (if ends then e else last_of old)
ended_last old new e true is = sym (pushed_last old new e is)
ended_last old new e false is = ap last_of (is ∙ append-nil old)

pub ended_texts : (bytes old new : List ℕ) (e : ℕ) (ends : Bool) → new ≡ old ++ (if ends then e ∷ [] else []) →
    cut_texts bytes new ≡ cut_texts bytes old ++ (if ends then begun bytes (last_of old) e ∷ [] else [])
ended_texts bytes old new e true is = pushed_texts bytes old new (last_of old) e refl is
ended_texts bytes old new e false is = ap (cut_texts bytes) (is ∙ append-nil old) ∙ sym (append-nil (cut_texts bytes old))

abbrev no_texts : List (List ℕ)
no_texts = []

both_none : (b : Bool) → (if b then no_texts else no_texts) ≡ no_texts
both_none true = refl
both_none false = refl

-- bytes of elements without a size have no pieces
pub none_cut : (bytes : List ℕ) (size : ℕ) (b : Bool) → size ≡ 0 → [] ≡ (if b then strings_from [] (elements size bytes) else elements size bytes)
none_cut bytes size b none =
    let list : elements size bytes ≡ [] = ap (λ n. elements n bytes) none ∙ no_elements bytes in
    sym (ap (λ (l : List (List ℕ)). if b then strings_from [] l else l) list ∙ both_none b)

-- the pieces of a section
pub pieces_count : (c : Cut) → length (pieces_of c) ≡ length c.ends.items
unfolding pieces_of
pieces_count c = length-map-range_with_len (piece_of c) 0 (length c.ends.items)

pub piece_read : (c : Cut) (k : ℕ) (d : CutPiece) → k < length c.ends.items → get_or (pieces_of c) k d ≡ piece_of c k
unfolding pieces_of
piece_read c k d lt = get_or-map-range_with_len (piece_of c) 0 (length c.ends.items) k k d lt (omega arith)

pub pieces_texts : (c : Cut) → texts_of (pieces_of c) ≡ cut_texts c.bytes.now c.ends.items
unfolding cut_texts pieces_of
pieces_texts c = map-map (λ (p : CutPiece). p.text) (piece_of c) (range_with_len 0 (length c.ends.items))

pub text_read : (c : Cut) (k : ℕ) → k < length c.ends.items → get_or (texts_of (pieces_of c)) k [] ≡ cut_text c.bytes.now c.ends.items k
text_read c k lt = get_or-map_default (λ (p : CutPiece). p.text) (pieces_of c) k no_piece ∙ ap (λ (p : CutPiece). p.text) (piece_read c k no_piece lt)

pub texts_count : (c : Cut) → length (texts_of (pieces_of c)) ≡ length c.ends.items
texts_count c = length-map (pieces_of c) (λ (p : CutPiece). p.text) ∙ pieces_count c
