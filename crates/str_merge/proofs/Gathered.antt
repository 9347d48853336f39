-- The pieces of several sections, one section after the other.
use Rattle.std.proofs.Common.{◌≡◌, ℕ, suc, ◌+◌, ◌-◌, ◌<◌, ◌≤◌, List, [], ◌∷◌, ◌++◌, length, map, get_or, drop, take, sym, ap, ◌∙◌, subst, arith, inl, inr}
use Rattle.std.specs.Prelude.{All}
use Rattle.std.proofs.Math.Seq.{drop-append_seam, drop-cons}
use Rattle.std.proofs.lemmas.Bool.{cases_lt}
use Rattle.std.proofs.lemmas.List.{drop-drop, get_or-drop, get_or_append_left, get_or_default, get_or_past, append-nil, length-append, length-drop, map-append, take_all, take_more, drop_all}
use Rattle.std.proofs.lemmas.Grind.{flat_map-append}
use Rattle.intern_race.specs.Texts.{cut_texts}
use Rattle.str_merge.specs.declared.gathering.Place.{Place}
use Rattle.str_merge.specs.Gathering.{IsFound, IsPlace}
use Rattle.str_merge.specs.declared.cuts.Cut.{Cut}
use Rattle.str_merge.specs.Sites.{CutPiece, gathered, piece_lists, pieces_of, texts_of}
use Rattle.str_merge.proofs.CutTexts.{pieces_texts}

-- the list at a place, and those after it
gathered_at : {X : Type 0} (lists : List (List X)) (places : List ℕ) (n : ℕ) → n < length places →
    gathered lists (drop n places) ≡ get_or lists (get_or places n 0) [] ++ gathered lists (drop (n + 1) places)
gathered_at lists places n lt =
    let one : suc n ≡ n + 1 = omega arith in
    ap (gathered lists) (drop-cons places n 0 lt) ∙ ap (λ k. get_or lists (get_or places n 0) [] ++ gathered lists (drop k places)) one

-- a count of their elements, one list on, and at the end
pub counted_next : {X : Type 0} (lists : List (List X)) (places : List ℕ) (n total old new : ℕ) (own : List X) → n < length places →
    old + length (gathered lists (drop n places)) ≡ total → own ≡ get_or lists (get_or places n 0) [] → new ≡ old + length own →
    new + length (gathered lists (drop (n + 1) places)) ≡ total
counted_next lists places n total old new own lt held is more =
    let rest = gathered lists (drop (n + 1) places) in
    let both = ap length (gathered_at lists places n lt) ∙ length-append (get_or lists (get_or places n 0) []) rest in
    omega (arith, held, more, ap length is, both)

pub counted_all : {X : Type 0} (lists : List (List X)) (places : List ℕ) (n total count : ℕ) → length places ≤ n → count + length (gathered lists (drop n places)) ≡ total → count ≡ total
counted_all lists places n total count le held =
    let none = ap (λ l. length (gathered lists l)) (drop_all n places le) in omega (arith, held, none)

-- a place, one list on
pub place_next : {X : Type 0} (lists : List (List X)) (places : List ℕ) (n before next : ℕ) (own : List X) → n < length places →
    IsPlace lists places (record { section = n; before = before }) → own ≡ get_or lists (get_or places n 0) [] → next ≡ before + length own →
    IsPlace lists places (record { section = n + 1; before = next })
place_next lists places n before next own lt held is more =
    let all = gathered lists places in
    let here = get_or lists (get_or places n 0) [] in
    let rest = gathered lists (drop (n + 1) places) in
    ap (λ k. drop k all) more ∙ sym (drop-drop (length own) before all) ∙ ap (drop (length own)) (held ∙ gathered_at lists places n lt)
    ∙ ap (λ l. drop (length l) (here ++ rest)) is ∙ drop-append_seam here rest

-- an element that is there stands in one of the lists
pub not_past : {X : Type 0} (lists : List (List X)) (places : List ℕ) (n before i : ℕ) → length places ≤ n → IsPlace lists places (record { section = n; before = before }) → before ≤ i →
    i < length (gathered lists places) → ⊥
not_past lists places n before i le at low lt =
    let none : drop before (gathered lists places) ≡ [] = at ∙ ap (gathered lists) (drop_all n places le) in
    omega (arith, low, lt, ap length none, length-drop before (gathered lists places))

-- the element that is found
pub found_read : {X : Type 0} (lists : List (List X)) (places : List ℕ) (i : ℕ) (p : Place) (own : List X) (default d : X) → IsFound lists places i p →
    own ≡ get_or lists (get_or places p.section 0) [] → get_or own (i - p.before) default ≡ get_or (gathered lists places) i d
found_read lists places i p own default d found is =
    let here = get_or lists (get_or places p.section 0) [] in
    let rest = gathered lists (drop (p.section + 1) places) in
    let k = i - p.before in
    let at : p.before + k ≡ i = omega (arith, found.from) in
    ap (λ l. get_or l k default) is ∙ get_or_default here k default d found.below ∙ sym (get_or_append_left here rest d k found.below)
    ∙ ap (λ l. get_or l k d) (sym (gathered_at lists places p.section found.within) ∙ sym found.place)
    ∙ get_or-drop p.before (gathered lists places) k d ∙ ap (λ j. get_or (gathered lists places) j d) at

-- what holds of each element, and of what stands for others
pub at_any : {X : Type 0} (P : X → Type 0) (xs : List X) (d : X) → All P xs → P d → (i : ℕ) → P (get_or xs i d)
at_any P xs d all own i = elim (cases_lt i (length xs)) [
  | inl low ↦ all i d low
  | inr past ↦ subst P (sym (get_or_past xs i d past)) own
]

-- the texts of the pieces of sections, one section more, and of all
pub texts_next : (cuts : List Cut) (places : List ℕ) (n : ℕ) (cut : Cut) (old new : List (List ℕ)) → n < length places → pieces_of cut ≡ get_or (piece_lists cuts) (get_or places n 0) [] →
    new ≡ old ++ cut_texts cut.bytes.now cut.ends.items → old ≡ texts_of (gathered (piece_lists cuts) (take n places)) → new ≡ texts_of (gathered (piece_lists cuts) (take (n + 1) places))
texts_next cuts places n cut old new lt read push before =
    let lists = piece_lists cuts in
    let here = get_or lists (get_or places n 0) [] in
    let so_far = gathered lists (take n places) in
    let more : gathered lists (take (n + 1) places) ≡ so_far ++ here =
    ap (gathered lists) (take_more places n 0 lt) ∙ flat_map-append (λ i. get_or lists i []) (take n places) (get_or places n 0 ∷ []) ∙ ap (λ l. so_far ++ l) (append-nil here) in
    push ∙ ap (λ l. l ++ cut_texts cut.bytes.now cut.ends.items) before
    ∙ ap (λ l. texts_of so_far ++ l) (sym (pieces_texts cut) ∙ ap texts_of read)
    ∙ sym (map-append (λ (p : CutPiece). p.text) so_far here) ∙ ap texts_of (sym more)

pub texts_end : (cuts : List Cut) (places : List ℕ) (n : ℕ) (texts : List (List ℕ)) → length places ≤ n → texts ≡ texts_of (gathered (piece_lists cuts) (take n places)) → texts ≡ texts_of (gathered (piece_lists cuts) places)
texts_end cuts places n texts le is = is ∙ ap (λ l. texts_of (gathered (piece_lists cuts) l)) (take_all n places le)
