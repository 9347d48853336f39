-- The pieces of a pool, placed one after the other.
use Rattle.std.proofs.Common.{◌≡◌, ℕ, suc, ◌+◌, ◌<◌, ◌≤◌, List, [], ◌∷◌, ◌++◌, length, map, get_or, take, drop, refl, sym, ap, ◌∙◌, subst, arith, append_assoc, inl, inr}
use Rattle.std.proofs.Math.Seq.{drop-cons}
use Rattle.std.proofs.lemmas.Bool.{cases_lt}
use Rattle.std.proofs.lemmas.List.{map-append, append-nil, get_or_append_left, get_or_push, length-append, take_all, take_more, drop_all}
use Rattle.std.proofs.lemmas.List.Elements.{All-append, All-cons, All-nil}
use Rattle.lk_base.specs.Arithmetic.{up}
use Rattle.lk_base.proofs.Multiples.{up_least}
use Rattle.lk_tables.specs.declared.spans.Span.{Span}
use Rattle.link_sections.specs.declared.pieces.Part.{Part}
use Rattle.link_sections.specs.declared.pieces.Piece.{Piece}
use Rattle.link_sections.specs.declared.pools.Pool.{Pool}
use Rattle.link_sections.specs.Merging.{end_from, positions_from}
use Rattle.link_sections.specs.Pools.{IsPile}
use Rattle.str_merge.specs.declared.placing.Placed.{Placed}
use Rattle.str_merge.specs.Gathering.{piece_at}
use Rattle.str_merge.specs.Orders.{owns}
use Rattle.str_merge.specs.Parts.{parts_by}
use Rattle.str_merge.specs.Placing.{AddsPieces, IsPlaced, chosen}
use Rattle.str_merge.specs.Sites.{CutPiece, texts_of}

-- one piece more, after the end of the others
pile_next : (old new : List Piece) (p : Piece) (end next : ℕ) → ((pool : Pool) → pool.size ≡ end → IsPile pool old) → new ≡ old ++ p ∷ [] → end ≤ p.position →
    p.position + p.text.len ≡ next → (pool : Pool) → pool.size ≡ next → IsPile pool new
pile_next old new p end next held is from to pool size =
    let before : Pool = record { first = 0; size = end } in
    let piled = held before refl in
    let P : List Piece → Type 0 = λ l. IsPile pool l in
    let Inside : Piece → Type 0 = λ q. q.position + q.text.len ≤ pool.size in
    subst P (sym is) (record {
      inside = All-append Inside old (p ∷ [])
          (λ i d lt. let low = piled.inside i d lt in omega (arith, low, from, to, size))
          (All-cons Inside p [] (omega (arith, to, size)) (All-nil Inside));
      order = λ i d lt. elim (cases_lt (i + 1) (length old)) [
        | inl both ↦
            let low = piled.order i d both in
            let first = get_or_append_left old (p ∷ []) d i (omega arith) in
            let second = get_or_append_left old (p ∷ []) d (i + 1) both in
            omega (arith, low, ap (λ (q : Piece). q.position + q.text.len) first, ap (λ (q : Piece). q.position) second)
        | inr last ↦
            let at : i + 1 ≡ length old = omega (arith, lt, last, length-append old (p ∷ [])) in
            let low = piled.inside i d (omega (arith, at)) in
            let first = get_or_append_left old (p ∷ []) d i (omega (arith, at)) in
            let second = get_or_push old p d (i + 1) (sym at) in
            omega (arith, low, from, ap (λ (q : Piece). q.position + q.text.len) first, ap (λ (q : Piece). q.position) second)
      ];
    })

positions_more : (align end : ℕ) (texts : List (List ℕ)) (text : List ℕ) → positions_from align end (texts ++ text ∷ []) ≡ positions_from align end texts ++ up (end_from align end texts) align ∷ []
positions_more align end [] text = refl
positions_more align end (first ∷ texts) text = ap (λ l. up end align ∷ l) (positions_more align (up end align + length first) texts text)

end_more : (align end : ℕ) (texts : List (List ℕ)) (text : List ℕ) → end_from align end (texts ++ text ∷ []) ≡ up (end_from align end texts) align + length text
end_more align end [] text = refl
end_more align end (first ∷ texts) text = end_more align (up end align + length first) texts text

-- a piece of one index more
placed_more : (pieces : List CutPiece) (before : List ℕ) (at align : ℕ) (old new : Placed) (p : Piece) → 1 ≤ align → IsPlaced pieces before align old →
    new.pieces.items ≡ old.pieces.items ++ p ∷ [] → p.text ≡ (piece_at pieces at).span → p.text.len ≡ length (get_or (texts_of pieces) at []) →
    p.position ≡ up old.size align → new.size ≡ p.position + p.text.len → IsPlaced pieces (before ++ at ∷ []) align new
placed_more pieces before at align old new p some held is text long place to =
    let texts = chosen (texts_of pieces) [] before in
    let here = get_or (texts_of pieces) at [] in
    let span : ℕ → Span = λ i. (piece_at pieces i).span in
    let more : chosen (texts_of pieces) [] (before ++ at ∷ []) ≡ texts ++ here ∷ [] = map-append (λ i. get_or (texts_of pieces) i []) before (at ∷ []) in
    let start : p.position ≡ up (end_from align 0 texts) align = place ∙ ap (λ k. up k align) held.size_is in
    record {
      spans_are =
          ap (map (λ (q : Piece). q.text)) is ∙ map-append (λ (q : Piece). q.text) old.pieces.items (p ∷ [])
          ∙ ap (λ l. l ++ p.text ∷ []) held.spans_are ∙ ap (λ t. map span before ++ t ∷ []) text ∙ sym (map-append span before (at ∷ []));
      positions =
          ap (map (λ (q : Piece). q.position)) is ∙ map-append (λ (q : Piece). q.position) old.pieces.items (p ∷ [])
          ∙ ap (λ l. l ++ p.position ∷ []) held.positions ∙ ap (λ k. positions_from align 0 texts ++ k ∷ []) start
          ∙ sym (ap (positions_from align 0) more ∙ positions_more align 0 texts here);
      size_is =
          to ∙ ap (λ k. k + p.text.len) start ∙ ap (λ k. up (end_from align 0 texts) align + k) long
          ∙ sym (ap (end_from align 0) more ∙ end_more align 0 texts here);
      piled = pile_next old.pieces.items new.pieces.items p old.size new.size held.piled is (omega (arith, place, up_least old.size align some)) (sym to);
    }

pub adds_none : (pieces : List CutPiece) (indexes : List ℕ) (align : ℕ) (placed : Placed) → AddsPieces pieces (take 0 indexes) align placed placed
adds_none pieces indexes align placed = λ before is.
    let P : List ℕ → Type 0 = λ l. IsPlaced pieces l align placed in
    subst P (sym (append-nil before)) is

pub adds_more : (pieces : List CutPiece) (indexes : List ℕ) (n align : ℕ) (first old new : Placed) (p : Piece) → 1 ≤ align → n < length indexes →
    AddsPieces pieces (take n indexes) align first old → new.pieces.items ≡ old.pieces.items ++ p ∷ [] → p.text ≡ (piece_at pieces (get_or indexes n 0)).span →
    p.text.len ≡ length (get_or (texts_of pieces) (get_or indexes n 0) []) → p.position ≡ up old.size align → new.size ≡ p.position + p.text.len →
    AddsPieces pieces (take (n + 1) indexes) align first new
adds_more pieces indexes n align first old new p some lt held is text long place to = λ before placed.
    let at = get_or indexes n 0 in
    let P : List ℕ → Type 0 = λ l. IsPlaced pieces l align new in
    subst P (append_assoc before (take n indexes) (at ∷ []) ∙ ap (λ l. before ++ l) (sym (take_more indexes n 0 lt)))
    (placed_more pieces (before ++ take n indexes) at align old new p some (held before placed) is text long place to)

pub adds_all : (pieces : List CutPiece) (indexes : List ℕ) (n align : ℕ) (first placed : Placed) → length indexes ≤ n → AddsPieces pieces (take n indexes) align first placed →
    AddsPieces pieces indexes align first placed
adds_all pieces indexes n align first placed le held =
    let P : List ℕ → Type 0 = λ l. AddsPieces pieces l align first placed in
    subst P (take_all n indexes le) held

-- no piece is placed
pub placed_none : (pieces : List CutPiece) (ns : List ℕ) (align : ℕ) (placed : Placed) → placed.pieces.items ≡ [] → placed.size ≡ 0 → IsPlaced pieces (owns ns 0) align placed
unfolding owns
placed_none pieces ns align placed none start = record {
  spans_are = ap (map (λ (p : Piece). p.text)) none;
  positions = ap (map (λ (p : Piece). p.position)) none;
  size_is = start;
  piled = λ pool size. let P : List Piece → Type 0 = λ l. IsPile pool l in
      subst P (sym none) (record { inside = λ i d lt. absurd (omega (arith, lt)); order = λ i d lt. absurd (omega (arith, lt)) });
}

-- those of one block more
pub placed_next : (pieces : List CutPiece) (ns own : List ℕ) (start end align : ℕ) (old new : Placed) → owns ns start ++ own ≡ owns ns end →
    IsPlaced pieces (owns ns start) align old → AddsPieces pieces own align old new → IsPlaced pieces (owns ns end) align new
placed_next pieces ns own start end align old new both held adds =
    let P : List ℕ → Type 0 = λ l. IsPlaced pieces l align new in
    subst P both (adds (owns ns start) held)

-- parts one after the other
pub record ArePartsUpTo (texts : List (List ℕ)) (numbers : List ℕ) (n start : ℕ) (parts : List Part) : Type 0 where
  pub parts_are : parts ++ parts_by start (drop n texts) (drop n numbers) ≡ parts_by 0 texts numbers

pub part_next : (texts : List (List ℕ)) (numbers : List ℕ) (n start next : ℕ) (old new : List Part) (p : Part) → n < length texts → n < length numbers →
    ArePartsUpTo texts numbers n start old → new ≡ old ++ p ∷ [] → p ≡ record { start = start; piece = get_or numbers n 0 } → next ≡ start + length (get_or texts n []) →
    ArePartsUpTo texts numbers (n + 1) next new
part_next texts numbers n start next old new p lt less held is own to =
    let one : suc n ≡ n + 1 = omega arith in
    let here : Part = record { start = start; piece = get_or numbers n 0 } in
    let text = drop-cons texts n [] lt in
    let number = drop-cons numbers n 0 less in
    record {
      parts_are =
          ap (λ l. l ++ parts_by next (drop (n + 1) texts) (drop (n + 1) numbers)) is
          ∙ append_assoc old (p ∷ []) (parts_by next (drop (n + 1) texts) (drop (n + 1) numbers))
          ∙ ap (λ q. old ++ (q ∷ parts_by next (drop (n + 1) texts) (drop (n + 1) numbers))) own
          ∙ ap (λ k. old ++ (here ∷ parts_by k (drop (n + 1) texts) (drop (n + 1) numbers))) to
          ∙ ap (λ k. old ++ (here ∷ parts_by (start + length (get_or texts n [])) (drop k texts) (drop k numbers))) (sym one)
          ∙ ap (λ l. old ++ parts_by start (get_or texts n [] ∷ drop (suc n) texts) l) (sym number)
          ∙ ap (λ l. old ++ parts_by start l (drop n numbers)) (sym text)
          ∙ held.parts_are;
    }

pub parts_all : (texts : List (List ℕ)) (numbers : List ℕ) (n start : ℕ) (parts : List Part) → n ≡ length texts → ArePartsUpTo texts numbers n start parts → parts ≡ parts_by 0 texts numbers
parts_all texts numbers n start parts e held =
    let none : drop n texts ≡ [] = drop_all n texts (omega arith) in
    sym (append-nil parts) ∙ ap (λ l. parts ++ parts_by start l (drop n numbers)) (sym none) ∙ held.parts_are
