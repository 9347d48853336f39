-- A list whose elements are set one after the other, by number.
use Rattle.std.proofs.Common.{◌≡◌, ℕ, ◌+◌, ◌<◌, ◌≤◌, List, [], ◌∷◌, ◌++◌, length, map, drop, set, get_or, refl, sym, ap, ◌∙◌, arith, append_assoc}
use Rattle.std.specs.List.{range_with_len}
use Rattle.std.proofs.lemmas.List.{append-nil, drop_all, drop_more, get_or_at, length-append, length-drop, set_at}
use Rattle.std.proofs.lemmas.List.FromFn.{length-map-range_with_len, map-range_with_len_more}

-- the first f are set, the others are as they were
abbrev pub put : {X : Type 0} → (ℕ → X) → List X → ℕ → List X
put g old f = map g (range_with_len 0 f) ++ drop f old

pub length_put : {X : Type 0} (g : ℕ → X) (old : List X) (f : ℕ) → f ≤ length old → length (put g old f) ≡ length old
length_put g old f le =
    omega (arith, length-append (map g (range_with_len 0 f)) (drop f old), length-map-range_with_len g 0 f, length-drop f old)

pub put_here : {X : Type 0} (g : ℕ → X) (old : List X) (f : ℕ) (d : X) → f < length old → get_or (put g old f) f d ≡ get_or old f d
put_here g old f d lt =
    ap (λ l. get_or (map g (range_with_len 0 f) ++ l) f d) (drop_more old f d lt)
    ∙ get_or_at (map g (range_with_len 0 f)) (get_or old f d) (drop (f + 1) old) d f (length-map-range_with_len g 0 f)

pub put_next : {X : Type 0} (g : ℕ → X) (old : List X) (f : ℕ) (d : X) → f < length old → set (put g old f) f (g f) ≡ put g old (f + 1)
put_next g old f d lt =
    let done = map g (range_with_len 0 f) in
    ap (λ l. set (done ++ l) f (g f)) (drop_more old f d lt)
    ∙ set_at done (get_or old f d) (drop (f + 1) old) (g f) f (length-map-range_with_len g 0 f)
    ∙ sym (append_assoc done (g f ∷ []) (drop (f + 1) old))
    ∙ ap (λ l. l ++ drop (f + 1) old) (sym (map-range_with_len_more g 0 f f (omega arith)))

pub put_all : {X : Type 0} (g : ℕ → X) (old : List X) (f : ℕ) → f ≡ length old → put g old f ≡ map g (range_with_len 0 (length old))
put_all g old f e =
    ap (λ l. map g (range_with_len 0 f) ++ l) (drop_all f old (omega arith)) ∙ append-nil (map g (range_with_len 0 f)) ∙ ap (λ k. map g (range_with_len 0 k)) e

-- an iterator over a list: what was given, and what is left
pub given_more : {X : Type 0} (yielded items rest all : List X) (x : X) → yielded ++ items ≡ all → items ≡ x ∷ rest → (yielded ++ x ∷ []) ++ rest ≡ all
given_more yielded items rest all x is next = append_assoc yielded (x ∷ []) rest ∙ ap (λ l. yielded ++ l) (sym next) ∙ is

pub given_here : {X : Type 0} (yielded items rest all : List X) (x d : X) → yielded ++ items ≡ all → items ≡ x ∷ rest → get_or all (length yielded) d ≡ x
given_here yielded items rest all x d is next =
    ap (λ l. get_or l (length yielded) d) (sym is ∙ ap (λ l. yielded ++ l) next) ∙ get_or_at yielded x rest d (length yielded) refl

pub given_within : {X : Type 0} (yielded items rest all : List X) (x : X) → yielded ++ items ≡ all → items ≡ x ∷ rest → length yielded < length all
given_within yielded items rest all x is next =
    omega (arith, ap length is, ap length next, length-append yielded items)

pub given_all : {X : Type 0} (yielded items all : List X) → yielded ++ items ≡ all → length items ≡ 0 → length yielded ≡ length all
given_all yielded items all is none = omega (arith, ap length is, length-append yielded items)
