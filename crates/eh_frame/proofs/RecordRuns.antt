-- Runs of a list side by side are one run; so are what is made of them, element by element, and that nothing is found in them.
use Rattle.std.proofs.Common.{◌≡◌, ℕ, ◌+◌, ◌-◌, ◌<◌, ◌≤◌, List, [], ◌∷◌, ◌++◌, length, map, take, drop, get_or, flat_map, sym, ap, ◌∙◌, arith, append_assoc, append-nil}
use Rattle.std.specs.List.{All}
use Rattle.std.proofs.Math.Seq.{take-add}
use Rattle.std.proofs.lemmas.Grind.{flat_map-append}
use Rattle.std.proofs.lemmas.List.{drop-drop, drop_all, drop_more, length-drop, length-take-le, map-append, take_all}
use Rattle.std.proofs.lemmas.List.Elements.{All-drop, All-take}
use Rattle.work_split.proofs.RunsBeside.{GoesBeside}

-- the elements from one number on and before another
abbrev pub part : {X : Type 0} → List X → (a b : ℕ) → List X
part xs a b = take (b - a) (drop a xs)

no_part : {X : Type 0} (xs : List X) (a : ℕ) → part xs a a ≡ []
no_part xs a = let e : a - a ≡ 0 = omega arith in ap (λ n. take n (drop a xs)) e

both_parts : {X : Type 0} (xs : List X) (a m b : ℕ) → a ≤ m → m ≤ b → part xs a b ≡ part xs a m ++ part xs m b
both_parts xs a m b low high =
    let n : b - a ≡ (m - a) + (b - m) = omega arith in
    let from : a + (m - a) ≡ m = omega arith in
    ap (λ k. take k (drop a xs)) n ∙ take-add (m - a) (b - m) (drop a xs)
    ∙ ap (λ l. take (m - a) (drop a xs) ++ take (b - m) l) (drop-drop (m - a) a xs ∙ ap (λ k. drop k xs) from)

pub whole_part : {X : Type 0} (xs : List X) → part xs 0 (length xs) ≡ xs
whole_part xs = take_all (length xs - 0) xs (omega arith)

pub part_length : {X : Type 0} (xs : List X) (a b : ℕ) → a ≤ b → b ≤ length xs → length (part xs a b) ≡ b - a
part_length xs a b low high = length-take-le (b - a) (drop a xs) (omega (arith, low, high, length-drop a xs))

pub part_all : {X : Type 0} (P : X → Type 0) (xs : List X) (a b : ℕ) → All P xs → All P (part xs a b)
part_all P xs a b all = All-take P (b - a) (drop a xs) (All-drop P a xs all)

pub mapped_beside : {X Y : Type 0} (f : X → Y) (xs : List X) → GoesBeside {X = Y} (λ a b ys. ys ≡ map f (part xs a b))
mapped_beside f xs = record {
  none = λ a. sym (ap (map f) (no_part xs a));
  both = λ a m b ys zs low high one two.
      ap (λ l. l ++ zs) one ∙ ap (λ l. map f (part xs a m) ++ l) two
      ∙ sym (ap (map f) (both_parts xs a m b low high) ∙ map-append f (part xs a m) (part xs m b));
}

pub clear_beside : {X Y Z : Type 0} (f : X → List Y) (xs : List X) → GoesBeside {X = Z} (λ a b done. flat_map f (part xs a b) ≡ [])
clear_beside f xs = record {
  none = λ a. ap (flat_map f) (no_part xs a);
  both = λ a m b done more low high one two.
      ap (flat_map f) (both_parts xs a m b low high) ∙ flat_map-append f (part xs a m) (part xs m b) ∙ ap (λ l. l ++ flat_map f (part xs m b)) one ∙ two;
}

-- the same of what is made, seen through a view
pub viewed_beside : {X Y Z : Type 0} (view : Z → Y) (f : X → Y) (xs : List X) → GoesBeside {X = Z} (λ a b zs. map view zs ≡ map f (part xs a b))
viewed_beside view f xs = record {
  none = λ a. sym (ap (map f) (no_part xs a));
  both = λ a m b ys zs low high one two.
      map-append view ys zs ∙ ap (λ l. l ++ map view zs) one ∙ ap (λ l. map f (part xs a m) ++ l) two
      ∙ sym (ap (map f) (both_parts xs a m b low high) ∙ map-append f (part xs a m) (part xs m b));
}

-- a loop that makes one for each element: one step on, and at the end
pub viewed_step : {X Y Z : Type 0} (view : Z → Y) (f : X → Y) (xs : List X) (i : ℕ) (x : X) (old new : List Z) (z : Z) (whole : List Y) → i < length xs → new ≡ old ++ z ∷ [] →
    view z ≡ f (get_or xs i x) → map view old ++ map f (drop i xs) ≡ whole → map view new ++ map f (drop (i + 1) xs) ≡ whole
viewed_step view f xs i x old new z whole lt new_is z_is held =
    let rest = map f (drop (i + 1) xs) in
    ap (λ l. map view l ++ rest) new_is ∙ ap (λ l. l ++ rest) (map-append view old (z ∷ []))
    ∙ append_assoc (map view old) (view z ∷ []) rest ∙ ap (λ y. map view old ++ (y ∷ rest)) z_is
    ∙ ap (λ l. map view old ++ map f l) (sym (drop_more xs i x lt)) ∙ held

pub viewed_end : {X Y Z : Type 0} (view : Z → Y) (f : X → Y) (xs : List X) (i : ℕ) (old : List Z) (whole : List Y) → length xs ≤ i →
    map view old ++ map f (drop i xs) ≡ whole → map view old ≡ whole
viewed_end view f xs i old whole le held =
    sym (append-nil (map view old)) ∙ ap (λ l. map view old ++ map f l) (sym (drop_all i xs le)) ∙ held
