-- Lists by index, and loops that add to a list.
use Rattle.std.proofs.Common.{◌≡◌, ℕ, ◌+◌, ◌<◌, List, [], ◌∷◌, ◌++◌, length, map, get_or, refl, sym, ap, ◌∙◌, arith, append_assoc}
use Rattle.std.specs.Prelude.{flat_map}
use Rattle.std.specs.List.{range_with_len}
use Rattle.std.proofs.lemmas.List.{length-map, get_or-map, map-append}
use Rattle.std.proofs.lemmas.List.FromFn.{fill_by_all}
use Rattle.lk_base.proofs.Loops.{map_step, flat_step}

pub by_index : {X Y : Type 0} (f : X → Y) (xs : List X) (d : X) (n : ℕ) → n ≡ length xs → map (λ i. f (get_or xs i d)) (range_with_len 0 n) ≡ map f xs
by_index f xs d n e =
    sym (fill_by_all (λ i. f (get_or xs i d)) (map f xs) n (f d) (length-map xs f ∙ sym e) (λ k lt. get_or-map f xs k d (f d) (omega arith)))

-- one element more, seen through a view
pub view_step : {X Z : Type 0} (view : X → Z) (give : ℕ → Z) (i : ℕ) (old new : List X) (x : X) → map view old ≡ map give (range_with_len 0 i) → new ≡ old ++ x ∷ [] →
    view x ≡ give i → map view new ≡ map give (range_with_len 0 (i + 1))
view_step view give i old new x held is own =
    map_step give i (map view old) (map view new) held (ap (map view) is ∙ map-append view old (x ∷ []) ∙ ap (λ z. map view old ++ z ∷ []) own)

flat_more : {Z : Type 0} (give : ℕ → List Z) (i : ℕ) → flat_map give (range_with_len 0 i) ++ give i ≡ flat_map give (range_with_len 0 (i + 1))
flat_more give i = flat_step give i (flat_map give (range_with_len 0 i)) (flat_map give (range_with_len 0 i) ++ give i) refl refl

-- some elements more, seen through a view, after a prefix
pub rows_step : {X Z : Type 0} (view : X → Z) (give : ℕ → List Z) (i : ℕ) (prefix : List Z) (old new : List X) →
    map view old ≡ prefix ++ flat_map give (range_with_len 0 i) → map view new ≡ map view old ++ give i → map view new ≡ prefix ++ flat_map give (range_with_len 0 (i + 1))
rows_step view give i prefix old new held is =
    is ∙ ap (λ l. l ++ give i) held ∙ append_assoc prefix (flat_map give (range_with_len 0 i)) (give i)
    ∙ ap (λ l. prefix ++ l) (flat_more give i)
